use Rattle.std.proofs.Common.{◌≡◌, ◌++◌, length}
use Rattle.hla_commands.proofs.arguments.names.Given as goal

abbrev pub invariant-loop-word : goal.invariant-loop-word
invariant-loop-word l = l.found ++ l.words ≡ l.fn.words

abbrev pub decreases-loop-word : goal.decreases-loop-word
decreases-loop-word l = length l.words
