use Rattle.std.proofs.Common.{◌≡◌, length}
use Rattle.hla_commands.specs.Script.{pairs_and_stamp}
use Rattle.hla_commands.proofs.PairLemmas.{with_pairs}
use Rattle.hla_commands.proofs.arguments.pairs_and_stamp.Given as goal

abbrev pub invariant-loop-word : goal.invariant-loop-word
invariant-loop-word l = with_pairs l.found (pairs_and_stamp l.words) ≡ pairs_and_stamp l.fn.words

abbrev pub decreases-loop-word : goal.decreases-loop-word
decreases-loop-word l = length l.words
