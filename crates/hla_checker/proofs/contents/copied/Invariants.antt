use Rattle.std.proofs.Common.{◌≡◌, take}
use Rattle.hla_checker.proofs.contents.copied.Given as goal

-- copies of the values so far
abbrev pub invariant-loop-value : goal.invariant-loop-value
invariant-loop-value l = l.copies ≡ take l.value-index l.values
