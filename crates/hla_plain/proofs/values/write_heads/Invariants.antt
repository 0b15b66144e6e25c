-- So far those that were passed have their heads.
use Rattle.std.proofs.Common.{◌≡◌, map}
use Rattle.std.proofs.Math.Seq.{paste}
use Rattle.hla_plain.specs.Values.{head_of}
use Rattle.hla_plain.proofs.values.write_heads.Given as goal

abbrev pub invariant-loop-place : goal.invariant-loop-place
invariant-loop-place l = l.heads ≡ paste l.initial.heads 0 (map head_of l.values) l.place
