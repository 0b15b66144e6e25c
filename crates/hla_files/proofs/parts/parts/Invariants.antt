use Rattle.std.proofs.Common.{length}
use Rattle.hla_files.proofs.PartLemmas.{IsCutAt}
use Rattle.hla_files.proofs.parts.parts.Given as goal

abbrev pub invariant-loop-line : goal.invariant-loop-line
invariant-loop-line l = IsCutAt l.input l.at l.lines

abbrev pub decreases-loop-line : goal.decreases-loop-line
decreases-loop-line l = length l.lines
