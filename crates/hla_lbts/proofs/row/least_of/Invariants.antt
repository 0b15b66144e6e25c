-- The least bound of the rows so far.
use Rattle.std.proofs.Common.{take}
use Rattle.hla_lbts.proofs.RowLemmas.{IsLeastSoFar}
use Rattle.hla_lbts.proofs.row.least_of.Given as goal

abbrev pub invariant-loop-row : goal.invariant-loop-row
invariant-loop-row l = IsLeastSoFar (take l.row-index l.rows) l.least l.holders
