use Rattle.hla_callers.specs.Close.{Stands, StandBefore}
use Rattle.hla_callers.proofs.comparing.put_transcripts.Given as goal

abbrev pub invariant-loop-left : goal.invariant-loop-left
invariant-loop-left g l = record {
  before : StandBefore l.table l.lefts l.left-index;
  own : Stands l.table l.own;
}
