use Rattle.std.proofs.Common.{◌≡◌, length}
use Rattle.hla_history.specs.Closing.{records_by}
use Rattle.hla_history.proofs.comparing.is_transcript.Given as goal

abbrev pub invariant-loop-record : goal.invariant-loop-record
invariant-loop-record l = record {
  from : l.rest ≡ records_by l.actor l.left → l.transcript ≡ records_by l.actor l.fn.history;
  to : l.transcript ≡ records_by l.actor l.fn.history → l.rest ≡ records_by l.actor l.left;
}

abbrev pub decreases-loop-record : goal.decreases-loop-record
decreases-loop-record l = length l.left
