use Rattle.std.proofs.Common.{◌≡◌, ◌↔◌, ℕ, Some, slice_get, length}
use Rattle.hla_history.specs.Closing.{records_by}
use Rattle.hla_history.proofs.comparing.match_all.Given as goal

abbrev pub invariant-loop-record : goal.invariant-loop-record
invariant-loop-record l = (n : ℕ) → (slice_get l.transcripts n ≡ Some (Some (records_by n l.left))) ↔ (slice_get l.fn.transcripts n ≡ Some (Some (records_by n l.fn.history)))

abbrev pub decreases-loop-record : goal.decreases-loop-record
decreases-loop-record l = length l.left
