use Rattle.std.proofs.Common.{ℕ, ◌<◌}
use Rattle.hla_in_order.specs.Turns.{IsJoinedAt}
use Rattle.hla_in_order.proofs.acting.place_of.Given as goal

-- nobody before this place is joined as that federate
abbrev pub invariant-loop-place : goal.invariant-loop-place
invariant-loop-place g l = (k : ℕ) → k < l.place → IsJoinedAt l.players k l.number → ⊥
