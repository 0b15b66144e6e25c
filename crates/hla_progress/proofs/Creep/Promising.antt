-- What a promise is at least, once the bound has risen
use Rattle.std.proofs.Common.{◌≡◌, ℕ, ◌+◌, ◌≤◌, min, true, refl, ap, subst, inl, inr, arith, Option, Some, None}
use Rattle.std.proofs.lemmas.Bool.{cond_both}
use Rattle.hla_base.specs.declared.row.AdvanceRequest.{AdvanceRequest}
use Rattle.hla_base.specs.declared.row.TimeRow.{TimeRow}
use Rattle.hla_base.specs.Tables.{forever}
use Rattle.hla_base.specs.Rows.{is_next, is_constrained, keep_if, next_request, width}
use Rattle.hla_null_message.specs.Promise.{least_wake, promise_in}
use Rattle.hla_component_rules.specs.Queues.{first_stamp}
use Rattle.hla_machine.specs.Central.{BelowAllTso, BelowWake, BelowOut, BelowRequest}
use Rattle.hla_components.specs.Components.{Components}
use Rattle.hla_components.specs.Component.{local_bound, promise}
use Rattle.hla_components.specs.CentralOf.{central}
use Rattle.hla_components.specs.Invariant.{Inv}
use Rattle.hla_components.specs.Headline.{IsLedTo}
use Rattle.hla_components.proofs.Wiring.Queues.{first_rest}
use Rattle.hla_components.proofs.Refinement.LedTo.{led_inv}
use Rattle.hla_progress.specs.CatchingUp.{IsSlow}
use Rattle.hla_progress.proofs.Keeping.Changes.{next_asked}
use Rattle.hla_progress.proofs.Keeping.Firsts.{led_firsts}
use Rattle.hla_progress.proofs.Keeping.Live.{first_above}
use Rattle.hla_progress.proofs.CatchUp.FirstRound.{floor_le}

-- who is in a next-event request for others is constrained
pub next_constrained : (r : TimeRow) (q : AdvanceRequest) → next_request r ≡ Some q → is_constrained r ≡ true
next_constrained r q e = cond_both (is_constrained r) (keep_if (λ q. is_next q.kind) r.advance) None (λ o. o ≡ Some q → is_constrained r ≡ true) (λ y _. y) (λ _ e. absurd (cc)) e

module _ (s : Components) (g x : ℕ) (is : IsLedTo s) where
  inv : Inv s
  inv = led_inv s is

  queue_past : (q : AdvanceRequest) (p : ℕ) → next_request (s.row g) ≡ Some q → (s.row g).first_pick ≡ Some p → (p ≤ q.asked) × (p ≤ first_stamp (s.tso g))
  queue_past q p waits first =
      let asks = next_asked (s.row g) q waits in
      let asked = (inv.numbers g).first q p asks first in
      let top = (inv.numbers g).asked q asks in
      let past = first_rest p forever (s.tso g) ((led_firsts s is g q p (next_constrained (s.row g) q waits) asks first).1) (omega arith) in
      (asked, omega arith)

  -- what is at most the wake and the bound is at most what the component takes for its wake
  wake_ge : (q : AdvanceRequest) (o : Option ℕ) (v : ℕ) → next_request (s.row g) ≡ Some q → (s.row g).first_pick ≡ o → BelowWake (BelowAllTso (central s) g) q o v → min v (local_bound s g) ≤ least_wake o q.asked (first_stamp (s.tso g)) (local_bound s g)
  wake_ge q None v waits first b = omega (arith, b.0, first_above s g inv v b.1)
  wake_ge q (Some p) v waits first b = let w = queue_past q p waits first in omega (arith, b, w.0, w.1)

  request_ge : (q : AdvanceRequest) → next_request (s.row g) ≡ Some q → BelowRequest (BelowAllTso (central s) g) (s.row g) (Some q) x → min x (local_bound s g + width (s.row g).lookahead q.kind) ≤ promise s g
  request_ge q waits b =
      let same : promise s g ≡ promise_in (s.row g) (Some q) (first_stamp (s.tso g)) (local_bound s g) = ap (λ (o : Option AdvanceRequest). promise_in (s.row g) o (first_stamp (s.tso g)) (local_bound s g)) waits in
      omega (arith, same, b.1, wake_ge q (s.row g).first_pick b.0 waits refl b.2)

  -- who is slow for x, but may send nothing below it, promises x, or its bound and its width
  pub slow_ge : (a : IsSlow s x g) → BelowOut (BelowAllTso (central s) g) (s.row g) x → min x (local_bound s g + width (s.row g).lookahead a.request.kind) ≤ promise s g
  slow_ge a (inl l) = omega (arith, l, floor_le (s.row g) (next_request (s.row g)) (first_stamp (s.tso g)) (local_bound s g))
  slow_ge a (inr b) = request_ge a.request a.waits (subst (λ (o : Option AdvanceRequest). BelowRequest (BelowAllTso (central s) g) (s.row g) o x) a.waits b)
