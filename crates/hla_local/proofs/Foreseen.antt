-- What would be picked up stands first in its queue
use Rattle.std.proofs.Common.{◌≡◌, ℕ, cond, leb, ◌&&◌, true, false, Bool, Option, None, Some, List, [], ◌∷◌, slice_get, refl, sym, ap, ◌∙◌}
use Rattle.hla_base.specs.declared.content.Event.{Event}
use Rattle.hla_base.specs.declared.row.AdvanceRequest.{AdvanceRequest}
use Rattle.hla_base.specs.declared.row.TimeRow.{TimeRow}
use Rattle.hla_base.specs.Rows.{is_flush, is_pending, is_constrained, grant_time}
use Rattle.hla_component_rules.specs.declared.control.Control.{Control}
use Rattle.hla_component_rules.specs.Queues.{first_stamp}
use Rattle.hla_component_rules.specs.LocalValue.{LocalValue}
use Rattle.hla_component_rules.specs.declared.picked.NextPick.TheVariants as next
use Rattle.hla_component_rules.specs.declared.picked.Picked.TheVariants as picked
use Rattle.hla_component_rules.specs.Picking.{Pick, NoPick, PickControl, PickRo, PickRegulates, PickConstrains, PickTso, PickGrant, pick, ro_pick, role_pick, advance_pick, tso_pick, grant_pick, is_picked, is_reached, is_held_back, flush_time, picked_by, next_pick_by, local_pick, least_bound}

-- what is picked up stands first in its queue
abbrev StandsFirst : List Control → List Event → List Event → Pick → Type 0
StandsFirst controls ro tso (PickControl k rest) = controls ≡ k ∷ rest
StandsFirst controls ro tso (PickRo e rest) = ro ≡ e ∷ rest
StandsFirst controls ro tso (PickTso q e rest) = tso ≡ e ∷ rest
StandsFirst controls ro tso p = Unit {0}

grants_first : (controls : List Control) (ro tso : List Event) (r : TimeRow) (q : AdvanceRequest) (bound : ℕ) → StandsFirst controls ro tso (grant_pick r q tso bound)
grants_first controls ro tso r q bound = by_flush (is_flush q.kind)
  where
    by_reach : (b : Bool) → StandsFirst controls ro tso (cond b (PickGrant q (grant_time r q)) NoPick)
    by_reach true = tt
    by_reach false = tt

    by_flush : (b : Bool) → StandsFirst controls ro tso (cond b (PickGrant q (flush_time r q bound)) (cond (is_reached q.kind (grant_time r q) bound && is_reached q.kind (grant_time r q) (first_stamp tso)) (PickGrant q (grant_time r q)) NoPick))
    by_flush true = tt
    by_flush false = by_reach (is_reached q.kind (grant_time r q) bound && is_reached q.kind (grant_time r q) (first_stamp tso))

orders_first : (controls : List Control) (ro tso : List Event) (r : TimeRow) (q : AdvanceRequest) (bound : ℕ) → StandsFirst controls ro tso (tso_pick r q tso bound)
orders_first controls ro [] r q bound = grants_first controls ro [] r q bound
orders_first controls ro (e ∷ es) r q bound = by_picked (is_picked r q e.stamp bound)
  where
    by_picked : (b : Bool) → StandsFirst controls ro (e ∷ es) (cond b (PickTso q e es) (grant_pick r q (e ∷ es) bound))
    by_picked true = refl
    by_picked false = grants_first controls ro (e ∷ es) r q bound

advances_first : (controls : List Control) (ro tso : List Event) (r : TimeRow) (advance : Option AdvanceRequest) (bound : ℕ) → StandsFirst controls ro tso (advance_pick r advance tso bound)
advances_first controls ro tso r None bound = tt
advances_first controls ro tso r (Some q) bound = by_constraint (is_constrained r)
  where
    by_constraint : (b : Bool) → StandsFirst controls ro tso (cond b (tso_pick r q tso bound) (PickGrant q q.asked))
    by_constraint true = orders_first controls ro tso r q bound
    by_constraint false = tt

roles_first : (controls : List Control) (ro tso : List Event) (r : TimeRow) (bound : ℕ) → StandsFirst controls ro tso (role_pick r tso bound)
roles_first controls ro tso r bound = by_regulation (is_pending r.regulating)
  where
    by_constraint : (b : Bool) → StandsFirst controls ro tso (cond b PickConstrains (advance_pick r r.advance tso bound))
    by_constraint true = tt
    by_constraint false = advances_first controls ro tso r r.advance bound

    by_regulation : (b : Bool) → StandsFirst controls ro tso (cond b PickRegulates (cond (is_pending r.constrained && leb r.time bound) PickConstrains (advance_pick r r.advance tso bound)))
    by_regulation true = tt
    by_regulation false = by_constraint (is_pending r.constrained && leb r.time bound)

receives_first : (controls : List Control) (ro tso : List Event) (r : TimeRow) (bound : ℕ) → StandsFirst controls ro tso (ro_pick r ro tso bound)
receives_first controls [] tso r bound = roles_first controls [] tso r bound
receives_first controls (e ∷ es) tso r bound = by_delivery (is_held_back r)
  where
    by_delivery : (b : Bool) → StandsFirst controls (e ∷ es) tso (cond b (role_pick r tso bound) (PickRo e es))
    by_delivery true = roles_first controls (e ∷ es) tso r bound
    by_delivery false = refl

picks_first : (controls : List Control) (ro tso : List Event) (r : TimeRow) (bound : ℕ) → StandsFirst controls ro tso (pick controls r ro tso bound)
picks_first [] ro tso r bound = receives_first [] ro tso r bound
picks_first (k ∷ ks) ro tso r bound = refl

-- a message in time-stamp order that would be picked up is the first of its queue
ordered_by : (controls : List Control) (ro tso : List Event) (r : TimeRow) (e : Event) (p : Pick) → StandsFirst controls ro tso p → next_pick_by p ≡ next.Ordered → slice_get tso 0 ≡ Some e → picked_by r p ≡ picked.Ordered e
ordered_by controls ro tso r e (PickTso q x rest) first is at = let same : Some x ≡ Some e = ap (λ (es : List Event). slice_get es 0) (sym first) ∙ at in let one : x ≡ e = cc in ap picked.Ordered one
ordered_by controls ro tso r e NoPick first is at = absurd (cc)
ordered_by controls ro tso r e (PickControl k rest) first is at = absurd (cc)
ordered_by controls ro tso r e (PickRo x rest) first is at = absurd (cc)
ordered_by controls ro tso r e PickRegulates first is at = absurd (cc)
ordered_by controls ro tso r e PickConstrains first is at = absurd (cc)
ordered_by controls ro tso r e (PickGrant q t) first is at = absurd (cc)

pub ordered_ahead : (l : LocalValue) (e : Event) → next_pick_by (local_pick l) ≡ next.Ordered → slice_get l.tso 0 ≡ Some e → picked_by l.row (local_pick l) ≡ picked.Ordered e
ordered_ahead l e is at = ordered_by l.controls l.ro l.tso l.row e (local_pick l) (picks_first l.controls l.ro l.tso l.row (least_bound l)) is at
