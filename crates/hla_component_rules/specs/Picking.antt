-- What a tick picks up: the first that there is
use Rattle.std.specs.Prelude.{ℕ, ◌+◌, min, cond, eqb, leb, not, ◌&&◌, ◌||◌, Bool, true, false, Option, Some, None, List, [], ◌∷◌, filter, ltb, ◌++◌}
use Rattle.hla_base.specs.declared.content.Event.{Event}
use Rattle.hla_base.specs.declared.row.AdvanceKind.{AdvanceKind}
use Rattle.hla_base.specs.declared.row.AdvanceRequest.{AdvanceRequest}
use Rattle.hla_base.specs.declared.row.TimeRow.{TimeRow}
use Rattle.hla_base.specs.Limits.{max_joins}
use Rattle.hla_base.specs.Tables.{least}
use Rattle.hla_base.specs.Rows.{is_next, is_flush, is_pending, is_advancing, is_constrained, reach, grant_time, least_of, row_after_regulation_enabled, row_after_constraint_enabled, row_after_pick, row_after_grant}
use Rattle.hla_lbts.specs.Peers.{peers_of}
use Rattle.hla_component_rules.specs.LocalValue.{LocalValue}
use Rattle.hla_component_rules.specs.declared.picked.NextPick.{NextPick}
use Rattle.hla_component_rules.specs.declared.picked.NextPick.TheVariants as next
use Rattle.hla_component_rules.specs.declared.picked.Picked.{Picked}
use Rattle.hla_component_rules.specs.declared.picked.Picked.TheVariants as picked
use Rattle.hla_component_rules.specs.declared.control.Control.{Control}
use Rattle.hla_component_rules.specs.declared.control.Control.TheVariants.{ToDiscover, ToTell}
use Rattle.hla_component_rules.specs.Queues.{first_stamp}

-- ---- what a tick picks up: the first that there is
pub data Pick : Type 0 where
  NoPick : Pick
  PickControl : (control : Control) (rest : List Control) → Pick
  PickRo : (event : Event) (rest : List Event) → Pick
  PickRegulates : Pick
  PickConstrains : Pick
  PickTso : (request : AdvanceRequest) (event : Event) (rest : List Event) → Pick
  PickGrant : (request : AdvanceRequest) (time : ℕ) → Pick

abbrev pub is_reached : AdvanceKind → ℕ → ℕ → Bool
is_reached kind t bound = leb (reach kind t) bound

abbrev pub is_first_fit : AdvanceKind → Option ℕ → ℕ → Bool
is_first_fit kind None s = true
is_first_fit kind (Some p) s = not (is_next kind) || eqb s p

-- a flush with nothing left is granted the least of the asked time, the bound and what it picked up
abbrev pub flush_time : TimeRow → AdvanceRequest → ℕ → ℕ
flush_time r q bound = least_of (min q.asked bound) r.flushed

abbrev pub grant_pick : TimeRow → AdvanceRequest → List Event → ℕ → Pick
grant_pick r q tso bound = cond (is_flush q.kind)
    (PickGrant q (flush_time r q bound))
    (let t = grant_time r q in cond (is_reached q.kind t bound && is_reached q.kind t (first_stamp tso)) (PickGrant q t) NoPick)

abbrev pub is_picked : TimeRow → AdvanceRequest → ℕ → ℕ → Bool
is_picked r q s bound = is_flush q.kind || (leb s q.asked && is_reached q.kind s bound && is_first_fit q.kind r.first_pick s)

abbrev pub tso_pick : TimeRow → AdvanceRequest → List Event → ℕ → Pick
tso_pick r q [] bound = grant_pick r q [] bound
tso_pick r q (e ∷ es) bound = cond (is_picked r q e.stamp bound) (PickTso q e es) (grant_pick r q (e ∷ es) bound)

abbrev pub advance_pick : TimeRow → Option AdvanceRequest → List Event → ℕ → Pick
advance_pick r None tso bound = NoPick
advance_pick r (Some q) tso bound = cond (is_constrained r) (tso_pick r q tso bound) (PickGrant q q.asked)

abbrev pub role_pick : TimeRow → List Event → ℕ → Pick
role_pick r tso bound = cond (is_pending r.regulating) PickRegulates
    (cond (is_pending r.constrained && leb r.time bound) PickConstrains (advance_pick r r.advance tso bound))

-- a constrained federate waits with receive order for its next advance, without asynchronous delivery
abbrev pub is_held_back : TimeRow → Bool
is_held_back r = is_constrained r && not (is_advancing r) && not r.asynchronous

abbrev pub ro_pick : TimeRow → List Event → List Event → ℕ → Pick
ro_pick r [] tso bound = role_pick r tso bound
ro_pick r (e ∷ es) tso bound = cond (is_held_back r) (role_pick r tso bound) (PickRo e es)

abbrev pub pick : List Control → TimeRow → List Event → List Event → ℕ → Pick
pick [] r ro tso bound = ro_pick r ro tso bound
pick (k ∷ ks) r ro tso bound = PickControl k ks

-- ---- what is done with it
abbrev pub is_below : ℕ → Event → Bool
is_below t e = ltb e.stamp t

-- what is picked up, without what is left
abbrev pub picked_by : TimeRow → Pick → Picked
picked_by r NoPick = picked.Nothing
picked_by r (PickControl k rest) = picked.Control k
picked_by r (PickRo e rest) = picked.Received e
picked_by r PickRegulates = picked.Regulation r.regulation_time
picked_by r PickConstrains = picked.Constraint r.time
picked_by r (PickTso q e rest) = picked.Ordered e
picked_by r (PickGrant q t) = picked.Grant t

-- may a copy of it be refused: that of a message or a discovery takes memory, and that of a notice one more share of its label
abbrev pub copies_content : Picked → Bool
copies_content (picked.Control (ToDiscover from d)) = true
copies_content (picked.Control (ToTell n)) = true
copies_content (picked.Received e) = true
copies_content (picked.Ordered e) = true
copies_content p = false

-- what is picked up, without what it carries
abbrev pub next_pick_by : Pick → NextPick
next_pick_by NoPick = next.Nothing
next_pick_by (PickControl k rest) = next.Control
next_pick_by (PickRo e rest) = next.Received
next_pick_by PickRegulates = next.Regulation
next_pick_by PickConstrains = next.Constraint
next_pick_by (PickTso q e rest) = next.Ordered
next_pick_by (PickGrant q t) = next.Grant t

-- the component behind it; what waits in stamp order below the time of a federate that is constrained from now on is given in receive order
abbrev pub local_picking : LocalValue → Pick → LocalValue
local_picking l NoPick = l
local_picking l (PickControl k rest) = record l { controls = rest }
local_picking l (PickRo e rest) = record l { ro = rest }
local_picking l PickRegulates = record l { row = row_after_regulation_enabled l.row }
local_picking l PickConstrains = record l { row = row_after_constraint_enabled l.row; tso = filter (λ e. not (is_below l.row.time e)) l.tso; ro = l.ro ++ filter (is_below l.row.time) l.tso }
local_picking l (PickTso q e rest) = record l { row = row_after_pick l.row q e.stamp; tso = rest }
local_picking l (PickGrant q t) = record l { row = row_after_grant l.row q t }

-- the least bound of its peers, which are numbered up to the limit of joins
abbrev pub least_bound : LocalValue → ℕ
least_bound l = least (max_joins + 1) (peers_of l.peers).bound

-- what a component picks up at a tick
abbrev pub local_pick : LocalValue → Pick
local_pick l = pick l.controls l.row l.ro l.tso (least_bound l)
