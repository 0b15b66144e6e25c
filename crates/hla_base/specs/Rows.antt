-- The row of one federate: its roles and its time (HLA 1.3, time management)
use Rattle.std.specs.Prelude.{ℕ, ◌≡◌, ◌≤◌, ◌+◌, ◌-◌, ◌*◌, max, min, cond, eqb, leb, ltb, not, ◌&&◌, ◌||◌, Bool, true, false, Option, Some, None}
use Rattle.hla_base.specs.declared.row.Role.{Role}
use Rattle.hla_base.specs.declared.row.Role.TheVariants.{Disabled, Pending, Enabled}
use Rattle.hla_base.specs.declared.row.AdvanceKind.{AdvanceKind}
use Rattle.hla_base.specs.declared.row.AdvanceKind.TheVariants.{TimeAdvance, TimeAdvanceAvailable, NextEvent, NextEventAvailable, FlushQueue}
use Rattle.hla_base.specs.declared.row.AdvanceRequest.{AdvanceRequest}
use Rattle.hla_base.specs.declared.row.TimeRow.{TimeRow}
use Rattle.hla_base.specs.Limits.{max_time, max_enablings}
use Rattle.hla_base.specs.Tables.{or_else, when}

-- ---- kinds of advance
-- a strict request leaves nothing behind at the time that it is granted
abbrev pub is_strict : AdvanceKind → Bool
is_strict TimeAdvance = true
is_strict TimeAdvanceAvailable = false
is_strict NextEvent = true
is_strict NextEventAvailable = false
is_strict FlushQueue = false

abbrev pub is_next : AdvanceKind → Bool
is_next TimeAdvance = false
is_next TimeAdvanceAvailable = false
is_next NextEvent = true
is_next NextEventAvailable = true
is_next FlushQueue = false

abbrev pub is_flush : AdvanceKind → Bool
is_flush TimeAdvance = false
is_flush TimeAdvanceAvailable = false
is_flush NextEvent = false
is_flush NextEventAvailable = false
is_flush FlushQueue = true

-- the width of an advance: how far above the time that is granted the federate may send
abbrev pub width : ℕ → AdvanceKind → ℕ
width lookahead kind = cond (is_strict kind) (max lookahead 1) lookahead

-- the time t, or for a strict request the next one after it
abbrev pub reach : AdvanceKind → ℕ → ℕ
reach kind t = cond (is_strict kind) (t + 1) t

-- ---- roles
abbrev pub is_enabled : Role → Bool
is_enabled Disabled = false
is_enabled Pending = false
is_enabled Enabled = true

abbrev pub is_pending : Role → Bool
is_pending Disabled = false
is_pending Pending = true
is_pending Enabled = false

abbrev pub is_disabled : Role → Bool
is_disabled Disabled = true
is_disabled Pending = false
is_disabled Enabled = false

-- it regulates, or has asked to
abbrev pub is_regulator : TimeRow → Bool
is_regulator r = not (is_disabled r.regulating)

abbrev pub is_constrained : TimeRow → Bool
is_constrained r = is_enabled r.constrained

-- nothing below it may still be sent to the federate; an unconstrained one has none
abbrev pub bar_of : TimeRow → ℕ
bar_of r = cond (is_constrained r) r.bar 0

abbrev pub is_none_of : {X : Type 0} → Option X → Bool
is_none_of None = true
is_none_of (Some x) = false

abbrev pub is_advancing : TimeRow → Bool
is_advancing r = not (is_none_of r.advance)

-- a federate that has just joined
abbrev pub new_row : TimeRow
new_row = record {
  time = 0;
  lookahead = 0;
  floor = 0;
  regulating = Disabled;
  regulation_time = 0;
  constrained = Disabled;
  asynchronous = false;
  advance = None;
  first_pick = None;
  flushed = None;
  bar = 0;
  enablings = 0;
}

-- ---- what it may send
abbrev pub least_stamp_in : ℕ → ℕ → Option AdvanceRequest → ℕ
least_stamp_in floor lookahead None = floor
least_stamp_in floor lookahead (Some q) = max floor (q.asked + width lookahead q.kind)

-- the least stamp that it may send in time-stamp order
abbrev pub least_stamp : TimeRow → ℕ
least_stamp r = least_stamp_in r.floor r.lookahead r.advance

abbrev pub keep_if : {X : Type 0} → (X → Bool) → Option X → Option X
keep_if p None = None
keep_if p (Some x) = cond (p x) (Some x) None

-- the next-event request in which it waits, if it is constrained
abbrev pub next_request : TimeRow → Option AdvanceRequest
next_request r = when (is_constrained r) (keep_if (λ q. is_next q.kind) r.advance)

-- ---- the row after a service
-- Time Advance Request and its kin. Only the floor of a constrained federate's next-event or flush request waits for the grant
abbrev pub row_after_request : TimeRow → AdvanceKind → ℕ → TimeRow
row_after_request r kind a = record r {
  advance = Some (record { kind = kind; asked = a });
  first_pick = None;
  flushed = None;
  floor = cond ((is_next kind || is_flush kind) && is_constrained r) r.floor (max r.floor (a + width r.lookahead kind));
}

-- Enable Time Regulation, from the entry e on
abbrev pub row_with_entry : TimeRow → ℕ → ℕ → TimeRow
row_with_entry r lookahead e = record r {
  lookahead = lookahead;
  floor = e;
  regulating = Pending;
  regulation_time = cond (is_constrained r) r.time (e - lookahead);
  enablings = r.enablings + 1;
}

-- ---- the row after a callback
abbrev pub row_after_regulation_enabled : TimeRow → TimeRow
row_after_regulation_enabled r = record r { regulating = Enabled; time = r.regulation_time }

abbrev pub row_after_constraint_enabled : TimeRow → TimeRow
row_after_constraint_enabled r = record r { constrained = Enabled; bar = r.time }

-- the bar after a pick or a grant at t: a strict request leaves nothing at t
abbrev pub bar_after : TimeRow → AdvanceKind → ℕ → ℕ
bar_after r kind t = max r.bar (reach kind t)

abbrev pub least_of : ℕ → Option ℕ → ℕ
least_of s None = s
least_of s (Some t) = min s t

-- a pick in stamp order, at s; the picks of a flush leave the bar
abbrev pub row_after_pick : TimeRow → AdvanceRequest → ℕ → TimeRow
row_after_pick r q s = record r {
  first_pick = cond (is_flush q.kind) r.first_pick (or_else r.first_pick (Some s));
  flushed = cond (is_flush q.kind) (Some (least_of s r.flushed)) r.flushed;
  bar = cond (is_flush q.kind) r.bar (bar_after r q.kind s);
}

abbrev pub first_or : Option ℕ → ℕ → ℕ
first_or None a = a
first_or (Some p) a = p

-- where a request is granted that is no flush: a next-event request at its first pick
abbrev pub grant_time : TimeRow → AdvanceRequest → ℕ
grant_time r q = cond (is_next q.kind && is_constrained r) (first_or r.first_pick q.asked) q.asked

-- a grant at t ends the advance, and raises floor and bar
abbrev pub row_after_grant : TimeRow → AdvanceRequest → ℕ → TimeRow
row_after_grant r q t = record r {
  time = t;
  advance = None;
  first_pick = None;
  flushed = None;
  floor = max r.floor (t + width r.lookahead q.kind);
  bar = cond (is_constrained r) (bar_after r q.kind t) r.bar;
}

-- ---- the numbers of a row, so that none of them wraps in code
pub record RowNumbers (r : TimeRow) : Type 0 where
  pub time : r.time ≤ max_time
  pub lookahead : r.lookahead ≤ max_time
  pub floor : r.floor ≤ 2 * max_time
  pub regulation : r.regulation_time ≤ max_time
  pub bar : r.bar ≤ max_time + 1
  pub enablings : r.enablings ≤ max_enablings
  pub asked : (q : AdvanceRequest) → r.advance ≡ Some q → q.asked ≤ max_time
  pub first : (q : AdvanceRequest) (p : ℕ) → r.advance ≡ Some q → r.first_pick ≡ Some p → p ≤ q.asked
