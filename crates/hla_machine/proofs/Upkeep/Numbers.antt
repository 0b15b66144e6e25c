-- The numbers of each row stay within their limits
use Rattle.std.proofs.Common.{◌≡◌, ⊎_elim, ℕ, ◌+◌, ◌-◌, ◌*◌, ◌≤◌, ◌<◌, max, cond, eqb, not, ◌&&◌, ◌||◌, ◌≢◌, Bool, true, false, refl, sym, subst, arith, le_trans, eqb-true, eq-eqb, Option, Some, None}
use Rattle.std.proofs.lemmas.Bool.{cases_Bool, cond_both, ltb-false, ltb-true}
use Rattle.std.proofs.lemmas.Bool.Decides.{nat_tests}
use Rattle.hla_base.specs.declared.row.Role.{Role}
use Rattle.hla_base.specs.declared.row.Role.TheVariants.{Disabled, Pending}
use Rattle.hla_base.specs.declared.row.AdvanceKind.{AdvanceKind}
use Rattle.hla_base.specs.declared.row.AdvanceKind.TheVariants as kind
use Rattle.hla_base.specs.declared.row.AdvanceRequest.{AdvanceRequest}
use Rattle.hla_base.specs.declared.row.TimeRow.{TimeRow}
use Rattle.hla_base.specs.declared.content.Content.{Content}
use Rattle.hla_base.specs.declared.content.Content.TheVariants as content
use Rattle.hla_base.specs.declared.number.EventHandle.{EventHandle}
use Rattle.hla_base.specs.Limits.{max_time, max_enablings}
use Rattle.hla_base.specs.Tables.{upd, or_else, when}
use Rattle.hla_base.specs.Rows.{is_strict, is_next, is_flush, is_constrained, new_row, width, row_after_request, row_with_entry, row_after_regulation_enabled, row_after_constraint_enabled, row_after_pick, first_or, row_after_grant, bar_after, keep_if, RowNumbers, bar_of}
use Rattle.hla_callbacks.specs.declared.callback.Callback.{Callback}
use Rattle.hla_callbacks.specs.declared.callback.Callback.TheVariants as callback
use Rattle.hla_callbacks.specs.declared.callback.Delivery.{Delivery}
use Rattle.hla_callbacks.specs.declared.callback.Delivery.TheVariants as delivery
use Rattle.hla_machine.specs.declared.service.Service.{Service}
use Rattle.hla_machine.specs.declared.service.Service.TheVariants as service
use Rattle.hla_machine.specs.declared.service.ResignAction.TheVariants.{DeleteObjects, NoAction}
use Rattle.hla_machine.specs.declared.step.Step.{Step}
use Rattle.hla_machine.specs.declared.step.Step.TheVariants.{Join, Call, Carry, Tick}
use Rattle.hla_machine.specs.declared.step.Answer.{Answer}
use Rattle.hla_machine.specs.declared.step.Answer.TheVariants as answer
use Rattle.hla_machine.specs.declared.step.Carried.{Carried}
use Rattle.hla_machine.specs.declared.step.Carried.TheVariants as carried
use Rattle.hla_machine.specs.declared.step.Outcome.{Outcome}
use Rattle.hla_machine.specs.declared.step.Outcome.TheVariants as outcome
use Rattle.hla_machine.specs.declared.step.Choice.{Choice}
use Rattle.hla_machine.specs.declared.step.Choice.TheVariants as choice
use Rattle.hla_machine.specs.Directory.{deletion_sent, deletions_sent, objects_of, update_sent, interaction_sent}
use Rattle.hla_machine.specs.Central.{Central, BelowAllTso, BelowWake, low_entry, BelowSomeWake}
use Rattle.hla_machine.specs.Callbacks.{MayDeliver, MayPickUp, MayGrant, after_delivery, after_constraint, after_pick}
use Rattle.hla_base.specs.RowRefusals.{request_tests, regulation_tests}
use Rattle.hla_machine.specs.Refusals.{refusal}
use Rattle.hla_machine.specs.Machine.{central_seen, MayEnter, MayAnswer, MayDo, MayEnd, after_enter, after_cease, after_call, after_carry, after_done, after}
use Rattle.hla_base.proofs.Tables.{upd_each, greatest_le}
use Rattle.hla_machine.proofs.Basics.Tests.{AllClear, clear_call, not-is-false}
use Rattle.hla_machine.proofs.Basics.GrantCases.{grant_free, grant_flush, grant_plain}
use Rattle.hla_machine.proofs.Upkeep.Runs.{row_after_is}
use Rattle.hla_machine.proofs.Upkeep.Services.{entry_may}
use Rattle.hla_machine.proofs.Upkeep.Turns.{sent_rows}

abbrev pub AllNumbers : (ℕ → TimeRow) → Type 0
AllNumbers row = (f : ℕ) → RowNumbers (row f)

-- ---- rows
pub numbers_new : RowNumbers new_row
numbers_new = record {
  time = omega arith;
  lookahead = omega arith;
  floor = omega arith;
  regulation = omega arith;
  bar = omega arith;
  enablings = omega arith;
  asked = λ q e. absurd (cc);
  first = λ q p e i. absurd (cc);
}

-- roles and asynchronous delivery are no numbers
roles : (r : TimeRow) (regulating constrained : Role) (asynchronous : Bool) → RowNumbers r → RowNumbers (record r { regulating = regulating; constrained = constrained; asynchronous = asynchronous })
roles r regulating constrained asynchronous n = record {
  time = n.time;
  lookahead = n.lookahead;
  floor = n.floor;
  regulation = n.regulation;
  bar = n.bar;
  enablings = n.enablings;
  asked = n.asked;
  first = n.first;
}

looked_ahead : (r : TimeRow) (lookahead : ℕ) → lookahead ≤ max_time → RowNumbers r → RowNumbers (record r { lookahead = lookahead })
looked_ahead r lookahead low n = record {
  time = n.time;
  lookahead = low;
  floor = n.floor;
  regulation = n.regulation;
  bar = n.bar;
  enablings = n.enablings;
  asked = n.asked;
  first = n.first;
}

width_low : (lookahead : ℕ) (kind : AdvanceKind) → lookahead ≤ max_time → width lookahead kind ≤ max_time
width_low lookahead kind low = cond_both (is_strict kind) (max lookahead 1) lookahead (λ w. w ≤ max_time) (λ _. grind (arith, nat_tests)) (λ _. low)

requested_low : (r : TimeRow) (kind : AdvanceKind) (a : ℕ) → a ≤ max_time → RowNumbers r → RowNumbers (row_after_request r kind a)
requested_low r kind a low n =
    let w = width_low r.lookahead kind n.lookahead in
    let high : a + width r.lookahead kind ≤ 2 * max_time = omega (arith, low, w) in
    let top : max r.floor (a + width r.lookahead kind) ≤ 2 * max_time = max_low r.floor (a + width r.lookahead kind) (2 * max_time) n.floor high in
    record {
      time = n.time;
      lookahead = n.lookahead;
      floor = cond_both ((is_next kind || is_flush kind) && is_constrained r) r.floor (max r.floor (a + width r.lookahead kind)) (λ x. x ≤ 2 * max_time) (λ _. n.floor) (λ _. top);
      regulation = n.regulation;
      bar = n.bar;
      enablings = n.enablings;
      asked = λ q e. let same : record { kind = kind; asked = a } ≡ q = cc in subst (λ (q : AdvanceRequest). q.asked ≤ max_time) same low;
      first = λ q p e i. absurd (cc);
    }
  where
    max_low : (x y z : ℕ) → x ≤ z → y ≤ z → max x y ≤ z
    max_low x y z a b = omega (arith, a, b)

entered_low : (r : TimeRow) (lookahead e : ℕ) → lookahead ≤ max_time → e ≤ 2 * max_time → (is_constrained r ≡ false → e - lookahead ≤ max_time) → r.enablings < max_enablings
    → RowNumbers r → RowNumbers (row_with_entry r lookahead e)
entered_low r lookahead e low high free more n = record {
  time = n.time;
  lookahead = low;
  floor = high;
  regulation = cond_both (is_constrained r) r.time (e - lookahead) (λ x. x ≤ max_time) (λ _. n.time) free;
  bar = n.bar;
  enablings = omega (arith, more);
  asked = n.asked;
  first = n.first;
}

regulates_low : (r : TimeRow) → RowNumbers r → RowNumbers (row_after_regulation_enabled r)
regulates_low r n = record {
  time = n.regulation;
  lookahead = n.lookahead;
  floor = n.floor;
  regulation = n.regulation;
  bar = n.bar;
  enablings = n.enablings;
  asked = n.asked;
  first = n.first;
}

constrains_low : (r : TimeRow) → RowNumbers r → RowNumbers (row_after_constraint_enabled r)
constrains_low r n = record {
  time = n.time;
  lookahead = n.lookahead;
  floor = n.floor;
  regulation = n.regulation;
  bar = omega (arith, n.time);
  enablings = n.enablings;
  asked = n.asked;
  first = n.first;
}

bar_low : (r : TimeRow) (kind : AdvanceKind) (t : ℕ) → r.bar ≤ max_time + 1 → t ≤ max_time → bar_after r kind t ≤ max_time + 1
bar_low r kind t bar low =
    let step : cond (is_strict kind) (t + 1) t ≤ max_time + 1 = cond_both (is_strict kind) (t + 1) t (λ x. x ≤ max_time + 1) (λ _. omega (arith, low)) (λ _. omega (arith, low)) in
    omega (arith, bar, step)

-- the first pick is the one that there is, or this one
first_low : (o : Option ℕ) (b : Bool) (s x : ℕ) → ((p : ℕ) → o ≡ Some p → p ≤ x) → (b ≡ false → s ≤ x) → (p : ℕ) → cond b o (or_else o (Some s)) ≡ Some p → p ≤ x
first_low (Some y) true s x old new p is = old p is
first_low (Some y) false s x old new p is = old p is
first_low None true s x old new p is = absurd (cc)
first_low None false s x old new p is = let e : s ≡ p = cc in subst (λ (n : ℕ). n ≤ x) e (new refl)

picked_low : (r : TimeRow) (q : AdvanceRequest) (s : ℕ) → r.advance ≡ Some q → (is_flush q.kind ≡ false → s ≤ q.asked) → RowNumbers r → RowNumbers (row_after_pick r q s)
picked_low r q s asks low n = record {
  time = n.time;
  lookahead = n.lookahead;
  floor = n.floor;
  regulation = n.regulation;
  bar = cond_both (is_flush q.kind) r.bar (bar_after r q.kind s) (λ x. x ≤ max_time + 1) (λ _. n.bar) (λ no. bar_low r q.kind s n.bar (le_trans (low no) (n.asked q asks)));
  enablings = n.enablings;
  asked = n.asked;
  first = λ y p ask is. let same : q ≡ y = cc in subst (λ (y : AdvanceRequest). p ≤ y.asked) same (first_low r.first_pick (is_flush q.kind) s q.asked (λ p i. n.first q p asks i) low p is);
}

granted_low : (r : TimeRow) (q : AdvanceRequest) (t : ℕ) → t ≤ max_time → RowNumbers r → RowNumbers (row_after_grant r q t)
granted_low r q t low n =
    let w = width_low r.lookahead q.kind n.lookahead in
    let floor = n.floor in
    record {
      time = low;
      lookahead = n.lookahead;
      floor = omega (arith, floor, low, w);
      regulation = n.regulation;
      bar = cond_both (is_constrained r) (bar_after r q.kind t) r.bar (λ x. x ≤ max_time + 1) (λ _. bar_low r q.kind t n.bar low) (λ _. n.bar);
      enablings = n.enablings;
      asked = λ q e. absurd (cc);
      first = λ q p e i. absurd (cc);
    }

-- ---- one row of the central state
set_numbers : (c : Central) (f : ℕ) (r : TimeRow) → AllNumbers c.row → RowNumbers r → AllNumbers (upd c.row f r)
set_numbers c f r all here = upd_each c.row f r (λ i y. RowNumbers y) here (λ j ne. all j)

-- ---- the time of a grant is at most the asked time
at_grant : (b : Bool) (o : Option ℕ) (asked : ℕ) → ((p : ℕ) → o ≡ Some p → p ≤ asked) → cond b (first_or o asked) asked ≤ asked
at_grant true None asked h = omega arith
at_grant true (Some p) asked h = h p refl
at_grant false o asked h = omega arith

pub grant_low : (c : Central) (f : ℕ) (q : AdvanceRequest) (t : ℕ) → RowNumbers (c.row f) → (c.row f).advance ≡ Some q → MayGrant c f t q → t ≤ q.asked
grant_low c f q t n asks may = ⊎_elim
    (λ (con : is_constrained (c.row f) ≡ true). ⊎_elim
    (λ (y : is_flush q.kind ≡ true). (grant_flush c f q t may con y).1)
    (λ (no : is_flush q.kind ≡ false).
    let same = (grant_plain c f q t may con no).0 in
    let low = at_grant (is_next q.kind && is_constrained (c.row f)) (c.row f).first_pick q.asked (λ p i. n.first q p asks i) in
    subst (λ (x : ℕ). x ≤ q.asked) (sym same) low)
    (cases_Bool (is_flush q.kind)))
    (λ (free : is_constrained (c.row f) ≡ false). let same = grant_free c f q t may free in omega (arith, same))
    (cases_Bool (is_constrained (c.row f)))

-- ---- the entry
bar_of_low : (r : TimeRow) → RowNumbers r → bar_of r ≤ max_time + 1
bar_of_low r n = cond_both (is_constrained r) r.bar 0 (λ x. x ≤ max_time + 1) (λ _. n.bar) (λ _. omega arith)

low_low : (c : Central) (earliest x : ℕ) → AllNumbers c.row → earliest ≤ x → max_time + 1 ≤ x → low_entry c.directory c.row earliest ≤ x
unfolding low_entry
low_low c earliest x all first bars = greatest_le c.directory.next_federate earliest (λ g. bar_of (c.row g)) x first (λ g l. le_trans (bar_of_low (c.row g) (all g)) bars)

wake_low : (below : ℕ → Type 0) (r : TimeRow) (q : AdvanceRequest) (o : Option ℕ) (e : ℕ) → q.asked ≤ max_time → ((p : ℕ) → o ≡ Some p → p ≤ q.asked) → BelowWake below q o e → e ≤ max_time
wake_low below r q (Some p) e asked first wake = le_trans wake (le_trans (first p refl) asked)
wake_low below r q None e asked first wake = le_trans wake.0 asked

next_of : (b : Bool) (o : Option AdvanceRequest) (q : AdvanceRequest) → when b (keep_if (λ (q : AdvanceRequest). is_next q.kind) o) ≡ Some q → o ≡ Some q
next_of true None q is = absurd (cc)
next_of true (Some x) q is = ⊎_elim
    (λ (y : is_next x.kind ≡ true). rw y at is)
    (λ (n : is_next x.kind ≡ false). let no = rw n at is in absurd (cc))
    (cases_Bool (is_next x.kind))
next_of false o q is = absurd (cc)

some_wake_low : (c : Central) (f e : ℕ) → AllNumbers c.row → BelowSomeWake c f e → e ≤ max_time
some_wake_low c f e all w =
    let g = w.0 in let q = w.1 in
    let asks = next_of (is_constrained (c.row g)) (c.row g).advance q w.5 in
    wake_low (BelowAllTso c g) (c.row g) q (c.row g).first_pick e ((all g).asked q asks) (λ p i. (all g).first q p asks i) w.6

or_left : (a b : Bool) → (a || b) ≡ false → a ≡ false
or_left true b h = absurd (cc)
or_left false b h = refl

-- an entry by its own time, lookahead and the bars
entry_free : (c : Central) (f time lookahead e : ℕ) → AllNumbers c.row → time ≤ max_time → (eqb lookahead 0 ≡ true → low_entry c.directory c.row (time + lookahead) ≢ max_time + 1)
    → e ≤ low_entry c.directory c.row (time + lookahead) → e - lookahead ≤ max_time
entry_free c f time lookahead e all late zero below = ⊎_elim
    (λ (y : eqb lookahead 0 ≡ true).
    let none : lookahead ≡ 0 = eqb-true lookahead 0 y in
    let ne = zero y in
    let low = low_low c (time + lookahead) (max_time + 1) all (omega (arith, none, late)) (omega arith) in
    omega (arith, none, ne, low, below))
    (λ (n : eqb lookahead 0 ≡ false).
    let some : lookahead ≢ 0 = λ e. let t = rw e at n in absurd (cc) in
    let low = low_low c (time + lookahead) (max_time + lookahead) all (omega (arith, late)) (omega (arith, some)) in
    omega (arith, low, below))
    (cases_Bool (eqb lookahead 0))

enter_numbers : (c : Central) (f time lookahead : ℕ) (o : Choice) → AllNumbers c.row → AllClear (regulation_tests (c.row f) (low_entry c.directory c.row (time + lookahead)) time lookahead)
    → MayEnter c f (time + lookahead) o → AllNumbers (after_enter c f lookahead o).row
enter_numbers c f time lookahead (choice.Entry e) all clear may =
    let t3 = clear.1.1.1 in
    let late = ltb-false max_time time (or_left _ _ t3.0) in
    let look = ltb-false max_time lookahead t3.1.0 in
    let more = ltb-true _ _ (not-is-false _ t3.1.1.1.0) in
    let low = low_low c (time + lookahead) (2 * max_time) all (omega (arith, late, look)) (omega arith) in
    let high : e ≤ 2 * max_time = ⊎_elim (λ l. le_trans l low) (λ w. let l = some_wake_low c f e all w in omega (arith, l)) may.1 in
    set_numbers c f (row_with_entry (c.row f) lookahead e) all (entered_low (c.row f) lookahead e look high
    (λ free. ⊎_elim
    (λ l. entry_free c f time lookahead e all late (λ y. zero_low free y t3.1.1.0) l)
    (λ w. let l = some_wake_low c f e all w in omega (arith, l))
    may.1)
    more (all f))
  where
    zero_low : is_constrained (c.row f) ≡ false → eqb lookahead 0 ≡ true
        → (not (is_constrained (c.row f)) && eqb lookahead 0 && eqb (low_entry c.directory c.row (time + lookahead)) (max_time + 1)) ≡ false → low_entry c.directory c.row (time + lookahead) ≢ max_time + 1
    zero_low free y h e = let eq = eq-eqb (low_entry c.directory c.row (time + lookahead)) (max_time + 1) e in let t = rw (free, y, eq) at h in absurd (cc)
enter_numbers c f time lookahead o all clear may = absurd may

-- ---- services
ask_numbers : (c : Central) (f : ℕ) (x : AdvanceKind) (a : ℕ) → AllNumbers c.row → AllClear (request_tests (c.row f) a) → AllNumbers (upd c.row f (row_after_request (c.row f) x a))
ask_numbers c f x a all clear = set_numbers c f _ all (requested_low (c.row f) x a (ltb-false max_time a clear.1.1.1.0) (all f))

sent_numbers : (c : Central) (row : ℕ → TimeRow) → row ≡ c.row → AllNumbers c.row → AllNumbers row
sent_numbers c row e all = subst AllNumbers (sym e) all

leave_numbers : (c : Central) (row : ℕ → TimeRow) → row ≡ c.row → (f : ℕ) → AllNumbers c.row → AllNumbers (upd row f new_row)
leave_numbers c row e f all = upd_each row f new_row (λ i y. RowNumbers y) numbers_new (λ j ne. sent_numbers c row e all j)

cease_numbers : (c : Central) (f : ℕ) (o : Choice) → AllNumbers c.row → AllNumbers (after_cease c f o).row
cease_numbers c f choice.None all = all
cease_numbers c f (choice.Entry e) all = all
cease_numbers c f (choice.Moved events) all = set_numbers c f _ all (roles (c.row f) (c.row f).regulating Disabled (c.row f).asynchronous (all f))

call_numbers : (c : Central) (f : ℕ) (s : Service) (a : Answer) (o : Choice) → refusal (central_seen c) (Call f s) ≡ None → MayAnswer c f s a o → AllNumbers c.row → AllNumbers (after_call c f s o).row
call_numbers c f (service.Resign DeleteObjects) a o none may all = leave_numbers c _ (sent_rows c f None (deletions_sent (objects_of c.directory f))) f all
call_numbers c f (service.Resign NoAction) a o none may all = leave_numbers c c.row refl f all
call_numbers c f (service.UpdateAttributeValues object values stamp) a o none may all = sent_numbers c _ (sent_rows c f stamp (update_sent c.directory object values)) all
call_numbers c f (service.SendInteraction class values stamp) a o none may all = sent_numbers c _ (sent_rows c f stamp (interaction_sent c.directory f class values)) all
call_numbers c f (service.DeleteObjectInstance object stamp) a o none may all = sent_numbers c _ (sent_rows c f stamp (deletion_sent c.directory object)) all
call_numbers c f (service.EnableTimeRegulation time lookahead) a o none may all =
    enter_numbers c f time lookahead o all (clear_call (central_seen c) f (service.EnableTimeRegulation time lookahead) none) (entry_may c f time lookahead a o may)
call_numbers c f service.DisableTimeRegulation a o none may all = set_numbers c f _ all (roles (c.row f) Disabled (c.row f).constrained (c.row f).asynchronous (all f))
call_numbers c f service.EnableTimeConstrained a o none may all = set_numbers c f _ all (roles (c.row f) (c.row f).regulating Pending (c.row f).asynchronous (all f))
call_numbers c f service.DisableTimeConstrained a o none may all = cease_numbers c f o all
call_numbers c f (service.TimeAdvanceRequest time) a o none may all = ask_numbers c f kind.TimeAdvance time all (clear_call (central_seen c) f (service.TimeAdvanceRequest time) none)
call_numbers c f (service.TimeAdvanceRequestAvailable time) a o none may all = ask_numbers c f kind.TimeAdvanceAvailable time all (clear_call (central_seen c) f (service.TimeAdvanceRequestAvailable time) none)
call_numbers c f (service.NextEventRequest time) a o none may all = ask_numbers c f kind.NextEvent time all (clear_call (central_seen c) f (service.NextEventRequest time) none)
call_numbers c f (service.NextEventRequestAvailable time) a o none may all = ask_numbers c f kind.NextEventAvailable time all (clear_call (central_seen c) f (service.NextEventRequestAvailable time) none)
call_numbers c f (service.FlushQueueRequest time) a o none may all = ask_numbers c f kind.FlushQueue time all (clear_call (central_seen c) f (service.FlushQueueRequest time) none)
call_numbers c f (service.ModifyLookahead lookahead) a o none may all =
    set_numbers c f _ all (looked_ahead (c.row f) lookahead (ltb-false max_time lookahead (clear_call (central_seen c) f (service.ModifyLookahead lookahead) none).1.1.0) (all f))
call_numbers c f service.EnableAsynchronousDelivery a o none may all = set_numbers c f _ all (roles (c.row f) (c.row f).regulating (c.row f).constrained true (all f))
call_numbers c f service.DisableAsynchronousDelivery a o none may all = set_numbers c f _ all (roles (c.row f) (c.row f).regulating (c.row f).constrained false (all f))
call_numbers c f s a o none may all = all

-- ---- other steps
carry_numbers : (c : Central) (g f : ℕ) (x : Carried) → AllNumbers c.row → AllNumbers (after_carry c g f x).row
carry_numbers c g f (carried.Event e) all = all
carry_numbers c g f (carried.Removal e) all = all
carry_numbers c g f (carried.Retraction e) all = all
carry_numbers c g f x all = all

module _ (c : Central) (all : AllNumbers c.row) (f : ℕ) where
  deliver_numbers : (x : Content) (e : EventHandle) (d : Delivery) → MayDeliver c f x e d → AllNumbers (after_delivery c f e d).row
  deliver_numbers x e delivery.Receive may = all
  deliver_numbers x e (delivery.Demoted s) may = all
  deliver_numbers x e (delivery.TimeStamp s) may =
      let w = may.3 in
      let is = row_after_is (c.row f) (c.row f).advance w.0 (λ q. row_after_pick (c.row f) q s) w.1 in
      subst (λ (r : TimeRow). AllNumbers (upd c.row f r)) (sym is)
      (set_numbers c f _ all (picked_low (c.row f) w.0 s w.1 (λ no. (w.2.1 no).asked) (all f)))

  constrain_numbers : (o : Choice) → AllNumbers (after_constraint c f o).row
  constrain_numbers choice.None = all
  constrain_numbers (choice.Entry e) = all
  constrain_numbers (choice.Moved events) = set_numbers c f _ all (constrains_low (c.row f) (all f))

  pick_numbers : (k : Callback) (o : Choice) → MayPickUp c f k o → AllNumbers (after_pick c f k o).row
  pick_numbers (callback.DiscoverObjectInstance object class name) o may = all
  pick_numbers (callback.ReflectAttributeValues object values event d) o may = deliver_numbers (content.Reflection object values) event d may
  pick_numbers (callback.ReceiveInteraction class values event d) o may = deliver_numbers (content.Interaction class values) event d may
  pick_numbers (callback.RemoveObjectInstance object event d) o may = deliver_numbers (content.Removal object) event d may
  pick_numbers (callback.TimeRegulationEnabled time) o may = set_numbers c f _ all (regulates_low (c.row f) (all f))
  pick_numbers (callback.TimeConstrainedEnabled time) o may = constrain_numbers o
  pick_numbers (callback.TimeAdvanceGrant time) o may =
      let is = row_after_is (c.row f) (c.row f).advance may.0 (λ q. row_after_grant (c.row f) q time) may.1 in
      subst (λ (r : TimeRow). AllNumbers (upd c.row f r)) (sym is)
      (set_numbers c f _ all (granted_low (c.row f) may.0 time (le_trans (grant_low c f may.0 time (all f) may.1 may.2) ((all f).asked may.0 may.1)) (all f)))
  pick_numbers (callback.RequestRetraction event) o may = all
  pick_numbers (callback.SynchronizationPointRegistrationSucceeded label) o may = all
  pick_numbers (callback.SynchronizationPointRegistrationFailed label) o may = all
  pick_numbers (callback.AnnounceSynchronizationPoint label) o may = all
  pick_numbers (callback.FederationSynchronized label) o may = all

done_numbers : (c : Central) (step : Step) (a : Answer) (o : Choice) → refusal (central_seen c) step ≡ None → MayDo c step a o → AllNumbers c.row → AllNumbers (after_done c step a o).row
done_numbers c (Join name) a o none may all = set_numbers c c.directory.next_federate new_row all numbers_new
done_numbers c (Call f s) a o none may all = call_numbers c f s a o none may all
done_numbers c (Carry from to) (answer.Carried x) o none may all = carry_numbers c from to x all
done_numbers c (Tick f) (answer.Ticked (Some k)) o none may all = pick_numbers c all f k o may.0
done_numbers c step a o none may all = all

-- each step keeps them
pub numbers_after : (c : Central) (step : Step) (out : Outcome) (o : Choice) → MayEnd c step out o → AllNumbers c.row → AllNumbers (after c step out o).row
numbers_after c step (outcome.Done a) o may all = done_numbers c step a o may.0 may.1 all
numbers_after c (Tick f) (outcome.Failed k) o may all = pick_numbers c all f k o may.1.0
numbers_after c step out o may all = all
