-- Nothing is given to a federate in its past
use Rattle.std.proofs.Common.{◌≡◌, ℕ, ◌-◌, ◌≤◌, cond, ◌&&◌, Bool, true, false, refl, sym, ◌∙◌, le_trans, subst, ⊎_elim, arith, List, [], ◌∷◌, Option, Some, None}
use Rattle.std.proofs.lemmas.Bool.{cond_both, cases_Bool}
use Rattle.hla_base.specs.declared.number.EventHandle.{EventHandle}
use Rattle.hla_base.specs.declared.content.Content.{Content}
use Rattle.hla_base.specs.declared.content.Content.TheVariants as content
use Rattle.hla_base.specs.declared.row.AdvanceRequest.{AdvanceRequest}
use Rattle.hla_base.specs.declared.row.TimeRow.{TimeRow}
use Rattle.hla_base.specs.Tables.{or_else}
use Rattle.hla_base.specs.Rows.{is_next, is_flush, is_constrained, is_pending, new_row, row_with_entry, row_after_regulation_enabled, row_after_grant, first_or}
use Rattle.hla_callbacks.specs.declared.callback.Callback.{Callback}
use Rattle.hla_callbacks.specs.declared.callback.Callback.TheVariants as callback
use Rattle.hla_callbacks.specs.declared.callback.Delivery.{Delivery}
use Rattle.hla_callbacks.specs.declared.callback.Delivery.TheVariants as delivery
use Rattle.hla_machine.specs.declared.step.Step.{Step}
use Rattle.hla_machine.specs.declared.step.Step.TheVariants.{Tick}
use Rattle.hla_machine.specs.declared.step.Answer.TheVariants as answer
use Rattle.hla_machine.specs.declared.step.Outcome.{Outcome}
use Rattle.hla_machine.specs.declared.step.Outcome.TheVariants as outcome
use Rattle.hla_machine.specs.declared.step.Choice.{Choice}
use Rattle.hla_machine.specs.Central.{Central, new_central, Tso}
use Rattle.hla_machine.specs.Callbacks.{IsCopy, IsFirstOfStamp, MayPickIn, MayDeliver, MayPickUp, MayBeGiven, IsInTurn, MayGrant, after_delivery, after_pick}
use Rattle.hla_machine.specs.Machine.{central_seen, MayEnd, after}
use Rattle.hla_machine.specs.Runs.{Happening, IsRun}
use Rattle.hla_machine.specs.History.{GivesCallback, Brings, Picks, Happens, next_state}
use Rattle.hla_machine.specs.Laws.{IsAhead}
use Rattle.hla_machine.proofs.Basics.Tests.{ticker_joined}
use Rattle.hla_machine.proofs.Basics.GrantCases.{grant_free, grant_flush, grant_plain}
use Rattle.hla_machine.proofs.Upkeep.Keeps.{IsCentralKept}
use Rattle.hla_machine.proofs.Upkeep.Runs.{step_keeps, start_keeps}
use Rattle.hla_machine.proofs.Upkeep.Turns.{Same, Turn, Fresh, Calm, Asked, Entered, Regulated, Rested, Picked, Granted, step_turn}

-- ---- what is given
pub record Given (c : Central) (h : Happening) (f : ℕ) (k : Callback) : Type 0 where
  pub member : c.directory.joined f ≡ true
  pub may : MayPickUp c f k h.choice
  pub turn : IsInTurn c f k
  pub follows : next_state c h ≡ after_pick c f k h.choice

given_parts : (c : Central) (step : Step) (out : Outcome) (o : Choice) (f : ℕ) (k : Callback) → MayEnd c step out o → GivesCallback step out f k → (c.directory.joined f ≡ true) × MayBeGiven c f k o × (after c step out o ≡ after_pick c f k o)
given_parts c (Tick g) (outcome.Done (answer.Ticked (Some x))) o f k may gives =
    subst (λ f. (c.directory.joined f ≡ true) × MayBeGiven c f k o × (after_pick c g x o ≡ after_pick c f k o)) gives.0
    (subst (λ k. (c.directory.joined g ≡ true) × MayBeGiven c g k o × (after_pick c g x o ≡ after_pick c g k o)) gives.1 (ticker_joined (central_seen c) g may.0, may.1, refl))
given_parts c (Tick g) (outcome.Failed x) o f k may gives =
    subst (λ f. (c.directory.joined f ≡ true) × MayBeGiven c f k o × (after_pick c g x o ≡ after_pick c f k o)) gives.0
    (subst (λ k. (c.directory.joined g ≡ true) × MayBeGiven c g k o × (after_pick c g x o ≡ after_pick c g k o)) gives.1 (ticker_joined (central_seen c) g may.0, may.1, refl))
given_parts c step out o f k may gives = absurd gives

pub given_of : (c : Central) (h : Happening) (f : ℕ) (k : Callback) → MayEnd c h.step h.outcome h.choice → GivesCallback h.step h.outcome f k → Given c h f k
given_of c h f k may gives = let p = given_parts c h.step h.outcome h.choice f k may gives in record { member = p.0; may = p.1.0; turn = p.1.1; follows = p.2 }

-- a pick in time-stamp order
pub record Taken (c d : Central) (f : ℕ) (e : EventHandle) (s : ℕ) : Type 0 where
  pub body : Content
  pub constrained : is_constrained (c.row f) ≡ true
  pub copy : IsCopy c f e (record { order = Tso; stamp = s; content = body })
  pub request : AdvanceRequest
  pub asks : (c.row f).advance ≡ Some request
  pub may : MayPickIn c f request e s
  pub first : IsFirstOfStamp c f e s
  pub follows : d ≡ after_delivery c f e (delivery.TimeStamp s)

taken_delivery : (c : Central) (f : ℕ) (x : Content) (event e : EventHandle) (y : Delivery) (s : ℕ) → MayDeliver c f x event y → event ≡ e → y ≡ delivery.TimeStamp s → Taken c (after_delivery c f event y) f e s
taken_delivery c f x event e y s may same_event same_delivery =
    subst (λ e. Taken c (after_delivery c f event y) f e s) same_event
    (let m : MayDeliver c f x event (delivery.TimeStamp s) = subst (λ y. MayDeliver c f x event y) same_delivery may in
    let w = m.3 in
    record { body = x; constrained = m.0; copy = m.2; request = w.0; asks = w.1; may = w.2; first = m.4; follows = subst (λ z. after_delivery c f event y ≡ after_delivery c f event z) same_delivery refl })

taken_pick : (c : Central) (f : ℕ) (k : Callback) (e : EventHandle) (s : ℕ) (o : Choice) → MayPickUp c f k o → Brings k e s → Taken c (after_pick c f k o) f e s
taken_pick c f (callback.ReflectAttributeValues object values event d) e s o may is = taken_delivery c f (content.Reflection object values) event e d s may is.0 is.1
taken_pick c f (callback.ReceiveInteraction class values event d) e s o may is = taken_delivery c f (content.Interaction class values) event e d s may is.0 is.1
taken_pick c f (callback.RemoveObjectInstance object event d) e s o may is = taken_delivery c f (content.Removal object) event e d s may is.0 is.1
taken_pick c f k e s o may is = absurd is

pub taken_of : (c : Central) (h : Happening) (f : ℕ) (e : EventHandle) (s : ℕ) → MayEnd c h.step h.outcome h.choice → Picks h f e s → Taken c (next_state c h) f e s
taken_of c h f e s may p = let g = given_of c h f p.given may p.gives in subst (λ d. Taken c d f e s) (sym g.follows) (taken_pick c f p.given e s h.choice g.may p.brings)

pub pick_ahead : (c d : Central) (f : ℕ) (e : EventHandle) (s : ℕ) → IsCentralKept c → Taken c d f e s → (c.row f).time ≤ s
pick_ahead c d f e s k t = ⊎_elim
    (λ (y : is_flush t.request.kind ≡ true). t.may.0 y)
    (λ (n : is_flush t.request.kind ≡ false). let m = t.may.1 n in k.ahead f t.constrained e.sender e.serial (record { order = Tso; stamp = s; content = t.body }) t.copy m.unretracted refl)
    (cases_Bool (is_flush t.request.kind))

-- ---- what a federate asks for and waits for is not before its time
pub record Timely (r : TimeRow) : Type 0 where
  pub asked : (q : AdvanceRequest) → r.advance ≡ Some q → r.time ≤ q.asked
  pub first : (q : AdvanceRequest) (p : ℕ) → r.advance ≡ Some q → r.first_pick ≡ Some p → r.time ≤ p
  pub late : is_pending r.regulating ≡ true → r.time ≤ r.regulation_time

timely_new : Timely new_row
timely_new = record { asked = λ q e. absurd (cc); first = λ q p e. absurd (cc); late = λ e. absurd (cc) }

timely_idle : (r : TimeRow) → r.advance ≡ None → (is_pending r.regulating ≡ true → r.time ≤ r.regulation_time) → Timely r
timely_idle r idle late = record {
  asked = λ q e. absurd (cc);
  first = λ q p e. absurd (cc);
  late = late;
}

timely_same : (r s : TimeRow) → Same r s → Timely r → Timely s
timely_same r s same t = record {
  asked = λ q e. let l = t.asked q (sym same.advance ∙ e) in omega (arith, same.time);
  first = λ q p e i. let l = t.first q p (sym same.advance ∙ e) (sym same.first ∙ i) in omega (arith, same.time);
  late = λ p. let w = same.late p in let l = t.late w.0 in omega (arith, same.time, w.1);
}

asked_first : (o : Option ℕ) (b : Bool) (s x : ℕ) → ((p : ℕ) → o ≡ Some p → x ≤ p) → x ≤ s → (p : ℕ) → cond b o (or_else o (Some s)) ≡ Some p → x ≤ p
asked_first (Some y) b s x old new p is = cond_both b (Some y) (Some y) (λ o. o ≡ Some p → x ≤ p) (λ _ i. old p i) (λ _ i. old p i) is
asked_first None b s x old new p is = cond_both b None (Some s) (λ o. o ≡ Some p → x ≤ p) (λ _ i. absurd (cc)) (λ _ i. let e : s ≡ p = cc in omega arith) is

module _ (c : Central) (k : IsCentralKept c) (f : ℕ) (t : Timely (c.row f)) where
  grant_ahead : (q : AdvanceRequest) (v : ℕ) → (c.row f).advance ≡ Some q → MayGrant c f v q → (c.row f).time ≤ v
  grant_ahead q v asks may = ⊎_elim
      (λ (con : is_constrained (c.row f) ≡ true). ⊎_elim
      (λ (y : is_flush q.kind ≡ true). (grant_flush c f q v may con y).0)
      (λ (n : is_flush q.kind ≡ false). let same = (grant_plain c f q v may con n).0 in le_trans (at_grant (is_next q.kind && is_constrained (c.row f)) (c.row f).first_pick (t.asked q asks) (λ p is. t.first q p asks is)) (omega (arith, same)))
      (cases_Bool (is_flush q.kind)))
      (λ (free : is_constrained (c.row f) ≡ false). omega (arith, grant_free c f q v may free, t.asked q asks))
      (cases_Bool (is_constrained (c.row f)))
    where
      at_grant : (b : Bool) (o : Option ℕ) → (c.row f).time ≤ q.asked → ((p : ℕ) → o ≡ Some p → (c.row f).time ≤ p) → (c.row f).time ≤ cond b (first_or o q.asked) q.asked
      at_grant true None l h = l
      at_grant true (Some p) l h = h p refl
      at_grant false o l h = l

  timely_turn : (r : TimeRow) (m : Bool) → Turn c f r m → Timely r
  timely_turn r m (Fresh is left) = subst Timely (sym is) timely_new
  timely_turn r m (Calm same) = timely_same (c.row f) r same t
  timely_turn r m (Asked kind a idle settled low is) = subst Timely (sym is) (record {
    asked = λ q e. let same : record { kind = kind; asked = a } ≡ q = cc in subst (λ (q : AdvanceRequest). (c.row f).time ≤ q.asked) same low;
    first = λ q p e i. absurd (cc);
    late = λ p. absurd (cc);
  })
  timely_turn r m (Entered lookahead e idle low is) = subst Timely (sym is) (timely_idle (row_with_entry (c.row f) lookahead e) idle
      (λ _. cond_both (is_constrained (c.row f)) (c.row f).time (e - lookahead) (λ x. (c.row f).time ≤ x) (λ _. omega arith) (λ _. omega arith)))
  timely_turn r m (Regulated was is) = subst Timely (sym is) (timely_idle (row_after_regulation_enabled (c.row f)) ((k.rows f).idle was) (λ p. absurd (cc)))
  timely_turn r m (Rested idle rests same_time same_role same_regulation) = timely_idle r rests (λ p. let l = t.late (rw (← same_role) p) in omega (arith, same_time, same_regulation))
  timely_turn r m (Picked q e s x asks con copy may is) = subst Timely (sym is) (record {
    asked = t.asked;
    first = λ y p ask i. asked_first (c.row f).first_pick (is_flush q.kind) s (c.row f).time (λ p i. t.first q p asks i) (ahead q e s x con copy may) p i;
    late = t.late;
  })
    where
      ahead : (q : AdvanceRequest) (e : EventHandle) (s : ℕ) (x : Content) → is_constrained (c.row f) ≡ true → IsCopy c f e (record { order = Tso; stamp = s; content = x }) → MayPickIn c f q e s → (c.row f).time ≤ s
      ahead q e s x con copy may = ⊎_elim
          (λ (y : is_flush q.kind ≡ true). may.0 y)
          (λ (n : is_flush q.kind ≡ false). let m = may.1 n in k.ahead f con e.sender e.serial (record { order = Tso; stamp = s; content = x }) copy m.unretracted refl)
          (cases_Bool (is_flush q.kind))
  timely_turn r m (Granted q v asks may is) = subst Timely (sym is) (timely_idle (row_after_grant (c.row f) q v) refl (λ p. let e = (k.rows f).idle p in absurd (cc)))

  time_turn : (r : TimeRow) (m : Bool) → Turn c f r m → c.directory.joined f ≡ true → m ≡ true → (c.row f).time ≤ r.time
  time_turn r m (Fresh is left) was now = absurd (let e = left was in cc)
  time_turn r m (Calm same) was now = omega (arith, same.time)
  time_turn r m (Asked kind a idle settled low is) was now = rw is (omega arith)
  time_turn r m (Entered lookahead e idle low is) was now = rw is (omega arith)
  time_turn r m (Regulated pending is) was now = rw is (t.late pending)
  time_turn r m (Rested idle rests same_time same_role same_regulation) was now = omega (arith, same_time)
  time_turn r m (Picked q e s x asks con copy may is) was now = rw is (omega arith)
  time_turn r m (Granted q v asks may is) was now = rw is (grant_ahead q v asks may)

  pub granted_ahead : (q : AdvanceRequest) (v : ℕ) → (c.row f).advance ≡ Some q → MayGrant c f v q → (c.row f).time ≤ v
  granted_ahead q v asks may = grant_ahead q v asks may

  pub next_timely : (r : TimeRow) (m : Bool) → Turn c f r m → Timely r
  next_timely r m turn = timely_turn r m turn

  pub time_grows : (r : TimeRow) (m : Bool) → Turn c f r m → c.directory.joined f ≡ true → m ≡ true → (c.row f).time ≤ r.time
  time_grows r m turn was now = time_turn r m turn was now

-- ---- runs
pub record Reachable (c : Central) : Type 0 where
  pub kept : IsCentralKept c
  pub timely : (f : ℕ) → Timely (c.row f)

pub reachable_step : (c : Central) (h : Happening) → MayEnd c h.step h.outcome h.choice → Reachable c → Reachable (next_state c h)
reachable_step c h may r = record {
  kept = step_keeps c h.step h.outcome h.choice may r.kept;
  timely = λ f. next_timely c r.kept f (r.timely f) _ _ (step_turn c h.step h.outcome h.choice may r.kept f);
}

pub reachable_run : (c : Central) (hs : List Happening) (d : Central) → IsRun c hs d → Reachable c → Reachable d
reachable_run c [] d run r = subst Reachable run r
reachable_run c (h ∷ hs) d run r = reachable_run (next_state c h) hs d run.1 (reachable_step c h run.0.0 r)

pub reachable : (c : Central) (h : Happening) → Happens c h → Reachable c
reachable c h is = reachable_run (new_central is.catalogue) is.before c is.run (record { kept = start_keeps is.catalogue; timely = λ _. timely_new })

pub run_ahead : (c : Central) (h : Happening) (f : ℕ) → Happens c h → IsAhead c h f
run_ahead c h f is =
    let r = reachable c h is in
    record {
      picks = λ e s p. pick_ahead c (next_state c h) f e s r.kept (taken_of c h f e s is.allowed.0 p);
      grants = λ v g. let w = (given_of c h f (callback.TimeAdvanceGrant v) is.allowed.0 g).may in granted_ahead c r.kept f (r.timely f) w.0 v w.1 w.2;
      time = λ was now. time_grows c r.kept f (r.timely f) _ _ (step_turn c h.step h.outcome h.choice is.allowed.0 r.kept f) was now;
    }
