-- What is known of retractions
use Rattle.std.proofs.Common.{◌≡◌, ◌≢◌, ◌⊎◌, ℕ, ◌+◌, ◌-◌, ◌≤◌, ◌<◌, cond, eqb, not, ◌&&◌, Bool, true, false, refl, sym, le_trans, subst, inl, inr, ⊎_elim, arith, eqb-true, List, [], ◌∷◌, Option, Some, None}
use Rattle.std.proofs.lemmas.Bool.{cases_eq, cases_Bool, and_parts}
use Rattle.hla_base.specs.declared.number.EventHandle.{EventHandle}
use Rattle.hla_base.specs.declared.row.TimeRow.{TimeRow}
use Rattle.hla_base.specs.Tables.{upd, upd2}
use Rattle.hla_base.specs.Rows.{is_enabled}
use Rattle.hla_callbacks.specs.declared.callback.Callback.{Callback}
use Rattle.hla_callbacks.specs.declared.callback.Callback.TheVariants as callback
use Rattle.hla_callbacks.specs.declared.callback.Delivery.{Delivery}
use Rattle.hla_callbacks.specs.declared.callback.Delivery.TheVariants as delivery
use Rattle.hla_catalogue.specs.CatalogueValue.{CatalogueValue}
use Rattle.hla_machine.specs.declared.service.Service.{Service}
use Rattle.hla_machine.specs.declared.service.Service.TheVariants as service
use Rattle.hla_machine.specs.declared.service.ResignAction.TheVariants.{DeleteObjects, NoAction}
use Rattle.hla_machine.specs.declared.step.Step.{Step}
use Rattle.hla_machine.specs.declared.step.Step.TheVariants.{Join, Call, Carry, Tick}
use Rattle.hla_machine.specs.declared.step.Carried.{Carried}
use Rattle.hla_machine.specs.declared.step.Carried.TheVariants as carried
use Rattle.hla_machine.specs.declared.step.Answer.{Answer}
use Rattle.hla_machine.specs.declared.step.Answer.TheVariants as answer
use Rattle.hla_machine.specs.declared.step.Outcome.{Outcome}
use Rattle.hla_machine.specs.declared.step.Outcome.TheVariants as outcome
use Rattle.hla_machine.specs.declared.step.Choice.{Choice}
use Rattle.hla_machine.specs.declared.step.Choice.TheVariants as choice
use Rattle.hla_machine.specs.Directory.{Outgoing, deletion_sent, deletions_sent, objects_of, update_sent, interaction_sent}
use Rattle.hla_machine.specs.Central.{Central, new_central, at3, is_key}
use Rattle.hla_machine.specs.Callbacks.{after_delivery, after_constraint, after_pick}
use Rattle.hla_machine.specs.Sends.{after_message, after_messages, sent_event, is_retractable, is_told, owed_to_receivers}
use Rattle.hla_machine.specs.Refusals.{refusal}
use Rattle.hla_machine.specs.Machine.{central_seen, MayEnd, after_leaving, after_retract, after_enter, after_cease, after_call, after_carry, after_done, after}
use Rattle.hla_base.proofs.Tables.{by_number, upd_same, upd_other, upd2_same, upd2_other, upd2_each}
use Rattle.hla_retraction.specs.SentEvents.{SentEvent, no_event, may_retract}
use Rattle.hla_machine.proofs.Basics.Tests.{clear_call, not-is-false}

-- what is retracted or may be was sent, and what is owed is retracted
pub record KeptRetractions (serial : ℕ → ℕ) (sent : ℕ → ℕ → SentEvent) (owed : ℕ → ℕ → ℕ → ℕ) : Type 0 where
  pub used : (g m : ℕ) → (sent g m).retracted ≡ true → m < serial g
  pub able : (g m : ℕ) → (sent g m).retractable ≡ true → m < serial g
  pub owes : (g m f : ℕ) → 1 ≤ owed g m f → (sent g m).retracted ≡ true

abbrev pub AreRetractionsSound : Central → Type 0
AreRetractionsSound c = KeptRetractions c.serial c.sent c.owed

-- what is retracted stays so
pub record Onward (c d : Central) : Type 0 where
  pub kept : AreRetractionsSound d
  pub stays : (g m : ℕ) → (c.sent g m).retracted ≡ true → (d.sent g m).retracted ≡ true

onward_same : (c : Central) → AreRetractionsSound c → Onward c c
onward_same c k = record { kept = k; stays = λ g m e. e }

-- a step that changes none of it
level : (c d : Central) → AreRetractionsSound c → d.serial ≡ c.serial → d.sent ≡ c.sent → d.owed ≡ c.owed → Onward c d
level c d k e1 e2 e3 = record {
  kept = rw (e1, e2, e3) k;
  stays = λ g m e. rw e2 e;
}

pub serial_up : (serial : ℕ → ℕ) (a g : ℕ) → serial g ≤ upd serial a (serial a + 1) g
serial_up serial a = by_number a _ (rw upd_same (omega arith)) (λ g ne. rw upd_other (omega arith))

pub event_fresh : (b : Bool) (e : SentEvent) → e.retracted ≡ false → (cond b e no_event).retracted ≡ false
event_fresh true e h = h
event_fresh false e h = refl

-- where the serial is below the next one, nothing is written over
older : (c : Central) (a g m : ℕ) (event : SentEvent) → m < c.serial g → upd2 c.sent a (c.serial a) event g m ≡ c.sent g m
older c a g m event low = upd2_other c.sent a (c.serial a) event g m (⊎_elim
    (λ (e : a ≡ g). let l : m < c.serial a = subst (λ g. m < c.serial g) (sym e) low in let ne : c.serial a ≢ m = λ e. omega arith in inr ne)
    (λ (ne : a ≢ g). inl ne)
    (cases_eq a g))

abbrev new_event : Central → ℕ → Option ℕ → Outgoing → SentEvent
new_event c a stamp out = sent_event c.directory (c.row a) a stamp out

one_onward : (c : Central) (a : ℕ) (stamp : Option ℕ) (out : Outgoing) → AreRetractionsSound c → Onward c (after_message c a stamp out)
one_onward c a stamp out k = record {
  kept = record {
    used = upd2_each c.sent a (c.serial a) (new_event c a stamp out) (λ g m e. e.retracted ≡ true → m < upd c.serial a (c.serial a + 1) g)
        (λ e. absurd (let n : (new_event c a stamp out).retracted ≡ false = event_fresh (is_retractable (c.row a) stamp out) _ refl in cc))
        (λ g m e. le_trans (k.used g m e) (serial_up c.serial a g));
    able = upd2_each c.sent a (c.serial a) (new_event c a stamp out) (λ g m e. e.retractable ≡ true → m < upd c.serial a (c.serial a + 1) g)
        (λ e. rw upd_same (omega arith))
        (λ g m e. le_trans (k.able g m e) (serial_up c.serial a g));
    owes = λ g m f l. let e = k.owes g m f l in rw (older c a g m (new_event c a stamp out) (k.used g m e)) e;
  };
  stays = λ g m e. rw (older c a g m (new_event c a stamp out) (k.used g m e)) e;
}

sends_onward : (c : Central) (a : ℕ) (stamp : Option ℕ) (outs : List Outgoing) → AreRetractionsSound c → Onward c (after_messages c a stamp outs)
sends_onward c a stamp [] k = onward_same c k
sends_onward c a stamp (out ∷ outs) k =
    let one = one_onward c a stamp out k in
    let rest = sends_onward (after_message c a stamp out) a stamp outs one.kept in
    record { kept = rest.kept; stays = λ g m e. rest.stays g m (one.stays g m e) }

left_onward : (c b : Central) (a : ℕ) → Onward c b → Onward c (after_leaving b a)
left_onward c b a on = let k = on.kept in record {
  kept = record { used = k.used; able = k.able; owes = λ g m f l. k.owes g m f (cleared (b.owed g m) f l) };
  stays = on.stays;
}
  where
    cleared : (t : ℕ → ℕ) (f : ℕ) → 1 ≤ upd t a 0 f → 1 ≤ t f
    cleared t = by_number a _ (λ l. absurd (let e = upd_same t a 0 in omega arith)) (λ f ne l. let e = upd_other t a 0 f ne in omega arith)

told_key : (t : ℕ → ℕ → ℕ → ℕ) (a n : ℕ) (told : ℕ → Bool) (g m f : ℕ) → 1 ≤ owed_to_receivers t a n told g m f → (1 ≤ t g m f) ⊎ ((a ≡ g) × (n ≡ m))
unfolding owed_to_receivers
told_key t a n told g m f l = ⊎_elim
    (λ (y : is_key a n g m ≡ true). let p = and_parts _ _ y in inr (eqb-true a g p.0, eqb-true n m p.1))
    (λ (e : is_key a n g m ≡ false). inl (let l2 = rw e at l in omega arith))
    (cases_Bool (is_key a n g m))

abbrev retracted_event : Central → ℕ → ℕ → SentEvent
retracted_event c a n = record (c.sent a n) { retracted = true }

retract_onward : (c : Central) (a n : ℕ) → AreRetractionsSound c → (c.sent a n).retractable ≡ true → Onward c (after_retract c a n)
retract_onward c a n k able = record {
  kept = record {
    used = upd2_each c.sent a n (retracted_event c a n) (λ g m e. e.retracted ≡ true → m < c.serial g) (λ _. k.able a n able) k.used;
    able = upd2_each c.sent a n (retracted_event c a n) (λ g m e. e.retractable ≡ true → m < c.serial g) (λ _. k.able a n able) k.able;
    owes = λ g m f l. ⊎_elim
        (λ (old : 1 ≤ c.owed g m f). stays g m (k.owes g m f old))
        (λ (new : (a ≡ g) × (n ≡ m)). subst (λ g. (upd2 c.sent a n (retracted_event c a n) g m).retracted ≡ true) new.0 (subst (λ m. (upd2 c.sent a n (retracted_event c a n) a m).retracted ≡ true) new.1 (rw upd2_same refl)))
        (told_key c.owed a n (is_told c.directory a (c.sent a n)) g m f l);
  };
  stays = stays;
}
  where
    stays : (g m : ℕ) → (c.sent g m).retracted ≡ true → (upd2 c.sent a n (retracted_event c a n) g m).retracted ≡ true
    stays = upd2_each c.sent a n (retracted_event c a n) (λ g m e. (c.sent g m).retracted ≡ true → e.retracted ≡ true) (λ _. refl) (λ g m e. e)

less_owed : (t : ℕ → ℕ → ℕ → ℕ) (a n b g m f : ℕ) → 1 ≤ at3 t a n b (t a n b - 1) g m f → 1 ≤ t g m f
unfolding at3
less_owed t a n b g m f l = ⊎_elim
    (λ (y : (is_key a n g m && eqb b f) ≡ true). let p = and_parts _ _ y in let q = and_parts _ _ p.0 in
    let l2 : 1 ≤ t a n b - 1 = rw y at l in
    let l3 : 1 ≤ t a n b = omega arith in
    subst (λ f. 1 ≤ t g m f) (eqb-true b f p.1) (subst (λ m. 1 ≤ t g m b) (eqb-true n m q.1) (subst (λ g. 1 ≤ t g n b) (eqb-true a g q.0) l3)))
    (λ (e : (is_key a n g m && eqb b f) ≡ false). rw e at l)
    (cases_Bool (is_key a n g m && eqb b f))

enter_onward : (c : Central) (a lookahead : ℕ) (o : Choice) → AreRetractionsSound c → Onward c (after_enter c a lookahead o)
enter_onward c a lookahead (choice.Entry e) k = level c _ k refl refl refl
enter_onward c a lookahead o k = onward_same c k

cease_onward : (c : Central) (a : ℕ) (o : Choice) → AreRetractionsSound c → Onward c (after_cease c a o)
cease_onward c a (choice.Moved events) k = level c _ k refl refl refl
cease_onward c a o k = onward_same c k

pub is_able : (r : TimeRow) (e : SentEvent) → may_retract r e ≡ true → e.retractable ≡ true
is_able r e h = let p = and_parts (is_enabled r.regulating && e.retractable && not e.retracted) _ h in let q = and_parts (is_enabled r.regulating && e.retractable) _ p.0 in (and_parts (is_enabled r.regulating) e.retractable q.0).1

call_onward : (c : Central) (a : ℕ) (s : Service) (o : Choice) → refusal (central_seen c) (Call a s) ≡ None → AreRetractionsSound c → Onward c (after_call c a s o)
call_onward c a (service.Resign DeleteObjects) o none k = let outs = deletions_sent (objects_of c.directory a) in left_onward c (after_messages c a None outs) a (sends_onward c a None outs k)
call_onward c a (service.Resign NoAction) o none k = left_onward c c a (onward_same c k)
call_onward c a (service.UpdateAttributeValues object values stamp) o none k = sends_onward c a stamp (update_sent c.directory object values) k
call_onward c a (service.SendInteraction class values stamp) o none k = sends_onward c a stamp (interaction_sent c.directory a class values) k
call_onward c a (service.DeleteObjectInstance object stamp) o none k = let on = sends_onward c a stamp (deletion_sent c.directory object) k in record { kept = on.kept; stays = on.stays }
call_onward c a (service.Retract event) o none k = let x = clear_call (central_seen c) a (service.Retract event) none in
    retract_onward c a event.serial k (is_able (c.row a) (c.sent a event.serial) (and_parts (eqb event.sender a) _ (not-is-false _ x.0)).1)
call_onward c a (service.EnableTimeRegulation time lookahead) o none k = enter_onward c a lookahead o k
call_onward c a service.DisableTimeConstrained o none k = cease_onward c a o k
call_onward c a s o none k = level c _ k refl refl refl

carry_onward : (c : Central) (a b : ℕ) (x : Carried) → AreRetractionsSound c → Onward c (after_carry c a b x)
carry_onward c a b (carried.Event e) k = level c _ k refl refl refl
carry_onward c a b (carried.Removal e) k = level c _ k refl refl refl
carry_onward c a b (carried.Retraction e) k = record {
  kept = record { used = k.used; able = k.able; owes = λ g m f l. k.owes g m f (less_owed c.owed a e.serial b g m f l) };
  stays = λ g m e. e;
}
carry_onward c a b x k = onward_same c k

deliver_onward : (c : Central) (a : ℕ) (e : EventHandle) (d : Delivery) → AreRetractionsSound c → Onward c (after_delivery c a e d)
deliver_onward c a e delivery.Receive k = level c _ k refl refl refl
deliver_onward c a e (delivery.Demoted s) k = level c _ k refl refl refl
deliver_onward c a e (delivery.TimeStamp s) k = level c _ k refl refl refl

constrain_onward : (c : Central) (a : ℕ) (o : Choice) → AreRetractionsSound c → Onward c (after_constraint c a o)
constrain_onward c a (choice.Moved events) k = level c _ k refl refl refl
constrain_onward c a o k = onward_same c k

pick_onward : (c : Central) (a : ℕ) (x : Callback) (o : Choice) → AreRetractionsSound c → Onward c (after_pick c a x o)
pick_onward c a (callback.ReflectAttributeValues object values event d) o k = deliver_onward c a event d k
pick_onward c a (callback.ReceiveInteraction class values event d) o k = deliver_onward c a event d k
pick_onward c a (callback.RemoveObjectInstance object event d) o k = deliver_onward c a event d k
pick_onward c a (callback.TimeConstrainedEnabled time) o k = constrain_onward c a o k
pick_onward c a x o k = level c _ k refl refl refl

done_onward : (c : Central) (step : Step) (a : Answer) (o : Choice) → refusal (central_seen c) step ≡ None → AreRetractionsSound c → Onward c (after_done c step a o)
done_onward c (Join name) a o none k = level c _ k refl refl refl
done_onward c (Call f s) a o none k = call_onward c f s o none k
done_onward c (Carry from to) (answer.Carried x) o none k = carry_onward c from to x k
done_onward c (Tick f) (answer.Ticked (Some x)) o none k = pick_onward c f x o k
done_onward c step a o none k = onward_same c k

pub step_onward : (c : Central) (step : Step) (out : Outcome) (o : Choice) → MayEnd c step out o → AreRetractionsSound c → Onward c (after c step out o)
step_onward c step (outcome.Done a) o may k = done_onward c step a o may.0 k
step_onward c (Tick f) (outcome.Failed x) o may k = pick_onward c f x o k
step_onward c step out o may k = onward_same c k

pub sound_start : (catalogue : CatalogueValue) → AreRetractionsSound (new_central catalogue)
sound_start catalogue = record { used = λ g m e. absurd (cc); able = λ g m e. absurd (cc); owes = λ g m f l. absurd (omega arith) }
