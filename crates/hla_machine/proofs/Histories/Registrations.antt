-- Numbers and names of objects are never given twice
use Rattle.std.proofs.Common.{◌≡◌, ◌≢◌, ⊎_elim, ℕ, zero, suc, ◌+◌, ◌≤◌, ◌<◌, not, eqb, ◌&&◌, ◌||◌, Bool, true, false, refl, sym, ap, subst, ◌∙◌, arith, le_trans, List, [], ◌∷◌, Option, Some, None}
use Rattle.std.proofs.lemmas.Bool.{cases_eq}
use Rattle.std.proofs.lemmas.Bool.Decides.{nat_tests}
use Rattle.std.proofs.lemmas.Slice.Eq.{bytes_eq-Decides}
use Rattle.std.proofs.lemmas.List.Folds.{list_any-append}
use Rattle.std.specs.List.{list_any}
use Rattle.std.specs.Str.{bytes_eq}
use Rattle.hla_base.specs.Tables.{numbers_below}
use Rattle.hla_base.proofs.Tables.{upd_same, upd_other, upd_each}
use Rattle.hla_callbacks.specs.declared.callback.Callback.{Callback}
use Rattle.hla_callbacks.specs.declared.callback.Callback.TheVariants as callback
use Rattle.hla_callbacks.specs.declared.callback.Delivery.{Delivery}
use Rattle.hla_callbacks.specs.declared.callback.Delivery.TheVariants as delivery
use Rattle.hla_machine.specs.declared.service.Service.{Service}
use Rattle.hla_machine.specs.declared.service.Service.TheVariants as service
use Rattle.hla_machine.specs.declared.service.ResignAction.TheVariants.{DeleteObjects}
use Rattle.hla_machine.specs.declared.step.Step.{Step}
use Rattle.hla_machine.specs.declared.step.Step.TheVariants.{Join, Call, Carry, Tick}
use Rattle.hla_machine.specs.declared.step.Carried.{Carried}
use Rattle.hla_machine.specs.declared.step.Carried.TheVariants as carried
use Rattle.hla_machine.specs.declared.step.Answer.{Answer}
use Rattle.hla_machine.specs.declared.step.Answer.TheVariants as answer
use Rattle.hla_machine.specs.declared.step.Outcome.{Outcome}
use Rattle.hla_machine.specs.declared.step.Outcome.TheVariants as outcome
use Rattle.hla_machine.specs.declared.step.Choice.{Choice}
use Rattle.hla_machine.specs.declared.step.Choice.TheVariants as choice
use Rattle.hla_machine.specs.Directory.{Directory, Object, Outgoing, deletion_sent, deletions_sent, objects_of, update_sent, interaction_sent, name_or_default, with_object}
use Rattle.hla_machine.specs.Central.{Central, new_central}
use Rattle.hla_machine.specs.Callbacks.{after_delivery, after_constraint, after_pick}
use Rattle.hla_machine.specs.Sends.{after_message, after_messages}
use Rattle.hla_machine.specs.Refusals.{refusal, is_name_used}
use Rattle.hla_machine.specs.Machine.{central_seen, MayEnd, MayAnswer, after_enter, after_cease, after_call, after_carry, after_done, after}
use Rattle.hla_machine.specs.Runs.{Happening, IsRun}
use Rattle.hla_machine.specs.History.{HappenAfter, next_state}
use Rattle.hla_machine.proofs.Basics.Tests.{clear_call}

-- objects that were registered keep their names, and numbers grow
pub record Registers (d e : Directory) : Type 0 where
  pub next : d.next_object ≤ e.next_object
  pub names : (h : ℕ) → h < d.next_object → (e.object h).name ≡ (d.object h).name

registers_none : (d : Directory) → Registers d d
registers_none d = record { next = omega arith; names = λ h low. refl }

sent_directory : (c : Central) (f : ℕ) (stamp : Option ℕ) (outs : List Outgoing) → (after_messages c f stamp outs).directory ≡ c.directory
sent_directory c f stamp [] = refl
sent_directory c f stamp (out ∷ outs) = sent_directory (after_message c f stamp out) f stamp outs

sent_registers : (c : Central) (f : ℕ) (stamp : Option ℕ) (outs : List Outgoing) → Registers c.directory (after_messages c f stamp outs).directory
sent_registers c f stamp outs = subst (λ (d : Directory). Registers c.directory d) (sym (sent_directory c f stamp outs)) (registers_none c.directory)

object_registers : (d : Directory) (f class : ℕ) (name : List ℕ) → Registers d (with_object d f class name)
object_registers d f class name = record {
  next = omega arith;
  names = λ h low. let ne : d.next_object ≢ h = λ e. absurd (omega (arith, low, e)) in ap (λ (x : Object). x.name) (upd_other d.object d.next_object _ h ne);
}

deleted_registers : (c : Central) (f h : ℕ) (stamp : Option ℕ) → Registers c.directory (after_call c f (service.DeleteObjectInstance h stamp) choice.None).directory
deleted_registers c f h stamp =
    let outs = deletion_sent c.directory h in
    let s = sent_registers c f stamp outs in
    let d = (after_messages c f stamp outs).directory in
    record {
      next = s.next;
      names = λ i low. upd_each d.object h (record (d.object h) { exists = false }) (λ j (x : Object). x.name ≡ (d.object j).name) refl (λ j ne. refl) i ∙ s.names i low;
    }

enter_registers : (c : Central) (f lookahead : ℕ) (o : Choice) → Registers c.directory (after_enter c f lookahead o).directory
enter_registers c f lookahead choice.None = registers_none c.directory
enter_registers c f lookahead (choice.Entry e) = registers_none c.directory
enter_registers c f lookahead (choice.Moved events) = registers_none c.directory

cease_registers : (c : Central) (f : ℕ) (o : Choice) → Registers c.directory (after_cease c f o).directory
cease_registers c f choice.None = registers_none c.directory
cease_registers c f (choice.Entry e) = registers_none c.directory
cease_registers c f (choice.Moved events) = registers_none c.directory

call_registers : (c : Central) (f : ℕ) (s : Service) (o : Choice) → Registers c.directory (after_call c f s o).directory
call_registers c f (service.Resign DeleteObjects) o = let s = sent_registers c f None (deletions_sent (objects_of c.directory f)) in record { next = s.next; names = s.names }
call_registers c f (service.UpdateAttributeValues object values stamp) o = sent_registers c f stamp (update_sent c.directory object values)
call_registers c f (service.SendInteraction class values stamp) o = sent_registers c f stamp (interaction_sent c.directory f class values)
call_registers c f (service.DeleteObjectInstance object stamp) o = deleted_registers c f object stamp
call_registers c f (service.RegisterObjectInstance class name) o = let r = object_registers c.directory f class (name_or_default c.directory.next_object name) in record { next = r.next; names = r.names }
call_registers c f (service.EnableTimeRegulation time lookahead) o = enter_registers c f lookahead o
call_registers c f service.DisableTimeConstrained o = cease_registers c f o
call_registers c f s o = record { next = omega arith; names = λ h low. refl }

carry_registers : (c : Central) (g f : ℕ) (x : Carried) → Registers c.directory (after_carry c g f x).directory
carry_registers c g f (carried.Event e) = registers_none c.directory
carry_registers c g f (carried.Removal e) = registers_none c.directory
carry_registers c g f (carried.Retraction e) = registers_none c.directory
carry_registers c g f x = registers_none c.directory

delivery_registers : (c : Central) (f : ℕ) (h : Callback) (o : Choice) → Registers c.directory (after_pick c f h o).directory
delivery_registers c f (callback.ReflectAttributeValues object values event d) o = given d
  where
    given : (d : Delivery) → Registers c.directory (after_delivery c f event d).directory
    given delivery.Receive = registers_none c.directory
    given (delivery.Demoted s) = registers_none c.directory
    given (delivery.TimeStamp s) = registers_none c.directory
delivery_registers c f (callback.ReceiveInteraction class values event d) o = given d
  where
    given : (d : Delivery) → Registers c.directory (after_delivery c f event d).directory
    given delivery.Receive = registers_none c.directory
    given (delivery.Demoted s) = registers_none c.directory
    given (delivery.TimeStamp s) = registers_none c.directory
delivery_registers c f (callback.RemoveObjectInstance object event d) o = given d
  where
    given : (d : Delivery) → Registers c.directory (after_delivery c f event d).directory
    given delivery.Receive = registers_none c.directory
    given (delivery.Demoted s) = registers_none c.directory
    given (delivery.TimeStamp s) = registers_none c.directory
delivery_registers c f (callback.TimeConstrainedEnabled time) o = chosen o
  where
    chosen : (o : Choice) → Registers c.directory (after_constraint c f o).directory
    chosen choice.None = registers_none c.directory
    chosen (choice.Entry e) = registers_none c.directory
    chosen (choice.Moved events) = registers_none c.directory
delivery_registers c f k o = record { next = omega arith; names = λ h low. refl }

done_registers : (c : Central) (step : Step) (a : Answer) (o : Choice) → Registers c.directory (after_done c step a o).directory
done_registers c (Join name) a o = record { next = omega arith; names = λ h low. refl }
done_registers c (Call f s) a o = call_registers c f s o
done_registers c (Carry from to) (answer.Carried x) o = carry_registers c from to x
done_registers c (Tick f) (answer.Ticked (Some k)) o = delivery_registers c f k o
done_registers c step a o = registers_none c.directory

step_registers : (c : Central) (step : Step) (out : Outcome) (o : Choice) → Registers c.directory (after c step out o).directory
step_registers c step (outcome.Done a) o = done_registers c step a o
step_registers c (Tick f) (outcome.Failed k) o = delivery_registers c f k o
step_registers c step out o = registers_none c.directory

run_registers : (c : Central) (hs : List Happening) (d : Central) → IsRun c hs d → Registers c.directory d.directory
run_registers c [] d run = subst (λ (d : Central). Registers c.directory d.directory) run (registers_none c.directory)
run_registers c (h ∷ hs) d run =
    let a = step_registers c h.step h.outcome h.choice in
    let b = run_registers (next_state c h) hs d run.1 in
    record { next = le_trans a.next b.next; names = λ i low. b.names i (le_trans low a.next) ∙ a.names i low }

-- ---- a registration
-- the object takes the next number, and a name that no object before it has
pub record RegisteredOnce (c : Central) (h : Happening) (a : ℕ) (n : List ℕ) : Type 0 where
  pub number : a ≡ c.directory.next_object
  pub unused : is_name_used c.directory n ≡ false
  pub next : (next_state c h).directory.next_object ≡ a + 1
  pub named : ((next_state c h).directory.object a).name ≡ n

registered_call : (c : Central) (f : ℕ) (s : Service) (o : Choice) (number : ℕ) (name : List ℕ) → refusal (central_seen c) (Call f s) ≡ None → MayAnswer c f s (answer.Registered number name) o
    → RegisteredOnce c (record { step = Call f s; outcome = outcome.Done (answer.Registered number name); choice = o }) number name
registered_call c f (service.RegisterObjectInstance class given) o number name none may =
    let clear = clear_call (central_seen c) f (service.RegisterObjectInstance class given) none in
    record {
      number = may.0;
      unused = subst (λ (n : List ℕ). is_name_used c.directory n ≡ false) (sym may.1) clear.1.1.0;
      next = ap (λ (n : ℕ). n + 1) (sym may.0);
      named = subst (λ (n : ℕ). ((with_object c.directory f class (name_or_default c.directory.next_object given)).object n).name ≡ name) (sym may.0)
          (ap (λ (x : Object). x.name) (upd_same c.directory.object c.directory.next_object _) ∙ sym may.1);
    }
registered_call c f s o number name none may = absurd may

registered_of : (c : Central) (step : Step) (o : Choice) (number : ℕ) (name : List ℕ) → MayEnd c step (outcome.Done (answer.Registered number name)) o
    → RegisteredOnce c (record { step = step; outcome = outcome.Done (answer.Registered number name); choice = o }) number name
registered_of c (Call f s) o number name may = registered_call c f s o number name may.0 may.1
registered_of c step o number name may = absurd may.1

registered_at : (c : Central) (h : Happening) (number : ℕ) (name : List ℕ) → MayEnd c h.step h.outcome h.choice → h.outcome ≡ outcome.Done (answer.Registered number name) → RegisteredOnce c h number name
registered_at c h number name may is =
    let m = subst (λ (out : Outcome). MayEnd c h.step out h.choice) is may in
    subst (λ (out : Outcome). RegisteredOnce c (record { step = h.step; outcome = out; choice = h.choice }) number name) (sym is) (registered_of c h.step h.choice number name m)

-- a name that no object has is not that of an object with a number below
other_name : (d : Directory) (name : List ℕ) (n h : ℕ) → list_any (λ h. not (eqb h 0) && bytes_eq (d.object h).name name) (numbers_below n) ≡ false → 0 < h → h < n → (d.object h).name ≢ name
unfolding numbers_below
other_name d name zero h none some low = absurd (omega (arith, low))
other_name d name (suc n) h none some low =
    let p : ℕ → Bool = λ h. not (eqb h 0) && bytes_eq (d.object h).name name in
    let parts = either_false _ _ (sym (list_any-append p (numbers_below n) (n ∷ [])) ∙ none) in
    ⊎_elim
    (λ (e : n ≡ h). λ same. last_false n (subst (λ (i : ℕ). 0 < i) (sym e) some) (subst (λ (i : ℕ). (d.object i).name ≡ name) (sym e) same) parts.1)
    (λ (ne : n ≢ h). other_name d name n h parts.0 some (omega (arith, low, ne)))
    (cases_eq n h)
  where
    either_false : (a b : Bool) → (a || b) ≡ false → (a ≡ false) × (b ≡ false)
    either_false true b h = absurd (cc)
    either_false false b h = (refl, h)

    last_false : (i : ℕ) → 0 < i → (d.object i).name ≡ name → ((not (eqb i 0) && bytes_eq (d.object i).name name) || false) ≡ false → ⊥
    last_false i some same h =
        let no : eqb i 0 ≡ false = grind (arith, nat_tests, some) in
        let yes : bytes_eq (d.object i).name name ≡ true = rw same ((bytes_eq-Decides name name).1 refl) in
        let t = rw (no, yes) at h in absurd (cc)

pub registered_apart : (c : Central) (h : Happening) (between : List Happening) (d : Central) (i : Happening) (a b : ℕ) (n p : List ℕ) → HappenAfter c h between d i
    → h.outcome ≡ outcome.Done (answer.Registered a n) → i.outcome ≡ outcome.Done (answer.Registered b p) → (a ≢ b) × (n ≢ p)
registered_apart c h between d i a b n p later first second =
    let x = registered_at c h a n later.first.allowed.0 first in
    let y = registered_at d i b p later.allowed.0 second in
    let before = run_registers (new_central later.first.catalogue) later.first.before c later.first.run in
    let r = run_registers (next_state c h) between d later.run in
    let some : 0 < a = omega (arith, x.number, before.next) in
    let low : a < (next_state c h).directory.next_object = omega (arith, x.next) in
    let below : a < d.directory.next_object = le_trans low r.next in
    let named : (d.directory.object a).name ≡ n = r.names a low ∙ x.named in (
      (λ e. absurd (omega (arith, e, below, y.number))),
      (λ same. other_name d.directory p d.directory.next_object a y.unused some below (named ∙ same)),
    )
