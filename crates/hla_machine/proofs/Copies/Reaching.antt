-- What is on its way to a federate stays so until it is settled
use Rattle.std.proofs.Common.{◌≡◌, ◌≢◌, ◌⊎◌, ℕ, ◌+◌, ◌≤◌, ◌<◌, true, false, refl, sym, ◌∙◌, le_trans, subst, inl, inr, ⊎_elim, arith, List, [], ◌∷◌, Option, Some, None, option_map}
use Rattle.std.proofs.lemmas.Bool.{cases_eq, cond_both}
use Rattle.hla_base.specs.declared.number.EventHandle.{EventHandle}
use Rattle.hla_base.specs.Tables.{upd}
use Rattle.hla_base.specs.Rows.{is_disabled}
use Rattle.hla_callbacks.specs.declared.callback.Callback.{Callback}
use Rattle.hla_callbacks.specs.declared.callback.Callback.TheVariants as callback
use Rattle.hla_callbacks.specs.declared.callback.Delivery.{Delivery}
use Rattle.hla_callbacks.specs.declared.callback.Delivery.TheVariants as delivery
use Rattle.hla_machine.specs.declared.service.Service.{Service}
use Rattle.hla_machine.specs.declared.service.Service.TheVariants as service
use Rattle.hla_machine.specs.declared.service.ResignAction.TheVariants.{DeleteObjects, NoAction}
use Rattle.hla_machine.specs.declared.step.Step.{Step}
use Rattle.hla_machine.specs.declared.step.Step.TheVariants.{Call, Carry, Tick}
use Rattle.hla_machine.specs.declared.step.Carried.{Carried}
use Rattle.hla_machine.specs.declared.step.Carried.TheVariants as carried
use Rattle.hla_machine.specs.declared.step.Answer.{Answer}
use Rattle.hla_machine.specs.declared.step.Answer.TheVariants as answer
use Rattle.hla_machine.specs.declared.step.Outcome.{Outcome}
use Rattle.hla_machine.specs.declared.step.Outcome.TheVariants as outcome
use Rattle.hla_machine.specs.declared.step.Choice.{Choice}
use Rattle.hla_machine.specs.declared.step.Choice.TheVariants as choice
use Rattle.hla_machine.specs.Directory.{Outgoing, deletion_sent, deletions_sent, objects_of, update_sent, interaction_sent}
use Rattle.hla_machine.specs.Central.{Central, Copy, at_key, demoted_copy}
use Rattle.hla_machine.specs.Callbacks.{with_demoted, after_delivery, after_constraint, after_pick}
use Rattle.hla_machine.specs.Sends.{after_message, after_messages, copy_for}
use Rattle.hla_machine.specs.Machine.{MayCarry, MayDo, MayEnd, after_leaving, after_enter, after_cease, after_call, after_arrival, after_carry, after_done, after}
use Rattle.hla_machine.specs.Central.{new_central}
use Rattle.hla_machine.specs.CentralInvariant.{CentralInv}
use Rattle.hla_machine.specs.Runs.{Happening, IsRun}
use Rattle.hla_machine.specs.History.{GivesCallback, Names, Happens, IsOnItsWay, IsSettled, HasHistory, next_state}
use Rattle.hla_base.proofs.Tables.{by_number, upd_same, upd_other}
use Rattle.hla_machine.proofs.Upkeep.CentralInvariant.{laws_after, laws_start}
use Rattle.hla_machine.proofs.Copies.Fates.{Owing, at_cases, copies_stay, demoted_cases, handle_is}
use Rattle.hla_machine.proofs.Copies.Retractions.{AreRetractionsSound, step_onward, sound_start}

-- a copy lies in the bag
abbrev Lies : (ℕ → ℕ → ℕ → Option Copy) → ℕ → ℕ → ℕ → Type 0
Lies bag g m f = (k : Copy) × (bag g m f ≡ Some k)

module _ (g m f : ℕ) where
  sends_lie : (c : Central) (a : ℕ) (stamp : Option ℕ) (outs : List Outgoing) → m < c.serial g → Lies c.bag g m f → Lies (after_messages c a stamp outs).bag g m f
  sends_lie c a stamp [] low is = is
  sends_lie c a stamp (out ∷ outs) low is = sends_lie (after_message c a stamp out) a stamp outs
      (le_trans low (by_number a (λ g. c.serial g ≤ upd c.serial a (c.serial a + 1) g) (rw upd_same (omega arith)) (λ g ne. rw upd_other (omega arith)) g))
      (is.0, copies_stay c.directory.joined c.bag a (c.serial a) (copy_for c.directory (c.row a) stamp out) g m f (λ e e2. let l : m < c.serial a = subst (λ g. m < c.serial g) (sym e) low in omega arith) ∙ is.1)

  -- what a step does to what lies there; G says of a callback that f is given it
  module _ (c : Central) (laws : CentralInv c) (owing : Owing c.sent c.owed) (is : Lies c.bag g m f) (G : Callback → Type 0) where
    pub data Course (d : Central) : Type 0 where
      Lasts : Lies d.bag g m f → Course d
      TakenBack : (c.sent g m).retracted ≡ true → Course d
      Leaves : d.directory.joined f ≡ false → Course d
      Given : (x : Callback) → G x → Names x (record { sender = g; serial = m }) → Course d

    low : m < c.serial g
    low = laws.unused g m f is.0 is.1

    left_course : (b : Central) (a : ℕ) → Lies b.bag g m f → Course (after_leaving b a)
    left_course b a was = ⊎_elim
        (λ (e : a ≡ f). Leaves (subst (λ a. upd b.directory.joined a false f ≡ false) (sym e) (upd_same b.directory.joined f false)))
        (λ (ne : a ≢ f). Lasts (was.0, upd_other (b.bag g m) a None f ne ∙ was.1))
        (cases_eq a f)

    moved_course : (d : Central) (a : ℕ) (events : List EventHandle) → d.bag ≡ with_demoted c.bag a events → Course d
    moved_course d a events follows = ⊎_elim
        (λ (y : with_demoted c.bag a events g m f ≡ option_map demoted_copy (c.bag g m f)). Lasts (demoted_copy is.0, rw (follows, y, is.1) refl))
        (λ (n : with_demoted c.bag a events g m f ≡ c.bag g m f). Lasts (is.0, rw (follows, n) is.1))
        (demoted_cases c.bag a events g m f)

    enter_course : (a lookahead : ℕ) (o : Choice) → Course (after_enter c a lookahead o)
    enter_course a lookahead (choice.Entry e) = Lasts is
    enter_course a lookahead o = Lasts is

    cease_course : (a : ℕ) (o : Choice) → Course (after_cease c a o)
    cease_course a (choice.Moved events) = moved_course _ a events refl
    cease_course a o = Lasts is

    call_course : (a : ℕ) (s : Service) (o : Choice) → Course (after_call c a s o)
    call_course a (service.Resign DeleteObjects) o = let outs = deletions_sent (objects_of c.directory a) in left_course (after_messages c a None outs) a (sends_lie c a None outs low is)
    call_course a (service.Resign NoAction) o = left_course c a is
    call_course a (service.UpdateAttributeValues object values stamp) o = Lasts (sends_lie c a stamp (update_sent c.directory object values) low is)
    call_course a (service.SendInteraction class values stamp) o = Lasts (sends_lie c a stamp (interaction_sent c.directory a class values) low is)
    call_course a (service.DeleteObjectInstance object stamp) o = Lasts (sends_lie c a stamp (deletion_sent c.directory object) low is)
    call_course a (service.EnableTimeRegulation time lookahead) o = enter_course a lookahead o
    call_course a service.DisableTimeConstrained o = cease_course a o
    call_course a s o = Lasts is

    arrived_lies : (a b n : ℕ) → Lies (at_key c.bag a n b (option_map demoted_copy (c.bag a n b))) g m f
    arrived_lies a b n = ⊎_elim
        (λ (y : (a ≡ g) × (n ≡ m) × (b ≡ f) × (at_key c.bag a n b (option_map demoted_copy (c.bag a n b)) g m f ≡ option_map demoted_copy (c.bag a n b))). (demoted_copy is.0, y.3 ∙ at_same a n b y.0 y.1 y.2))
        (λ (e : at_key c.bag a n b (option_map demoted_copy (c.bag a n b)) g m f ≡ c.bag g m f). (is.0, e ∙ is.1))
        (at_cases c.bag a n b (option_map demoted_copy (c.bag a n b)) g m f)
      where
        at_same : (a n b : ℕ) → a ≡ g → n ≡ m → b ≡ f → option_map demoted_copy (c.bag a n b) ≡ Some (demoted_copy is.0)
        at_same a n b e e2 e3 = rw (e, e2, e3, is.1) refl

    arrived_course : (a b n : ℕ) → Course (after_arrival c a b n)
    arrived_course a b n = Lasts (cond_both (is_disabled (c.row b).constrained) (at_key c.bag a n b (option_map demoted_copy (c.bag a n b))) c.bag (λ (to : ℕ → ℕ → ℕ → Option Copy). Lies to g m f)
        (λ _. arrived_lies a b n) (λ _. is))

    carry_course : (a b : ℕ) (x : Carried) → MayCarry c a b x → Course (after_carry c a b x)
    carry_course a b (carried.Event e) may = arrived_course a b e.serial
    carry_course a b (carried.Removal e) may = arrived_course a b e.serial
    carry_course a b (carried.Retraction e) may = ⊎_elim
        (λ (y : (a ≡ g) × (e.serial ≡ m) × (b ≡ f) × (at_key c.bag a e.serial b None g m f ≡ None)).
        TakenBack (owing g m f (subst (λ b. 1 ≤ c.owed g m b) y.2 (subst (λ n. 1 ≤ c.owed g n b) y.1 (subst (λ a. 1 ≤ c.owed a e.serial b) y.0 may.1)))))
        (λ (n : at_key c.bag a e.serial b None g m f ≡ c.bag g m f). Lasts (is.0, n ∙ is.1))
        (at_cases c.bag a e.serial b None g m f)
    carry_course a b x may = Lasts is

    module _ (a : ℕ) where
      taken_course : (d : Central) (e : EventHandle) → d.bag ≡ at_key c.bag e.sender e.serial a None → (a ≡ f → e ≡ record { sender = g; serial = m } → Course d) → Course d
      taken_course d e follows same = ⊎_elim
          (λ (y : (e.sender ≡ g) × (e.serial ≡ m) × (a ≡ f) × (at_key c.bag e.sender e.serial a None g m f ≡ None)). same y.2 (handle_is e g m y.0 y.1))
          (λ (n : at_key c.bag e.sender e.serial a None g m f ≡ c.bag g m f). Lasts (is.0, rw (follows, n) is.1))
          (at_cases c.bag e.sender e.serial a None g m f)

      deliver_course : (e : EventHandle) (d : Delivery) → (a ≡ f → e ≡ record { sender = g; serial = m } → Course (after_delivery c a e d)) → Course (after_delivery c a e d)
      deliver_course e delivery.Receive gives = taken_course _ e refl gives
      deliver_course e (delivery.Demoted s) gives = taken_course _ e refl gives
      deliver_course e (delivery.TimeStamp s) gives = taken_course _ e refl gives

      constrain_course : (o : Choice) → Course (after_constraint c a o)
      constrain_course (choice.Moved events) = moved_course _ a events refl
      constrain_course o = Lasts is

      pick_course : (x : Callback) (o : Choice) → (a ≡ f → G x) → Course (after_pick c a x o)
      pick_course (callback.ReflectAttributeValues object values event d) o gives = deliver_course event d (λ e same. Given (callback.ReflectAttributeValues object values event d) (gives e) same)
      pick_course (callback.ReceiveInteraction class values event d) o gives = deliver_course event d (λ e same. Given (callback.ReceiveInteraction class values event d) (gives e) same)
      pick_course (callback.RemoveObjectInstance object event d) o gives = deliver_course event d (λ e same. Given (callback.RemoveObjectInstance object event d) (gives e) same)
      pick_course (callback.TimeConstrainedEnabled time) o gives = constrain_course o
      pick_course x o gives = Lasts is

  module _ (c : Central) (laws : CentralInv c) (owing : Owing c.sent c.owed) (is : Lies c.bag g m f) where
    done_course : (step : Step) (a : Answer) (o : Choice) → MayDo c step a o → Course c laws owing is (GivesCallback step (outcome.Done a) f) (after_done c step a o)
    done_course (Call b s) a o may = call_course c laws owing is (GivesCallback (Call b s) (outcome.Done a) f) b s o
    done_course (Carry from to) (answer.Carried x) o may = carry_course c laws owing is (GivesCallback (Carry from to) (outcome.Done (answer.Carried x)) f) from to x may
    done_course (Tick b) (answer.Ticked (Some x)) o may = pick_course c laws owing is (GivesCallback (Tick b) (outcome.Done (answer.Ticked (Some x))) f) b x o (λ e. (e, refl))
    done_course step a o may = Lasts is

    pub step_course : (step : Step) (out : Outcome) (o : Choice) → MayEnd c step out o → Course c laws owing is (GivesCallback step out f) (after c step out o)
    step_course step (outcome.Done a) o may = done_course step a o may.1
    step_course (Tick b) (outcome.Failed x) o may = pick_course c laws owing is (GivesCallback (Tick b) (outcome.Failed x) f) b x o (λ e. (e, refl))
    step_course step out o may = Lasts is

-- ---- runs
pub record Reliable (c : Central) : Type 0 where
  pub laws : CentralInv c
  pub sound : AreRetractionsSound c

reliable_step : (c : Central) (h : Happening) → MayEnd c h.step h.outcome h.choice → Reliable c → Reliable (next_state c h)
reliable_step c h may w = record { laws = laws_after c h.step h.outcome h.choice may w.laws; sound = (step_onward c h.step h.outcome h.choice may w.sound).kept }

reliable_run : (c : Central) (hs : List Happening) (d : Central) → IsRun c hs d → Reliable c → Reliable d
reliable_run c [] d run w = subst Reliable run w
reliable_run c (h ∷ hs) d run w = reliable_run (next_state c h) hs d run.1 (reliable_step c h run.0.0 w)

reach_run : (c : Central) (hs : List Happening) (d : Central) (f : ℕ) (e : EventHandle) → IsRun c hs d → Reliable c → IsOnItsWay c f e → IsOnItsWay d f e ⊎ IsSettled c hs f e
reach_run c [] d f e run w is = inl (subst (λ (c : Central). IsOnItsWay c f e) run is)
reach_run c (h ∷ hs) d f e run w is =
    by_course (λ still. reach_run (next_state c h) hs d f e run.1 (reliable_step c h run.0.0 w) still) (step_course e.sender e.serial f c w.laws w.sound.owes is h.step h.outcome h.choice run.0.0)
  where
    by_course : (IsOnItsWay (next_state c h) f e → IsOnItsWay d f e ⊎ IsSettled (next_state c h) hs f e) → Course e.sender e.serial f c w.laws w.sound.owes is (GivesCallback h.step h.outcome f) (next_state c h) → IsOnItsWay d f e ⊎ IsSettled c (h ∷ hs) f e
    by_course later (Lasts still) = ⊎_elim
        (λ (there : IsOnItsWay d f e). inl there)
        (λ (rest : IsSettled (next_state c h) hs f e). inr (inr (inr (inr rest))))
        (later still)
    by_course later (TakenBack r) = inr (inr (inl r))
    by_course later (Leaves out) = inr (inr (inr (inl out)))
    by_course later (Given x gives names) = inr (inl (record { given = x; gives = gives; names = names }))

-- what is on its way to a federate stays so, or is settled
pub settled_or_on_its_way : (c : Central) (hs : List Happening) (d : Central) (f : ℕ) (e : EventHandle) → HasHistory c → IsRun c hs d → IsOnItsWay c f e → IsOnItsWay d f e ⊎ IsSettled c hs f e
settled_or_on_its_way c hs d f e is run way =
    reach_run c hs d f e run (reliable_run (new_central is.catalogue) is.before c is.run (record { laws = laws_start is.catalogue; sound = sound_start is.catalogue })) way

pub reliable_at : (c : Central) (h : Happening) → Happens c h → CentralInv c
reliable_at c h is = (reliable_run (new_central is.catalogue) is.before c is.run (record { laws = laws_start is.catalogue; sound = sound_start is.catalogue })).laws
