-- What becomes of a copy in time-stamp order
use Rattle.std.proofs.Common.{◌≡◌, ◌≢◌, ◌⊎◌, ℕ, ◌+◌, ◌≤◌, ◌<◌, eqb, ◌&&◌, Bool, true, false, refl, sym, ◌∙◌, le_trans, subst, inl, inr, ⊎_elim, arith, eqb-true, List, [], ◌∷◌, Option, Some, None, option_map}
use Rattle.std.proofs.lemmas.Bool.{cases_eq, cond_both, cases_Bool, and_parts}
use Rattle.hla_base.specs.declared.number.EventHandle.{EventHandle}
use Rattle.hla_base.specs.declared.content.Content.{Content}
use Rattle.hla_base.specs.declared.content.Content.TheVariants as content
use Rattle.hla_base.specs.Tables.{upd}
use Rattle.hla_base.specs.Rows.{is_disabled}
use Rattle.hla_callbacks.specs.declared.callback.Callback.{Callback}
use Rattle.hla_callbacks.specs.declared.callback.Callback.TheVariants as callback
use Rattle.hla_callbacks.specs.declared.callback.Delivery.{Delivery}
use Rattle.hla_callbacks.specs.declared.callback.Delivery.TheVariants as delivery
use Rattle.hla_machine.specs.declared.service.Service.{Service}
use Rattle.hla_machine.specs.declared.service.Service.TheVariants as service
use Rattle.hla_machine.specs.declared.service.ResignAction.TheVariants.{DeleteObjects, NoAction}
use Rattle.hla_machine.specs.declared.step.Step.{Step}
use Rattle.hla_machine.specs.declared.step.Step.TheVariants.{Call, Carry, Tick}
use Rattle.hla_machine.specs.declared.step.Carried.{Carried}
use Rattle.hla_machine.specs.declared.step.Carried.TheVariants as carried
use Rattle.hla_machine.specs.declared.step.Answer.{Answer}
use Rattle.hla_machine.specs.declared.step.Answer.TheVariants as answer
use Rattle.hla_machine.specs.declared.step.Outcome.{Outcome}
use Rattle.hla_machine.specs.declared.step.Outcome.TheVariants as outcome
use Rattle.hla_machine.specs.declared.step.Choice.{Choice}
use Rattle.hla_machine.specs.declared.step.Choice.TheVariants as choice
use Rattle.hla_machine.specs.Directory.{Outgoing, deletion_sent, deletions_sent, objects_of, update_sent, interaction_sent}
use Rattle.hla_machine.specs.Central.{Central, Copy, Ro, Tso, Demoted, at_key, is_key, with_copies, demoted_copy}
use Rattle.hla_machine.specs.Callbacks.{IsCopy, MayDeliver, MayPickUp, is_among, with_demoted, after_delivery, after_constraint, after_pick}
use Rattle.hla_machine.specs.Sends.{after_message, after_messages, copy_for}
use Rattle.hla_machine.specs.Refusals.{refusal}
use Rattle.hla_machine.specs.Machine.{central_seen, MayCarry, MayDo, MayEnd, after_leaving, after_enter, after_cease, after_call, after_arrival, after_carry, after_done, after}
use Rattle.hla_machine.specs.History.{GivesCallback, Brings}
use Rattle.hla_base.proofs.Tables.{by_number, upd_same, upd_other}
use Rattle.hla_retraction.specs.SentEvents.{SentEvent}
use Rattle.hla_machine.proofs.Basics.Tests.{caller_joined}
use Rattle.hla_machine.proofs.Upkeep.Keeps.{IsCentralKept}

-- a retraction that is owed is of an event that is retracted
abbrev pub Owing : (ℕ → ℕ → SentEvent) → (ℕ → ℕ → ℕ → ℕ) → Type 0
Owing sent owed = (g m f : ℕ) → 1 ≤ owed g m f → (sent g m).retracted ≡ true

pub at_cases : (bag : ℕ → ℕ → ℕ → Option Copy) (g m f : ℕ) (o : Option Copy) (h n l : ℕ) → ((g ≡ h) × (m ≡ n) × (f ≡ l) × (at_key bag g m f o h n l ≡ o)) ⊎ (at_key bag g m f o h n l ≡ bag h n l)
unfolding at_key
at_cases bag g m f o h n l = ⊎_elim
    (λ (y : (is_key g m h n && eqb f l) ≡ true). let p = and_parts _ _ y in let q = and_parts _ _ p.0 in inl (eqb-true g h q.0, eqb-true m n q.1, eqb-true f l p.1, rw y refl))
    (λ (e : (is_key g m h n && eqb f l) ≡ false). inr (rw e refl))
    (cases_Bool (is_key g m h n && eqb f l))

pub copies_stay : (joined : ℕ → Bool) (bag : ℕ → ℕ → ℕ → Option Copy) (g m : ℕ) (copy : ℕ → Option Copy) (h n f : ℕ) → ((g ≡ h) → m ≡ n → ⊥) → with_copies joined bag g m copy h n f ≡ bag h n f
unfolding with_copies
copies_stay joined bag g m copy h n f ne = ⊎_elim
    (λ (y : is_key g m h n ≡ true). absurd (let p = and_parts _ _ y in ne (eqb-true g h p.0) (eqb-true m n p.1)))
    (λ (e : is_key g m h n ≡ false). rw e refl)
    (cases_Bool (is_key g m h n))

pub demoted_cases : (bag : ℕ → ℕ → ℕ → Option Copy) (f : ℕ) (events : List EventHandle) (h n l : ℕ) → (with_demoted bag f events h n l ≡ option_map demoted_copy (bag h n l)) ⊎ (with_demoted bag f events h n l ≡ bag h n l)
unfolding with_demoted
demoted_cases bag f events h n l = ⊎_elim
    (λ (y : (eqb f l && is_among events h n) ≡ true). inl (rw y refl))
    (λ (e : (eqb f l && is_among events h n) ≡ false). inr (rw e refl))
    (cases_Bool (eqb f l && is_among events h n))

pub handle_is : (e : EventHandle) (g m : ℕ) → e.sender ≡ g → e.serial ≡ m → e ≡ record { sender = g; serial = m }
handle_is e g m e1 e2 = subst (λ m. e ≡ record { sender = g; serial = m }) e2 (subst (λ g. e ≡ record { sender = g; serial = e.serial }) e1 refl)

module _ (g m f : ℕ) (k : Copy) (tso : k.order ≡ Tso) where
  sends_stay : (c : Central) (a : ℕ) (stamp : Option ℕ) (outs : List Outgoing) → m < c.serial g → c.bag g m f ≡ Some k → (after_messages c a stamp outs).bag g m f ≡ Some k
  sends_stay c a stamp [] low is = is
  sends_stay c a stamp (out ∷ outs) low is = sends_stay (after_message c a stamp out) a stamp outs
      (le_trans low (by_number a (λ g. c.serial g ≤ upd c.serial a (c.serial a + 1) g) (rw upd_same (omega arith)) (λ g ne. rw upd_other (omega arith)) g))
      (copies_stay c.directory.joined c.bag a (c.serial a) (copy_for c.directory (c.row a) stamp out) g m f (λ e e2. let l : m < c.serial a = subst (λ g. m < c.serial g) (sym e) low in omega arith) ∙ is)

  -- what a step does to the copy; G says of a callback that f is given it
  module _ (c : Central) (kept : IsCentralKept c) (owing : Owing c.sent c.owed) (is : c.bag g m f ≡ Some k) (G : Callback → Type 0) where
    pub data Fate (d : Central) : Type 0 where
      Stays : d.bag g m f ≡ Some k → Fate d
      Moves : d.bag g m f ≡ Some (demoted_copy k) → Fate d
      Back : (c.sent g m).retracted ≡ true → Fate d
      Out : c.directory.joined f ≡ true → d.directory.joined f ≡ false → Fate d
      Taken : (x : Callback) → G x → Brings x (record { sender = g; serial = m }) k.stamp → Fate d

    low : m < c.serial g
    low = kept.unused g m f k is tso

    left_fate : (b : Central) (a : ℕ) → c.directory.joined a ≡ true → b.bag g m f ≡ Some k → Fate (after_leaving b a)
    left_fate b a member was = ⊎_elim
        (λ (e : a ≡ f). Out (subst (λ a. c.directory.joined a ≡ true) e member) (subst (λ a. upd b.directory.joined a false f ≡ false) (sym e) (upd_same b.directory.joined f false)))
        (λ (ne : a ≢ f). Stays (upd_other (b.bag g m) a None f ne ∙ was))
        (cases_eq a f)

    moved_fate : (d : Central) (a : ℕ) (events : List EventHandle) → d.bag ≡ with_demoted c.bag a events → Fate d
    moved_fate d a events follows = ⊎_elim
        (λ (y : with_demoted c.bag a events g m f ≡ option_map demoted_copy (c.bag g m f)). Moves (rw (follows, y, is) refl))
        (λ (n : with_demoted c.bag a events g m f ≡ c.bag g m f). Stays (rw (follows, n) is))
        (demoted_cases c.bag a events g m f)

    enter_fate : (a lookahead : ℕ) (o : Choice) → Fate (after_enter c a lookahead o)
    enter_fate a lookahead (choice.Entry e) = Stays is
    enter_fate a lookahead o = Stays is

    cease_fate : (a : ℕ) (o : Choice) → Fate (after_cease c a o)
    cease_fate a (choice.Moved events) = moved_fate _ a events refl
    cease_fate a o = Stays is

    call_fate : (a : ℕ) (s : Service) (o : Choice) → c.directory.joined a ≡ true → Fate (after_call c a s o)
    call_fate a (service.Resign DeleteObjects) o member = let outs = deletions_sent (objects_of c.directory a) in left_fate (after_messages c a None outs) a member (sends_stay c a None outs low is)
    call_fate a (service.Resign NoAction) o member = left_fate c a member is
    call_fate a (service.UpdateAttributeValues object values stamp) o member = Stays (sends_stay c a stamp (update_sent c.directory object values) low is)
    call_fate a (service.SendInteraction class values stamp) o member = Stays (sends_stay c a stamp (interaction_sent c.directory a class values) low is)
    call_fate a (service.DeleteObjectInstance object stamp) o member = Stays (sends_stay c a stamp (deletion_sent c.directory object) low is)
    call_fate a (service.EnableTimeRegulation time lookahead) o member = enter_fate a lookahead o
    call_fate a service.DisableTimeConstrained o member = cease_fate a o
    call_fate a s o member = Stays is

    arrived_fate : (a b n : ℕ) → Fate (after_arrival c a b n)
    arrived_fate a b n = ⊎_elim (λ s. Stays s) (λ s. Moves s)
        (cond_both (is_disabled (c.row b).constrained) (at_key c.bag a n b (option_map demoted_copy (c.bag a n b))) c.bag (λ (to : ℕ → ℕ → ℕ → Option Copy). (to g m f ≡ Some k) ⊎ (to g m f ≡ Some (demoted_copy k)))
        (λ _. ⊎_elim
        (λ (y : (a ≡ g) × (n ≡ m) × (b ≡ f) × (at_key c.bag a n b (option_map demoted_copy (c.bag a n b)) g m f ≡ option_map demoted_copy (c.bag a n b))). inr (y.3 ∙ at_same a n b y.0 y.1 y.2))
        (λ (e : at_key c.bag a n b (option_map demoted_copy (c.bag a n b)) g m f ≡ c.bag g m f). inl (e ∙ is))
        (at_cases c.bag a n b (option_map demoted_copy (c.bag a n b)) g m f))
        (λ _. inl is))
      where
        at_same : (a n b : ℕ) → a ≡ g → n ≡ m → b ≡ f → option_map demoted_copy (c.bag a n b) ≡ Some (demoted_copy k)
        at_same a n b e e2 e3 = rw (e, e2, e3, is) refl

    carry_fate : (a b : ℕ) (x : Carried) → MayCarry c a b x → Fate (after_carry c a b x)
    carry_fate a b (carried.Event e) may = arrived_fate a b e.serial
    carry_fate a b (carried.Removal e) may = arrived_fate a b e.serial
    carry_fate a b (carried.Retraction e) may = ⊎_elim
        (λ (y : (a ≡ g) × (e.serial ≡ m) × (b ≡ f) × (at_key c.bag a e.serial b None g m f ≡ None)).
        Back (owing g m f (subst (λ b. 1 ≤ c.owed g m b) y.2 (subst (λ n. 1 ≤ c.owed g n b) y.1 (subst (λ a. 1 ≤ c.owed a e.serial b) y.0 may.1)))))
        (λ (n : at_key c.bag a e.serial b None g m f ≡ c.bag g m f). Stays (n ∙ is))
        (at_cases c.bag a e.serial b None g m f)
    carry_fate a b x may = Stays is

    module _ (a : ℕ) where
      taken_fate : (d : Central) (e : EventHandle) → d.bag ≡ at_key c.bag e.sender e.serial a None → (e.sender ≡ g → e.serial ≡ m → a ≡ f → Fate d) → Fate d
      taken_fate d e follows same = ⊎_elim
          (λ (y : (e.sender ≡ g) × (e.serial ≡ m) × (a ≡ f) × (at_key c.bag e.sender e.serial a None g m f ≡ None)). same y.0 y.1 y.2)
          (λ (n : at_key c.bag e.sender e.serial a None g m f ≡ c.bag g m f). Stays (rw (follows, n) is))
          (at_cases c.bag e.sender e.serial a None g m f)

      same_copy : (e : EventHandle) (x : Copy) → IsCopy c a e x → e.sender ≡ g → e.serial ≡ m → a ≡ f → x ≡ k
      same_copy e x copy e1 e2 e3 =
          let at : c.bag g m f ≡ Some x = subst (λ a. c.bag g m a ≡ Some x) e3 (subst (λ n. c.bag g n a ≡ Some x) e2 (subst (λ h. c.bag h e.serial a ≡ Some x) e1 copy)) in
          let both : Some x ≡ Some k = sym at ∙ is in cc

      not_ro : (x : Copy) → x ≡ k → x.order ≡ Ro → ⊥
      not_ro x e o = let t : x.order ≡ Tso = subst (λ (k : Copy). k.order ≡ Tso) (sym e) tso in let b : Ro ≡ Tso = sym o ∙ t in cc

      not_demoted : (x : Copy) → x ≡ k → x.order ≡ Demoted → ⊥
      not_demoted x e o = let t : x.order ≡ Tso = subst (λ (k : Copy). k.order ≡ Tso) (sym e) tso in let b : Demoted ≡ Tso = sym o ∙ t in cc

      deliver_fate : (x : Content) (e : EventHandle) (d : Delivery) → MayDeliver c a x e d → ((s : ℕ) → d ≡ delivery.TimeStamp s → a ≡ f → e ≡ record { sender = g; serial = m } → s ≡ k.stamp → Fate (after_delivery c a e d)) → Fate (after_delivery c a e d)
      deliver_fate x e delivery.Receive may gives = taken_fate _ e refl (λ e1 e2 e3. absurd (not_ro _ (same_copy e _ may.2 e1 e2 e3) refl))
      deliver_fate x e (delivery.Demoted s) may gives = taken_fate _ e refl (λ e1 e2 e3. absurd (not_demoted _ (same_copy e _ may.2 e1 e2 e3) refl))
      deliver_fate x e (delivery.TimeStamp s) may gives = taken_fate _ e refl (λ e1 e2 e3. gives s refl e3 (handle_is e g m e1 e2) (subst (λ (y : Copy). s ≡ y.stamp) (same_copy e _ may.2 e1 e2 e3) refl))

      constrain_fate : (o : Choice) → Fate (after_constraint c a o)
      constrain_fate (choice.Moved events) = moved_fate _ a events refl
      constrain_fate o = Stays is

      pick_fate : (x : Callback) (o : Choice) → MayPickUp c a x o → (a ≡ f → G x) → Fate (after_pick c a x o)
      pick_fate (callback.ReflectAttributeValues object values event d) o may gives = deliver_fate (content.Reflection object values) event d may
          (λ s e e1 e2 e3. Taken (callback.ReflectAttributeValues object values event d) (gives e1) (e2, subst (λ s. d ≡ delivery.TimeStamp s) e3 e))
      pick_fate (callback.ReceiveInteraction class values event d) o may gives = deliver_fate (content.Interaction class values) event d may
          (λ s e e1 e2 e3. Taken (callback.ReceiveInteraction class values event d) (gives e1) (e2, subst (λ s. d ≡ delivery.TimeStamp s) e3 e))
      pick_fate (callback.RemoveObjectInstance object event d) o may gives = deliver_fate (content.Removal object) event d may
          (λ s e e1 e2 e3. Taken (callback.RemoveObjectInstance object event d) (gives e1) (e2, subst (λ s. d ≡ delivery.TimeStamp s) e3 e))
      pick_fate (callback.TimeConstrainedEnabled time) o may gives = constrain_fate o
      pick_fate x o may gives = Stays is

  module _ (c : Central) (kept : IsCentralKept c) (owing : Owing c.sent c.owed) (is : c.bag g m f ≡ Some k) where
    done_fate : (step : Step) (a : Answer) (o : Choice) → refusal (central_seen c) step ≡ None → MayDo c step a o → Fate c kept owing is (GivesCallback step (outcome.Done a) f) (after_done c step a o)
    done_fate (Call b s) a o none may = call_fate c kept owing is (GivesCallback (Call b s) (outcome.Done a) f) b s o (caller_joined (central_seen c) b s none)
    done_fate (Carry from to) (answer.Carried x) o none may = carry_fate c kept owing is (GivesCallback (Carry from to) (outcome.Done (answer.Carried x)) f) from to x may
    done_fate (Tick b) (answer.Ticked (Some x)) o none may = pick_fate c kept owing is (GivesCallback (Tick b) (outcome.Done (answer.Ticked (Some x))) f) b x o may.0 (λ e. (e, refl))
    done_fate step a o none may = Stays is

    pub step_fate : (step : Step) (out : Outcome) (o : Choice) → MayEnd c step out o → Fate c kept owing is (GivesCallback step out f) (after c step out o)
    step_fate step (outcome.Done a) o may = done_fate step a o may.0 may.1
    step_fate (Tick b) (outcome.Failed x) o may = pick_fate c kept owing is (GivesCallback (Tick b) (outcome.Failed x) f) b x o may.1.0 (λ e. (e, refl))
    step_fate step out o may = Stays is
