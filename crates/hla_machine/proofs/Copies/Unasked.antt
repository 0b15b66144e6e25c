-- What a step that asks nobody to take a message back does to what is kept of it
use Rattle.std.proofs.Common.{◌≡◌, ◌≢◌, ◌⊎◌, ℕ, ◌+◌, ◌-◌, ◌≤◌, eqb, not, ◌&&◌, Bool, true, false, refl, sym, ◌∙◌, ap, subst, inl, inr, ⊎_elim, arith, eqb-true, eq-eqb, is_some, List, [], ◌∷◌, Option, Some, None, option_map}
use Rattle.std.proofs.lemmas.Bool.{cases_eq, cases_Bool, cond_both, and_parts}
use Rattle.hla_base.specs.declared.number.EventHandle.{EventHandle}
use Rattle.hla_base.specs.declared.content.Content.{Content}
use Rattle.hla_base.specs.declared.row.TimeRow.{TimeRow}
use Rattle.hla_base.specs.Tables.{upd, is_other, or_else, one_if}
use Rattle.hla_base.specs.Rows.{is_enabled, is_disabled, is_none_of}
use Rattle.hla_callbacks.specs.declared.callback.Callback.{Callback}
use Rattle.hla_callbacks.specs.declared.callback.Callback.TheVariants as callback
use Rattle.hla_callbacks.specs.declared.callback.Delivery.{Delivery}
use Rattle.hla_callbacks.specs.declared.callback.Delivery.TheVariants as delivery
use Rattle.hla_retraction.specs.SentEvents.{SentEvent, no_event, may_retract}
use Rattle.hla_machine.specs.declared.service.Service.{Service}
use Rattle.hla_machine.specs.declared.service.Service.TheVariants as service
use Rattle.hla_machine.specs.declared.service.ResignAction.TheVariants.{DeleteObjects, NoAction}
use Rattle.hla_machine.specs.declared.step.Step.TheVariants.{Call}
use Rattle.hla_machine.specs.declared.step.Carried.{Carried}
use Rattle.hla_machine.specs.declared.step.Carried.TheVariants as carried
use Rattle.hla_machine.specs.declared.step.Answer.{Answer}
use Rattle.hla_machine.specs.declared.step.Answer.TheVariants as answer
use Rattle.hla_machine.specs.declared.step.Choice.{Choice}
use Rattle.hla_machine.specs.declared.step.Choice.TheVariants as choice
use Rattle.hla_machine.specs.Directory.{Outgoing, content_for, deletion_sent, deletions_sent, objects_of, update_sent, interaction_sent}
use Rattle.hla_machine.specs.Central.{Central, Copy, at_key, at3, is_key, demoted_copy}
use Rattle.hla_machine.specs.Callbacks.{with_demoted, after_delivery, after_constraint, after_pick}
use Rattle.hla_machine.specs.Sends.{sent_event, copy_for, after_message, after_messages, is_retractable, is_told, owed_to_receivers}
use Rattle.hla_machine.specs.Refusals.{refusal}
use Rattle.hla_machine.specs.Machine.{central_seen, MayAnswer, MayCarry, after_leaving, after_retract, after_enter, after_cease, after_call, after_arrival, after_retraction_arrival, after_carry, after_join}
use Rattle.hla_machine.specs.History.{Names}
use Rattle.hla_base.proofs.Tables.{upd_at, upd_same, upd_other, upd2_same, upd2_other, cases_pair}
use Rattle.hla_machine.proofs.Basics.Bags.{key_parts, copies_here, at_key_here, at3_here}
use Rattle.hla_machine.proofs.Basics.Tests.{clear_call, not-is-false}
use Rattle.hla_machine.proofs.Copies.Fates.{at_cases, copies_stay, demoted_cases, handle_is}
use Rattle.hla_machine.proofs.Copies.Standing.{Standing, moved, passed, joined, left, begun, recalled, arrived}
use Rattle.hla_machine.proofs.Copies.Retractions.{serial_up, event_fresh, is_able}

-- ---- tests of places
-- one place is another, or the test says that it is not
pub same_place : (a n b g m f : ℕ) → ((a ≡ g) × (n ≡ m) × (b ≡ f)) ⊎ ((is_key a n g m && eqb b f) ≡ false)
same_place a n b g m f = ⊎_elim
    (λ (y : (is_key a n g m && eqb b f) ≡ true). let p = and_parts _ _ y in let q = key_parts a n g m p.0 in inl (q.0, q.1, eqb-true b f p.1))
    (λ (n : (is_key a n g m && eqb b f) ≡ false). inr n)
    (cases_Bool (is_key a n g m && eqb b f))

-- a change at another place leaves what is counted or lies here
pub at3_apart : (t : ℕ → ℕ → ℕ → ℕ) (a n b x g m f : ℕ) → (is_key a n g m && eqb b f) ≡ false → at3 t a n b x g m f ≡ t g m f
unfolding at3
at3_apart t a n b x g m f e = rw e refl

at_key_apart : (bag : ℕ → ℕ → ℕ → Option Copy) (a n b : ℕ) (o : Option Copy) (g m f : ℕ) → (is_key a n g m && eqb b f) ≡ false → at_key bag a n b o g m f ≡ bag g m f
unfolding at_key
at_key_apart bag a n b o g m f e = rw e refl

-- what is owed where a message is retracted, and elsewhere
owed_here : (t : ℕ → ℕ → ℕ → ℕ) (g m : ℕ) (told : ℕ → Bool) (f : ℕ) → owed_to_receivers t g m told g m f ≡ t g m f + one_if (told f)
unfolding owed_to_receivers
owed_here t g m told f = rw (eq-eqb g g refl, eq-eqb m m refl) refl

owed_else : (t : ℕ → ℕ → ℕ → ℕ) (a n : ℕ) (told : ℕ → Bool) (g m f : ℕ) → is_key a n g m ≡ false → owed_to_receivers t a n told g m f ≡ t g m f
unfolding owed_to_receivers
owed_else t a n told g m f e = rw e (omega arith)

-- ---- what a step does to it
-- a copy is still there
some_map : (x : Option Content) (make : Content → Copy) → is_some x ≡ true → is_some (option_map make x) ≡ true
some_map (Some x) make is = refl
some_map None make is = absurd (cc)

some_first : (a b : Option Copy) → is_some a ≡ true → is_some (or_else a b) ≡ true
some_first (Some x) b is = refl
some_first None b is = absurd (cc)

some_moved : (o : Option Copy) → is_some o ≡ true → is_some (option_map demoted_copy o) ≡ true
some_moved (Some x) is = refl
some_moved None is = absurd (cc)

-- what may be retracted is not retracted yet
unretracted_of : (r : TimeRow) (e : SentEvent) → may_retract r e ≡ true → e.retracted ≡ false
unretracted_of r e h = let p = and_parts (is_enabled r.regulating && e.retractable && not e.retracted) _ h in let q = and_parts (is_enabled r.regulating && e.retractable) _ p.0 in
    ⊎_elim (λ (y : e.retracted ≡ true). absurd (let n = rw y at q.1 in cc)) (λ (n : e.retracted ≡ false). n) (cases_Bool e.retracted)

-- a retraction is answered with nothing
pub retract_done : (e : EventHandle) (c : Central) (f : ℕ) (a : Answer) (o : Choice) → MayAnswer c f (service.Retract e) a o → a ≡ answer.Done
retract_done e c f answer.Done o may = refl
retract_done e c f a o may = absurd may

module _ (R H : Type 0) where
  -- the same of g's message m in a state
  abbrev pub Stands : Type 0 → ℕ → ℕ → ℕ → Central → Type 0
  Stands N g m f c = Standing m f R H N (c.sent g m) (c.serial g) (c.owed g m f) (c.due g m f) (c.bag g m f) (c.directory.joined f) c.directory.next_federate

  module _ (N : Type 0) where
    -- ---- sending
    -- a message is sent, and it is g's message m
    message_here : (g f : ℕ) (c : Central) (stamp : Option ℕ) (out : Outgoing) → Stands N g (c.serial g) f c → Stands N g (c.serial g) f (after_message c g stamp out)
    message_here g f c stamp out k =
        rw (upd2_same c.sent g (c.serial g) (sent_event c.directory (c.row g) g stamp out), upd_same c.serial g (c.serial g + 1))
        (begun (c.serial g) f R H N (c.sent g (c.serial g)) (c.serial g) (c.owed g (c.serial g) f) (c.due g (c.serial g) f) (c.bag g (c.serial g) f) (c.directory.joined f) c.directory.next_federate k
        (sent_event c.directory (c.row g) g stamp out) (c.serial g + 1) ((after_message c g stamp out).bag g (c.serial g) f) (omega arith) (omega arith) (event_fresh (is_retractable (c.row g) stamp out) _ refl) receives)
      where
        receives : (sent_event c.directory (c.row g) g stamp out).receivers f ≡ true → (is_some ((after_message c g stamp out).bag g (c.serial g) f) ≡ true) × (c.directory.joined f ≡ true)
        receives = cond_both (is_retractable (c.row g) stamp out) _ no_event (λ (e : SentEvent). e.receivers f ≡ true → (is_some ((after_message c g stamp out).bag g (c.serial g) f) ≡ true) × (c.directory.joined f ≡ true))
            (λ _ to.
            let p = and_parts (is_other c.directory.joined g f) (is_some (content_for c.directory out.body f)) to in
            let there = some_first (copy_for c.directory (c.row g) stamp out f) (c.bag g (c.serial g) f) (some_map (content_for c.directory out.body f) _ p.1) in
            (rw (copies_here c.bag g (c.serial g) c.directory.joined (copy_for c.directory (c.row g) stamp out) f p.0) there, (and_parts (not (eqb g f)) (c.directory.joined f) p.0).1))
            (λ _ to. absurd (cc))

    module _ (g m f : ℕ) where
      -- a message is sent, whichever it is
      message_stands : (c : Central) (a : ℕ) (stamp : Option ℕ) (out : Outgoing) → Stands N g m f c → Stands N g m f (after_message c a stamp out)
      message_stands c a stamp out k = ⊎_elim
          (λ (y : (a ≡ g) × (c.serial a ≡ m)).
          let serial : c.serial g ≡ m = subst (λ (a : ℕ). c.serial a ≡ m) y.0 y.1 in
          subst (λ (a : ℕ). Stands N g m f (after_message c a stamp out)) (sym y.0)
          (subst (λ (m : ℕ). Stands N g m f (after_message c g stamp out)) serial (message_here g f c stamp out (subst (λ (m : ℕ). Stands N g m f c) (sym serial) k))))
          (λ (n : (a ≢ g) ⊎ (c.serial a ≢ m)).
          rw (upd2_other c.sent a (c.serial a) (sent_event c.directory (c.row a) a stamp out) g m n, copies_stay c.directory.joined c.bag a (c.serial a) (copy_for c.directory (c.row a) stamp out) g m f (apart (c.serial a) a n))
          (passed m f R H N (c.sent g m) (c.serial g) (c.owed g m f) (c.due g m f) (c.bag g m f) (c.directory.joined f) c.directory.next_federate k (upd c.serial a (c.serial a + 1) g) (serial_up c.serial a g)))
          (cases_pair a g (c.serial a) m)
        where
          apart : (n a : ℕ) → (a ≢ g) ⊎ (n ≢ m) → (a ≡ g) → n ≡ m → ⊥
          apart n a (inl ne) e e2 = ne e
          apart n a (inr ne) e e2 = ne e2

      messages_stand : (c : Central) (a : ℕ) (stamp : Option ℕ) (outs : List Outgoing) → Stands N g m f c → Stands N g m f (after_messages c a stamp outs)
      messages_stand c a stamp [] k = k
      messages_stand c a stamp (out ∷ outs) k = messages_stand (after_message c a stamp out) a stamp outs (message_stands c a stamp out k)

      -- ---- other calls
      -- somebody resigns
      leaving_stands : (c : Central) (a : ℕ) → Stands N g m f c → Stands N g m f (after_leaving c a)
      leaving_stands c a k = ⊎_elim
          (λ (e : a ≡ f). subst (λ (a : ℕ). Stands N g m f (after_leaving c a)) (sym e)
          (rw (upd_same (c.owed g m) f 0, upd_same (c.due g m) f 0, upd_same (c.bag g m) f None, upd_same c.directory.joined f false)
          (left m f R H N (c.sent g m) (c.serial g) (c.owed g m f) (c.due g m f) (c.bag g m f) (c.directory.joined f) c.directory.next_federate k)))
          (λ (ne : a ≢ f). rw (upd_other (c.owed g m) a 0 f ne, upd_other (c.due g m) a 0 f ne, upd_other (c.bag g m) a None f ne, upd_other c.directory.joined a false f ne) k)
          (cases_eq a f)

      -- the copy moves, or f is given it
      to_stands : (c : Central) (p : Option Copy) → Stands N g m f c → (is_some (c.bag g m f) ≡ true → (is_some p ≡ true) ⊎ H) → Standing m f R H N (c.sent g m) (c.serial g) (c.owed g m f) (c.due g m f) p (c.directory.joined f) c.directory.next_federate
      to_stands c p k to = moved m f R H N (c.sent g m) (c.serial g) (c.owed g m f) (c.due g m f) (c.bag g m f) (c.directory.joined f) c.directory.next_federate k p to

      demoted_stands : (c : Central) (a : ℕ) (events : List EventHandle) → Stands N g m f c → Standing m f R H N (c.sent g m) (c.serial g) (c.owed g m f) (c.due g m f) (with_demoted c.bag a events g m f) (c.directory.joined f) c.directory.next_federate
      demoted_stands c a events k = to_stands c _ k (λ is. ⊎_elim
          (λ (y : with_demoted c.bag a events g m f ≡ option_map demoted_copy (c.bag g m f)). inl (rw y (some_moved (c.bag g m f) is)))
          (λ (n : with_demoted c.bag a events g m f ≡ c.bag g m f). inl (rw n is))
          (demoted_cases c.bag a events g m f))

      enter_stands : (c : Central) (a lookahead : ℕ) (o : Choice) → Stands N g m f c → Stands N g m f (after_enter c a lookahead o)
      enter_stands c a lookahead (choice.Entry e) k = k
      enter_stands c a lookahead o k = k

      cease_stands : (c : Central) (a : ℕ) (o : Choice) → Stands N g m f c → Stands N g m f (after_cease c a o)
      cease_stands c a (choice.Moved events) k = demoted_stands c a events k
      cease_stands c a o k = k

      -- g's message m is retracted
      retract_here : (c : Central) → (c.sent g m).retracted ≡ false → (c.sent g m).retractable ≡ true → R → Stands N g m f c → Stands N g m f (after_retract c g m)
      retract_here c un may called k =
          rw (upd2_same c.sent g m (record (c.sent g m) { retracted = true }), owed_here c.owed g m (is_told c.directory g (c.sent g m)) f)
          (recalled m f R H N (c.sent g m) (c.serial g) (c.owed g m f) (c.due g m f) (c.bag g m f) (c.directory.joined f) c.directory.next_federate k (is_told c.directory g (c.sent g m) f) un may called
          (λ told. let p = and_parts (is_other c.directory.joined g f) ((c.sent g m).receivers f) told in (p.1, (and_parts (not (eqb g f)) (c.directory.joined f) p.0).1)))

      -- a message is retracted, whichever it is
      retract_stands : (c : Central) (a n : ℕ) → (c.sent a n).retracted ≡ false → (c.sent a n).retractable ≡ true → (a ≡ g → n ≡ m → R) → Stands N g m f c → Stands N g m f (after_retract c a n)
      retract_stands c a n un may called k = ⊎_elim
          (λ (y : is_key a n g m ≡ true).
          let p = key_parts a n g m y in
          subst (λ (a : ℕ). Stands N g m f (after_retract c a n)) (sym p.0)
          (subst (λ (n : ℕ). Stands N g m f (after_retract c g n)) (sym p.1)
          (retract_here c
          (subst (λ (n : ℕ). (c.sent g n).retracted ≡ false) p.1 (subst (λ (a : ℕ). (c.sent a n).retracted ≡ false) p.0 un))
          (subst (λ (n : ℕ). (c.sent g n).retractable ≡ true) p.1 (subst (λ (a : ℕ). (c.sent a n).retractable ≡ true) p.0 may)) (called p.0 p.1) k)))
          (λ (e : is_key a n g m ≡ false). rw (upd2_other c.sent a n (record (c.sent a n) { retracted = true }) g m (other e), owed_else c.owed a n (is_told c.directory a (c.sent a n)) g m f e) k)
          (cases_Bool (is_key a n g m))
        where
          other : is_key a n g m ≡ false → (a ≢ g) ⊎ (n ≢ m)
          other e = ⊎_elim
              (λ (y : (a ≡ g) × (n ≡ m)). absurd (let b : true ≡ false = sym (rw (eq-eqb a g y.0, eq-eqb n m y.1) refl) ∙ e in cc))
              (λ (n : (a ≢ g) ⊎ (n ≢ m)). n)
              (cases_pair a g n m)

      pub call_stands : (c : Central) (a : ℕ) (s : Service) (o : Choice) → refusal (central_seen c) (Call a s) ≡ None → (s ≡ service.Retract (record { sender = g; serial = m }) → a ≡ g → R) → Stands N g m f c → Stands N g m f (after_call c a s o)
      call_stands c a (service.Resign DeleteObjects) o none called k = let outs = deletions_sent (objects_of c.directory a) in leaving_stands (after_messages c a None outs) a (messages_stand c a None outs k)
      call_stands c a (service.Resign NoAction) o none called k = leaving_stands c a k
      call_stands c a (service.UpdateAttributeValues object values stamp) o none called k = messages_stand c a stamp (update_sent c.directory object values) k
      call_stands c a (service.SendInteraction class values stamp) o none called k = messages_stand c a stamp (interaction_sent c.directory a class values) k
      call_stands c a (service.DeleteObjectInstance object stamp) o none called k = messages_stand c a stamp (deletion_sent c.directory object) k
      call_stands c a (service.Retract event) o none called k =
          let x = clear_call (central_seen c) a (service.Retract event) none in
          let p = and_parts (eqb event.sender a) (may_retract (c.row a) (c.sent a event.serial)) (not-is-false _ x.0) in
          retract_stands c a event.serial (unretracted_of (c.row a) (c.sent a event.serial) p.1) (is_able (c.row a) (c.sent a event.serial) p.1)
          (λ e e2. called (ap service.Retract (handle_is event g m (eqb-true event.sender a p.0 ∙ e) e2)) e) k
      call_stands c a (service.EnableTimeRegulation time lookahead) o none called k = enter_stands c a lookahead o k
      call_stands c a service.DisableTimeConstrained o none called k = cease_stands c a o k
      call_stands c a s o none called k = k

      -- ---- carrying
      arrival_stands : (c : Central) (a b n : ℕ) → Stands N g m f c → Stands N g m f (after_arrival c a b n)
      arrival_stands c a b n k = to_stands c _ k (λ is. inl (cond_both (is_disabled (c.row b).constrained) (at_key c.bag a n b (option_map demoted_copy (c.bag a n b))) c.bag (λ (to : ℕ → ℕ → ℕ → Option Copy). is_some (to g m f) ≡ true)
          (λ _. ⊎_elim
          (λ (y : (a ≡ g) × (n ≡ m) × (b ≡ f) × (at_key c.bag a n b (option_map demoted_copy (c.bag a n b)) g m f ≡ option_map demoted_copy (c.bag a n b))).
          rw y.3 (some_moved (c.bag a n b) (subst (λ (b : ℕ). is_some (c.bag a n b) ≡ true) (sym y.2) (subst (λ (n : ℕ). is_some (c.bag a n f) ≡ true) (sym y.1) (subst (λ (a : ℕ). is_some (c.bag a m f) ≡ true) (sym y.0) is)))))
          (λ (e : at_key c.bag a n b (option_map demoted_copy (c.bag a n b)) g m f ≡ c.bag g m f). rw e is)
          (at_cases c.bag a n b (option_map demoted_copy (c.bag a n b)) g m f))
          (λ _. is)))

      -- its retraction arrives at f
      taken_here : (c : Central) → 1 ≤ c.owed g m f → Stands N g m f c → Stands N g m f (after_retraction_arrival c g f m)
      taken_here c l k =
          rw (at3_here c.owed g m f (c.owed g m f - 1), at3_here c.due g m f (c.due g m f + one_if (is_none_of (c.bag g m f))), at_key_here c.bag g m f None)
          (arrived m f R H N (c.sent g m) (c.serial g) (c.owed g m f) (c.due g m f) (c.bag g m f) (c.directory.joined f) c.directory.next_federate k l)

      -- a retraction arrives, whichever it is
      taken_stands : (c : Central) (a b n : ℕ) → 1 ≤ c.owed a n b → Stands N g m f c → Stands N g m f (after_retraction_arrival c a b n)
      taken_stands c a b n l k = ⊎_elim
          (λ (y : (a ≡ g) × (n ≡ m) × (b ≡ f)).
          subst (λ (b : ℕ). Stands N g m f (after_retraction_arrival c a b n)) (sym y.2)
          (subst (λ (n : ℕ). Stands N g m f (after_retraction_arrival c a f n)) (sym y.1)
          (subst (λ (a : ℕ). Stands N g m f (after_retraction_arrival c a f m)) (sym y.0)
          (taken_here c (subst (λ (b : ℕ). 1 ≤ c.owed g m b) y.2 (subst (λ (n : ℕ). 1 ≤ c.owed g n b) y.1 (subst (λ (a : ℕ). 1 ≤ c.owed a n b) y.0 l))) k))))
          (λ (e : (is_key a n g m && eqb b f) ≡ false).
          rw (at3_apart c.owed a n b (c.owed a n b - 1) g m f e, at3_apart c.due a n b (c.due a n b + one_if (is_none_of (c.bag a n b))) g m f e, at_key_apart c.bag a n b None g m f e) k)
          (same_place a n b g m f)

      pub carry_stands : (c : Central) (a b : ℕ) (x : Carried) → MayCarry c a b x → Stands N g m f c → Stands N g m f (after_carry c a b x)
      carry_stands c a b (carried.Event e) may k = arrival_stands c a b e.serial k
      carry_stands c a b (carried.Removal e) may k = arrival_stands c a b e.serial k
      carry_stands c a b (carried.Retraction e) may k = taken_stands c a b e.serial may.1 k
      carry_stands c a b x may k = k

      -- ---- joining
      pub join_stands : (c : Central) (name : List ℕ) → Stands N g m f c → Stands N g m f (after_join c name)
      join_stands c name k = joined m f R H N (c.sent g m) (c.serial g) (c.owed g m f) (c.due g m f) (c.bag g m f) (c.directory.joined f) c.directory.next_federate k
          (upd c.directory.joined c.directory.next_federate true f) (c.directory.next_federate + 1) (omega arith)
          (λ is. ⊎_elim
          (λ (y : (upd c.directory.joined c.directory.next_federate true f ≡ true) × (c.directory.next_federate ≡ f)). inr (y.1, omega (arith, y.1)))
          (λ (n : (upd c.directory.joined c.directory.next_federate true f ≡ c.directory.joined f) × (c.directory.next_federate ≢ f)). inl (sym n.0 ∙ is))
          (upd_at c.directory.joined c.directory.next_federate true f))

      -- ---- ticks
      delivery_stands : (c : Central) (a : ℕ) (e : EventHandle) → (a ≡ f → e ≡ record { sender = g; serial = m } → H) → Stands N g m f c
          → Standing m f R H N (c.sent g m) (c.serial g) (c.owed g m f) (c.due g m f) (at_key c.bag e.sender e.serial a None g m f) (c.directory.joined f) c.directory.next_federate
      delivery_stands c a e hears k = to_stands c _ k (λ is. ⊎_elim
          (λ (y : (e.sender ≡ g) × (e.serial ≡ m) × (a ≡ f) × (at_key c.bag e.sender e.serial a None g m f ≡ None)). inr (hears y.2 (handle_is e g m y.0 y.1)))
          (λ (n : at_key c.bag e.sender e.serial a None g m f ≡ c.bag g m f). inl (rw n is))
          (at_cases c.bag e.sender e.serial a None g m f))

      delivered_stands : (c : Central) (a : ℕ) (e : EventHandle) (d : Delivery) → (a ≡ f → e ≡ record { sender = g; serial = m } → H) → Stands N g m f c → Stands N g m f (after_delivery c a e d)
      delivered_stands c a e delivery.Receive hears k = delivery_stands c a e hears k
      delivered_stands c a e (delivery.Demoted s) hears k = delivery_stands c a e hears k
      delivered_stands c a e (delivery.TimeStamp s) hears k = delivery_stands c a e hears k

      constraint_stands : (c : Central) (a : ℕ) (o : Choice) → Stands N g m f c → Stands N g m f (after_constraint c a o)
      constraint_stands c a (choice.Moved events) k = demoted_stands c a events k
      constraint_stands c a o k = k

      -- somebody is given anything but a request to take a message back
      pub picked_stands : (c : Central) (a : ℕ) (x : Callback) (o : Choice) → ((e : EventHandle) → x ≡ callback.RequestRetraction e → ⊥) → (a ≡ f → Names x (record { sender = g; serial = m }) → H) → Stands N g m f c → Stands N g m f (after_pick c a x o)
      picked_stands c a (callback.ReflectAttributeValues object values event d) o un hears k = delivered_stands c a event d hears k
      picked_stands c a (callback.ReceiveInteraction class values event d) o un hears k = delivered_stands c a event d hears k
      picked_stands c a (callback.RemoveObjectInstance object event d) o un hears k = delivered_stands c a event d hears k
      picked_stands c a (callback.TimeConstrainedEnabled time) o un hears k = constraint_stands c a o k
      picked_stands c a (callback.RequestRetraction e) o un hears k = absurd (un e refl)
      picked_stands c a x o un hears k = k
