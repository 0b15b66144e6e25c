-- Retractions, and what waits among the controls
use Rattle.std.proofs.Common.{◌≡◌, ◌≢◌, ◌⊎◌, ℕ, ◌+◌, ◌-◌, ◌≤◌, ◌<◌, cond, eqb, ◌&&◌, Bool, true, false, refl, sym, ap, ◌∙◌, inl, inr, ⊎_elim, arith, eq-eqb, ne_eqb, List, [], ◌∷◌, ◌++◌, Option, Some, None, option_map}
use Rattle.std.proofs.lemmas.Bool.{cond_both, and_parts, cases_Bool, cases_lt, ltb-true}
use Rattle.std.proofs.lemmas.Bool.Decides.{nat_tests}
use Rattle.std.proofs.lemmas.List.{append-nil}
use Rattle.hla_base.specs.declared.content.Discovery.{Discovery}
use Rattle.hla_base.specs.declared.content.Event.{Event}
use Rattle.hla_base.specs.declared.number.EventHandle.{EventHandle}
use Rattle.hla_null_message.specs.declared.message.Message.{Message}
use Rattle.hla_null_message.specs.declared.message.Message.TheVariants as message
use Rattle.hla_base.specs.Tables.{is_other, or_else, upd, upd2, upd_row, one_if}
use Rattle.hla_base.specs.Rows.{is_none_of, is_regulator, least_stamp}
use Rattle.hla_machine.specs.declared.service.Service.TheVariants as service
use Rattle.hla_machine.specs.declared.step.Step.TheVariants.{Call, Carry}
use Rattle.hla_machine.specs.Central.{is_key, at_key, at3}
use Rattle.hla_machine.specs.Sends.{is_told, owed_to_receivers}
use Rattle.hla_machine.specs.Refusals.{refusal}
use Rattle.hla_component_rules.specs.declared.control.Control.{Control}
use Rattle.hla_component_rules.specs.declared.control.Control.TheVariants.{ToDiscover, ToRetract, ToTell}
use Rattle.hla_component_rules.specs.Queues.{is_event, find_event, remove_event, occurrences}
use Rattle.hla_null_message.specs.Wires.{events, discoveries, retractions, put_behind}
use Rattle.hla_component_rules.specs.Controls.{discoveries_from, dues, notices_in}
use Rattle.hla_components.specs.Components.{Components}
use Rattle.hla_components.specs.Next.{components_seen, step_outcome, put_retraction, with_event_retracted, with_retraction_accepted, carry_outcome}
use Rattle.hla_components.specs.CentralOf.{central, bag_of, wire_copy, tso_copy, ro_copy}
use Rattle.hla_components.specs.Invariant.{Tells, Kept}
use Rattle.hla_machine.specs.CentralInvariant.{CentralInv}
use Rattle.hla_components.specs.Headline.{IsKeptStep}
use Rattle.hla_base.proofs.Tables.{by_number, by_pair, upd_same, upd_other, upd2_same, upd2_other, upd2_each, upd_row_each, upd_row_here, upd_row_self, upd_row_other}
use Rattle.hla_components.proofs.Wiring.Queues.{find-none, find-remove, find-remove_other}
use Rattle.hla_components.proofs.Wiring.Wires.{events-put_retraction, events-retraction, discoveries-put_retraction, discoveries-retraction, retractions-put, retractions-cons, retractions-here}
use Rattle.hla_components.proofs.Upkeep.Times.{CarriesIn}
use Rattle.hla_components.proofs.Upkeep.Epochs.{time_retracts, time_retraction_came}
use Rattle.hla_components.proofs.Services.Telling.{notices-put_retract}
use Rattle.hla_components.proofs.Wiring.Copies.{copies_wires, copies_retraction_came}
use Rattle.hla_components.proofs.Upkeep.Objects.{objects_wires, objects_retraction_came, tells_retraction}
use Rattle.hla_machine.proofs.Basics.Bags.{by_key, at3_here, at3_else, central_ext}
use Rattle.hla_components.proofs.Wiring.Bags.{bag_same_wires, bag_removed}
use Rattle.hla_machine.proofs.Basics.Tests.{clear_call, caller_joined, not-is-false}
use Rattle.hla_components.proofs.Services.Steps.{wired_row, wired_taken, regulator_from, last_le_least}

-- ---- a retraction is put on the wires
module _ (s : Components) (f m : ℕ) where
  abbrev put_for : ℕ → List Message → List Message
  put_for = put_retraction s.directory f (s.sent f m) m

  retract_events : (g k : ℕ) → events (upd_row s.wire s.directory.joined f put_for g k) ≡ events (s.wire g k)
  retract_events = upd_row_each s.wire s.directory.joined f put_for (λ g k ms. events ms ≡ events (s.wire g k))
      (λ k _. cond_both (is_told s.directory f (s.sent f m) k) (put_behind (message.Retraction m) (s.wire f k)) (s.wire f k) (λ ms. events ms ≡ events (s.wire f k)) (λ _. events-put_retraction m (s.wire f k)) (λ _. refl)) (λ _ _. refl)

  retract_discoveries : (g k : ℕ) → discoveries (s.wire g k) ≡ discoveries (upd_row s.wire s.directory.joined f put_for g k)
  retract_discoveries = upd_row_each s.wire s.directory.joined f put_for (λ g k ms. discoveries (s.wire g k) ≡ discoveries ms)
      (λ k _. cond_both (is_told s.directory f (s.sent f m) k) (put_behind (message.Retraction m) (s.wire f k)) (s.wire f k) (λ ms. discoveries (s.wire f k) ≡ discoveries ms) (λ _. sym (discoveries-put_retraction m (s.wire f k))) (λ _. refl)) (λ _ _. refl)

  retract_tells : Kept s → (g k : ℕ) → Tells s.directory g k (upd_row s.wire s.directory.joined f put_for g k)
  retract_tells kept = upd_row_each s.wire s.directory.joined f put_for (Tells s.directory)
      (λ k _. cond_both (is_told s.directory f (s.sent f m) k) (put_behind (message.Retraction m) (s.wire f k)) (s.wire f k) (Tells s.directory f k) (λ _. tells_retraction s.directory f k (s.wire f k) m (kept.objects.tells f k)) (λ _. kept.objects.tells f k)) kept.objects.tells

  -- what is owed
  owed_put : (n k : ℕ) (b : Bool) → retractions n (cond b (put_behind (message.Retraction m) (s.wire f k)) (s.wire f k)) ≡ retractions n (s.wire f k) + one_if (is_key f m f n && b)
  owed_put n k true = rw retractions-put (same_number f m n (retractions n (s.wire f k)))
    where
      same_number : (f m n x : ℕ) → x + one_if (eqb n m) ≡ x + one_if ((eqb f f && eqb m n) && true)
      same_number f m n x = grind (arith, nat_tests)
  owed_put n k false = never (is_key f m f n) (retractions n (s.wire f k))
    where
      never : (b : Bool) (x : ℕ) → x ≡ x + one_if (b && false)
      never true x = omega arith
      never false x = omega arith

  not_told : (k : ℕ) → is_other s.directory.joined f k ≡ false → is_told s.directory f (s.sent f m) k ≡ false
  not_told k off = rw off refl

  nothing_owed : (b c : Bool) (x : ℕ) → c ≡ false → x ≡ x + one_if (b && c)
  nothing_owed true c x e = rw e (omega arith)
  nothing_owed false c x e = omega arith

  owed_retract : (g n k : ℕ) → retractions n (upd_row s.wire s.directory.joined f put_for g k) ≡ owed_to_receivers (λ g m f. retractions m (s.wire g f)) f m (is_told s.directory f (s.sent f m)) g n k
  unfolding owed_to_receivers
  owed_retract = by_number f _
      (λ n k. ⊎_elim
      (λ (o : is_other s.directory.joined f k ≡ true). rw upd_row_here (owed_put n k (is_told s.directory f (s.sent f m) k)))
      (λ (o : is_other s.directory.joined f k ≡ false). rw upd_row_self (nothing_owed (is_key f m f n) (is_told s.directory f (s.sent f m) k) (retractions n (s.wire f k)) (not_told k o)))
      (cases_Bool (is_other s.directory.joined f k)))
      (λ g ne n k. rw (upd_row_other, ne_eqb f g ne) (omega arith))

  kept_retracts : Kept s → s.directory.joined f ≡ true → m < s.serial f → is_regulator (s.row f) ≡ true → s.last_announced f < (s.sent f m).stamp → Kept (with_event_retracted s f m)
  kept_retracts kept member old reg high = record {
    directory = kept.directory;
    wired = wired_row s f put_for kept member;
    time = time_retracts s f m kept.time old reg high;
    copies = copies_wires s (upd_row s.wire s.directory.joined f put_for) retract_events kept.copies;
    objects = objects_wires s.directory s.wire (upd_row s.wire s.directory.joined f put_for) s.tso s.ro s.controls (retract_tells kept) retract_discoveries kept.objects;
  }

pub step_retract : (s : Components) (f : ℕ) (event : EventHandle) → Kept s → CentralInv (central s) → refusal (components_seen s) (Call f (service.Retract event)) ≡ None
    → IsKeptStep s (Call f (service.Retract event)) (step_outcome s (Call f (service.Retract event)))
step_retract s f event kept laws none =
    let m = event.serial in
    let p = and_parts _ _ (not-is-false _ (clear_call (components_seen s) f (service.Retract event) none).0) in
    let p1 = and_parts _ _ p.1 in let p2 = and_parts _ _ p1.0 in let p3 = and_parts _ _ p2.0 in
    let reg : is_regulator (s.row f) ≡ true = regulator_from (s.row f).regulating p3.0 in
    let high : least_stamp (s.row f) < (s.sent f m).stamp = ltb-true _ _ p1.1 in
    record {
      kept = kept_retracts s f m kept (caller_joined (components_seen s) f (service.Retract event) none)
          (⊎_elim (λ l. l) (λ (u : s.serial f ≤ m). let n : (s.sent f m).retractable ≡ false = laws.unsent f m u in let y : (s.sent f m).retractable ≡ true = p3.1 in absurd (cc)) (cases_lt m (s.serial f))) reg
          (omega (arith, last_le_least s f kept reg, high));
      allowed = (none, tt);
      follows = central_ext _ _ refl refl refl refl (bag_same_wires s (upd_row s.wire s.directory.joined f (put_retraction s.directory f (s.sent f m) m)) (retract_events s f m))
          (λ g k. ap (λ ds. discoveries_from g (s.controls k) ++ ds) (sym (retract_discoveries s f m g k))) (owed_retract s f m) (λ _ _ _. refl) (λ _. refl);
    }

-- ---- controls
pub same_key_one : (g m : ℕ) → one_if (eqb g g && eqb m m) ≡ 1
same_key_one g m = rw (eq-eqb g g refl, eq-eqb m m refl) refl

pub key_turned : (g m h k : ℕ) → (eqb h g && eqb k m) ≡ is_key g m h k
key_turned g m h k = grind (arith, nat_tests)

pub dues-retract : (g m : ℕ) (e : EventHandle) (ks : List Control) → dues g m (ToRetract e ∷ ks) ≡ one_if (eqb g e.sender && eqb m e.serial) + dues g m ks
unfolding dues
dues-retract g m e ks = refl

pub dues-discover : (g m h : ℕ) (d : Discovery) (ks : List Control) → dues g m (ToDiscover h d ∷ ks) ≡ dues g m ks
unfolding dues
dues-discover g m h d ks = refl

pub dues-append : (g m : ℕ) (xs ys : List Control) → dues g m (xs ++ ys) ≡ dues g m xs + dues g m ys
unfolding dues
dues-append g m [] ys = omega arith
dues-append g m (ToRetract e ∷ xs) ys = omega (arith, dues-append g m xs ys)
dues-append g m (ToDiscover h d ∷ xs) ys = dues-append g m xs ys
dues-append g m (ToTell n ∷ xs) ys = dues-append g m xs ys

pub dues-nil : (g m : ℕ) → dues g m [] ≡ 0
unfolding dues
dues-nil g m = refl

pub from-retract : (g : ℕ) (e : EventHandle) (ks : List Control) → discoveries_from g (ToRetract e ∷ ks) ≡ discoveries_from g ks
unfolding discoveries_from
from-retract g e ks = refl

pub from-discover : (g h : ℕ) (d : Discovery) (ks : List Control) → discoveries_from g (ToDiscover h d ∷ ks) ≡ cond (eqb g h) (d ∷ discoveries_from g ks) (discoveries_from g ks)
unfolding discoveries_from
from-discover g h d ks = refl

pub from-append : (g : ℕ) (xs ys : List Control) → discoveries_from g (xs ++ ys) ≡ discoveries_from g xs ++ discoveries_from g ys
unfolding discoveries_from
from-append g [] ys = refl
from-append g (ToRetract e ∷ xs) ys = from-append g xs ys
from-append g (ToTell n ∷ xs) ys = from-append g xs ys
from-append g (ToDiscover h d ∷ xs) ys = ⊎_elim
    (λ (y : eqb g h ≡ true). rw y (ap (λ ds. d ∷ ds) (from-append g xs ys)))
    (λ (n : eqb g h ≡ false). rw n (from-append g xs ys))
    (cases_Bool (eqb g h))

pub from-nil : (g : ℕ) → discoveries_from g [] ≡ []
unfolding discoveries_from
from-nil g = refl

-- ---- a retraction is carried
module _ (s : Components) (g f m : ℕ) (ms : List Message) (front : s.wire g f ≡ message.Retraction m ∷ ms) where
  same_events : (h k : ℕ) → events (upd2 s.wire g f ms h k) ≡ events (s.wire h k)
  same_events = upd2_each s.wire g f ms (λ h k ns. events ns ≡ events (s.wire h k)) (rw (front, events-retraction) refl) (λ _ _. refl)

  not_same : (k : ℕ) → is_key g m g k ≡ false → one_if (eqb k m) ≡ 0
  not_same k e = grind (arith, nat_tests)

  owed_taken : (h k l : ℕ) → retractions k (upd2 s.wire g f ms h l) ≡ at3 (λ g m f. retractions m (s.wire g f)) g m f (retractions m (s.wire g f) - 1) h k l
  owed_taken = by_key g m _
      (by_number f _ (rw (upd2_same, at3_here, front, retractions-cons) (rw (eq-eqb m m refl) (omega arith)))
      (λ l ne. let k2 : (is_key g m g m ≡ false) ⊎ (f ≢ l) = inr ne in let w : (g ≢ g) ⊎ (f ≢ l) = inr ne in rw (upd2_other, at3_else) refl))
      (λ h k other l. let k2 : (is_key g m h k ≡ false) ⊎ (f ≢ l) = inl other in rw at3_else (by_pair g f (λ h l. is_key g m h k ≡ false → retractions k (upd2 s.wire g f ms h l) ≡ retractions k (s.wire h l))
      (λ o. rw (upd2_same, front, retractions-cons) (omega (arith, not_same k o))) (λ h l ne o. rw upd2_other refl) h l other))

  apart : (h k : ℕ) → is_key g m h k ≡ false → (x : Event) → is_event g m x ≡ true → is_event h k x ≡ false
  apart h k other x y = grind (arith, nat_tests)

  bag_retraction : Kept s → occurrences g m (events ms) ≡ 0 → bag_of (with_retraction_accepted s g f m ms) ≡ at_key (bag_of s) g m f None
  bag_retraction kept behind =
      bag_same_wires (record s { tso = upd s.tso f (remove_event g m (s.tso f)); ro = upd s.ro f (remove_event g m (s.ro f)) }) (upd2 s.wire g f ms) same_events
      ∙ bag_removed s f g m (remove_event g m (s.tso f)) (remove_event g m (s.ro f))
      (λ h k other. (find-remove_other g m h k (s.tso f) (apart h k other), find-remove_other g m h k (s.ro f) (apart h k other)))
      (rw (front, events-retraction) (find-none g m (events ms) behind))
      (find-remove g m (s.tso f) (omega (arith, kept.copies.once g m f))) (find-remove g m (s.ro f) (omega (arith, kept.copies.once g m f)))

  found_before : occurrences g m (events ms) ≡ 0 → find_event g m (events (s.wire g f)) ≡ None
  found_before behind = rw (front, events-retraction) (find-none g m (events ms) behind)

  due_other : (h k : ℕ) → is_key g m h k ≡ false → (b : Bool) (ks : List Control) → dues h k (cond b (ks ++ ToRetract (record { sender = g; serial = m }) ∷ []) ks) ≡ dues h k ks
  due_other h k other true ks = rw (dues-append, dues-retract, dues-nil) (rw (key_turned g m h k, other) (omega arith))
  due_other h k other false ks = refl

  due_here : (a b : Option Event) (ks : List Control) → find_event g m (events (s.wire g f)) ≡ None
      → dues g m (cond (is_none_of (or_else a b)) (ks ++ ToRetract (record { sender = g; serial = m }) ∷ []) ks) ≡ dues g m ks + one_if (is_none_of (or_else (option_map wire_copy (find_event g m (events (s.wire g f)))) (or_else (option_map tso_copy a) (option_map ro_copy b))))
  due_here (Some x) b ks none = rw none (omega arith)
  due_here None (Some x) ks none = rw none (omega arith)
  due_here None None ks none = rw none (rw (dues-append, dues-retract, dues-nil) (rw same_key_one refl))

  due_added : occurrences g m (events ms) ≡ 0 → (h k l : ℕ) → dues h k ((with_retraction_accepted s g f m ms).controls l)
      ≡ at3 (λ g m f. dues g m (s.controls f)) g m f (dues g m (s.controls f) + one_if (is_none_of (bag_of s g m f))) h k l
  due_added behind = by_key g m _
      (by_number f _ (rw (upd_same, at3_here) (due_here (find_event g m (s.tso f)) (find_event g m (s.ro f)) (s.controls f) (found_before behind)))
      (λ l ne. let k2 : (is_key g m g m ≡ false) ⊎ (f ≢ l) = inr ne in rw (upd_other, at3_else) refl))
      (λ h k other. by_number f _ (let k2 : (is_key g m h k ≡ false) ⊎ (f ≢ f) = inl other in rw (upd_same, at3_else) (due_other h k other (is_none_of (or_else (find_event g m (s.tso f)) (find_event g m (s.ro f)))) (s.controls f)))
      (λ l ne. let k2 : (is_key g m h k ≡ false) ⊎ (f ≢ l) = inr ne in rw (upd_other, at3_else) refl))

  same_discoveries : (h k : ℕ) → discoveries (upd2 s.wire g f ms h k) ≡ discoveries (s.wire h k)
  same_discoveries = upd2_each s.wire g f ms (λ h k ns. discoveries ns ≡ discoveries (s.wire h k)) (rw (front, discoveries-retraction) refl) (λ _ _. refl)

  same_notices : (b : Bool) (ks : List Control) → notices_in (cond b (ks ++ ToRetract (record { sender = g; serial = m }) ∷ []) ks) ≡ notices_in ks
  same_notices true ks = notices-put_retract ks (record { sender = g; serial = m })
  same_notices false ks = refl

  same_from : (h : ℕ) (b : Bool) (ks : List Control) → discoveries_from h (cond b (ks ++ ToRetract (record { sender = g; serial = m }) ∷ []) ks) ≡ discoveries_from h ks
  same_from h true ks = from-append h ks (ToRetract (record { sender = g; serial = m }) ∷ []) ∙ (ap (λ ds. discoveries_from h ks ++ ds) (from-retract h (record { sender = g; serial = m }) [] ∙ from-nil h) ∙ append-nil (discoveries_from h ks))
  same_from h false ks = refl

  came_discoveries : (h k : ℕ) → discoveries_from h ((with_retraction_accepted s g f m ms).controls k) ++ discoveries (upd2 s.wire g f ms h k) ≡ discoveries_from h (s.controls k) ++ discoveries (s.wire h k)
  came_discoveries h k = ap (λ ds. discoveries_from h ((with_retraction_accepted s g f m ms).controls k) ++ ds) (same_discoveries h k)
      ∙ ap (λ ds. ds ++ discoveries (s.wire h k)) (by_number f (λ k. discoveries_from h ((with_retraction_accepted s g f m ms).controls k) ≡ discoveries_from h (s.controls k))
      (rw upd_same (same_from h (is_none_of (or_else (find_event g m (s.tso f)) (find_event g m (s.ro f)))) (s.controls f))) (λ k ne. rw upd_other refl) k)

  pub step_retraction : Kept s → refusal (components_seen s) (Carry g f) ≡ None → IsKeptStep s (Carry g f) (carry_outcome s g f (message.Retraction m ∷ ms))
  step_retraction kept none =
      let at : CarriesIn s g f (message.Retraction m ∷ ms) = rw front at (kept.time.wires g f) in
      record {
        kept = record {
          directory = kept.directory;
          wired = (wired_taken s g f (message.Retraction m) ms kept front).1;
          time = time_retraction_came s g f m ms kept.time front;
          copies = copies_retraction_came s g f m ms kept.copies front;
          objects = objects_retraction_came s g f m ms kept.objects front;
        };
        allowed = (none, (refl, rw front (retractions-here m ms)));
        follows = central_ext _ _ refl refl refl refl (bag_retraction kept at.2) came_discoveries owed_taken (due_added at.2)
            (by_number f _ (rw upd_same (same_notices _ (s.controls f))) (λ k ne. rw upd_other refl));
      }
