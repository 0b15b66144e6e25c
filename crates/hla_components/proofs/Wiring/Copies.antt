-- Where the copies of messages are, after each change
use Rattle.std.proofs.Common.{◌≡◌, ◌≢◌, ◌⊎◌, ℕ, ◌+◌, ◌≤◌, ◌<◌, cond, Bool, true, false, refl, sym, ◌∙◌, inl, inr, ⊎_elim, arith, List, [], ◌∷◌, ◌++◌, Option, Some, None}
use Rattle.std.proofs.lemmas.Bool.Decides.{nat_tests}
use Rattle.std.proofs.lemmas.List.{append_assoc}
use Rattle.hla_base.specs.declared.content.Content.{Content}
use Rattle.hla_base.specs.declared.content.Event.{Event}
use Rattle.hla_null_message.specs.declared.message.Message.{Message}
use Rattle.hla_null_message.specs.declared.message.Message.TheVariants as message
use Rattle.hla_base.specs.Tables.{upd, upd2, upd_row, one_if}
use Rattle.hla_machine.specs.Directory.{Outgoing, content_for}
use Rattle.hla_component_rules.specs.Queues.{insert_event, remove_event, is_event, occurrences}
use Rattle.hla_null_message.specs.Wires.{events}
use Rattle.hla_components.specs.Components.{Components}
use Rattle.hla_components.specs.Next.{put_event, event_of, with_event_accepted, with_retraction_accepted, with_wire}
use Rattle.hla_component_rules.specs.Arriving.{is_kept_in_order}
use Rattle.hla_components.specs.Invariant.{EachOf, IsInSerialOrder, HasRisingSerials, AreEarlier, CopyInv, places_in}
use Rattle.hla_base.proofs.Tables.{by_number, upd_same, upd_other, upd2_same, upd2_other, upd2_each, upd_row_each, upd_row_other}
use Rattle.hla_components.proofs.Wiring.Queues.{occurs-append, occurs-insert, occurs-one, occurs-remove}
use Rattle.hla_components.proofs.Wiring.Wires.{events-put_event, occurs-put_event, events-event, events-retraction, occurs-event}
use Rattle.hla_components.proofs.Wiring.Carries.{one_if_le, not_key, not_sender}
use Rattle.hla_components.proofs.Basics.Each.{EachOf-insert, EachOf-remove, serials_below, serials-put, serials-drop, serials-remove, rising-put, earlier-put, earlier-rest}

abbrev pub AreCopies : Components → Type 0
AreCopies s = CopyInv s.serial s.wire s.tso s.ro

abbrev pub places : Components → ℕ → ℕ → ℕ → ℕ
places s g m f = places_in s.wire s.tso s.ro g m f

-- ---- a change of one component alone
pub copies_local : (s : Components) (f : ℕ) (tso ro : List Event) → AreCopies s
    → ((g m : ℕ) → occurrences g m tso + occurrences g m ro ≤ occurrences g m (s.tso f) + occurrences g m (s.ro f))
    → ((g : ℕ) → IsInSerialOrder g (ro ++ events (s.wire g f)))
    → ((g : ℕ) → AreEarlier g (events (s.wire g f)) tso)
    → CopyInv s.serial s.wire (upd s.tso f tso) (upd s.ro f ro)
copies_local s f tso ro c fewer order earlier = record {
  once = λ g m. by_number f _ (rw (upd_same, upd_same) (omega (arith, fewer g m, c.once g m f))) (λ k ne. rw (upd_other, upd_other) (c.once g m k));
  unused = λ g m. by_number f _ (λ new. rw (upd_same, upd_same) (omega (arith, fewer g m, c.unused g m f new))) (λ k ne new. rw (upd_other, upd_other) (c.unused g m k new));
  serials = λ g. by_number f _ (rw upd_same (order g)) (λ k ne. rw upd_other (c.serials g k));
  rising = c.rising;
  earlier = λ g. by_number f _ (rw upd_same (earlier g)) (λ k ne. rw upd_other (c.earlier g k));
}

-- ---- wires with the same events
pub copies_wires : (s : Components) (wire : ℕ → ℕ → List Message) → ((g f : ℕ) → events (wire g f) ≡ events (s.wire g f)) → AreCopies s → CopyInv s.serial wire s.tso s.ro
copies_wires s wire same c = record {
  once = λ g m f. rw (same g f) (c.once g m f);
  unused = λ g m f new. rw (same g f) (c.unused g m f new);
  serials = λ g f. rw (same g f) (c.serials g f);
  rising = λ g f. rw (same g f) (c.rising g f);
  earlier = λ g f. rw (same g f) (c.earlier g f);
}

-- ---- sending
module _ (s : Components) (f : ℕ) (stamp : Option ℕ) (out : Outgoing) where
  abbrev put_for : ℕ → List Message → List Message
  put_for g = put_event f (s.serial f) (s.row f) stamp out (content_for s.directory out.body g)

  -- at another key nothing comes
  put_places : (g m : ℕ) (o : Option Content) (ms : List Message) → (f ≢ g) ⊎ (s.serial f ≢ m) → occurrences g m (events (put_event f (s.serial f) (s.row f) stamp out o ms)) ≡ occurrences g m (events ms)
  put_places g m None ms ne = refl
  put_places g m (Some x) ms (inl ne) = omega (arith, occurs-put_event g m (event_of f (s.serial f) (s.row f) stamp out x) ms, not_sender g m (event_of f (s.serial f) (s.row f) stamp out x) (λ e. ne (sym e)))
  put_places g m (Some x) ms (inr ne) = omega (arith, occurs-put_event g m (event_of f (s.serial f) (s.row f) stamp out x) ms, not_key g m (event_of f (s.serial f) (s.row f) stamp out x) (λ e. ne (sym e)))

  put_once : (g m : ℕ) (o : Option Content) (ms : List Message) → occurrences g m (events (put_event f (s.serial f) (s.row f) stamp out o ms)) ≤ occurrences g m (events ms) + 1
  put_once g m None ms = omega arith
  put_once g m (Some x) ms = omega (arith, occurs-put_event g m (event_of f (s.serial f) (s.row f) stamp out x) ms, one_if_le (is_event g m (event_of f (s.serial f) (s.row f) stamp out x)))

  sent_places : (g m k : ℕ) → (f ≢ g) ⊎ (s.serial f ≢ m) → occurrences g m (events (upd_row s.wire s.directory.joined f put_for g k)) ≡ occurrences g m (events (s.wire g k))
  sent_places g m k = upd_row_each s.wire s.directory.joined f put_for (λ g k ms. (f ≢ g) ⊎ (s.serial f ≢ m) → occurrences g m (events ms) ≡ occurrences g m (events (s.wire g k)))
      (λ k _ ne. put_places f m (content_for s.directory out.body k) (s.wire f k) ne) (λ g k ne. refl) g k

  sent_once : (g m k : ℕ) → occurrences g m (events (upd_row s.wire s.directory.joined f put_for g k)) ≤ occurrences g m (events (s.wire g k)) + 1
  sent_once g m k = upd_row_each s.wire s.directory.joined f put_for (λ g k ms. occurrences g m (events ms) ≤ occurrences g m (events (s.wire g k)) + 1)
      (λ k _. put_once f m (content_for s.directory out.body k) (s.wire f k)) (λ g k. omega arith) g k

  put_serials : (k : ℕ) (o : Option Content) → AreCopies s → IsInSerialOrder f (s.ro k ++ events (put_event f (s.serial f) (s.row f) stamp out o (s.wire f k)))
  put_serials k None c = c.serials f k
  put_serials k (Some x) c = let e = event_of f (s.serial f) (s.row f) stamp out x in
      rw (events-put_event e (s.wire f k), ← (append_assoc (s.ro k) (events (s.wire f k)) (e ∷ []))) (serials-put f e (s.ro k ++ events (s.wire f k))
      (serials_below f (s.serial f) (s.ro k ++ events (s.wire f k)) (λ m up. omega (arith, occurs-append f m (s.ro k) (events (s.wire f k)), c.unused f m k up)))
      (c.serials f k))

  -- the new one is above all others of its sender
  put_rising : (k : ℕ) (o : Option Content) → AreCopies s → HasRisingSerials f (events (put_event f (s.serial f) (s.row f) stamp out o (s.wire f k)))
  put_rising k None c = c.rising f k
  put_rising k (Some x) c = let e = event_of f (s.serial f) (s.row f) stamp out x in
      rw (events-put_event e (s.wire f k)) (rising-put f e (events (s.wire f k)) (serials_below f (s.serial f) (events (s.wire f k)) (λ m up. omega (arith, c.unused f m k up))) (c.rising f k))

  put_earlier : (k : ℕ) (o : Option Content) → AreCopies s → AreEarlier f (events (put_event f (s.serial f) (s.row f) stamp out o (s.wire f k))) (s.tso k)
  put_earlier k None c = c.earlier f k
  put_earlier k (Some x) c = let e = event_of f (s.serial f) (s.row f) stamp out x in
      rw (events-put_event e (s.wire f k)) (earlier-put f e (events (s.wire f k)) (s.tso k) (serials_below f (s.serial f) (s.tso k) (λ m up. omega (arith, c.unused f m k up))) (c.earlier f k))

  -- a key that is not the new one, or the new one
  key_new : (g m : ℕ) → ((f ≡ g) × (s.serial f ≡ m)) ⊎ ((f ≢ g) ⊎ (s.serial f ≢ m))
  key_new g m = grind (arith, nat_tests)

  pub copies_sent : AreCopies s → CopyInv (upd s.serial f (s.serial f + 1)) (upd_row s.wire s.directory.joined f put_for) s.tso s.ro
  copies_sent c = record {
    once = λ g m k. ⊎_elim
        (λ (same : (f ≡ g) × (s.serial f ≡ m)). let none : places s g m k ≡ 0 = rw (← same.0, ← same.1) (c.unused f (s.serial f) k (omega arith)) in omega (arith, none, sent_once g m k))
        (λ (ne : (f ≢ g) ⊎ (s.serial f ≢ m)). omega (arith, sent_places g m k ne, c.once g m k))
        (key_new g m);
    unused = by_number f _
        (λ m k new. let up : s.serial f + 1 ≤ m = rw upd_same at new in let ne : (f ≢ f) ⊎ (s.serial f ≢ m) = inr (λ (e : s.serial f ≡ m). omega arith) in omega (arith, sent_places f m k ne, c.unused f m k (omega arith)))
        (λ g other m k new. let up : s.serial g ≤ m = rw upd_other at new in let ne : (f ≢ g) ⊎ (s.serial f ≢ m) = inl other in omega (arith, sent_places g m k ne, c.unused g m k up));
    serials = by_number f _
        (λ k. upd_row_each s.wire s.directory.joined f put_for (λ g k ms. f ≡ g → IsInSerialOrder f (s.ro k ++ events ms)) (λ k _ _. put_serials k (content_for s.directory out.body k) c) (λ g k e. rw (← e) (c.serials f k)) f k refl)
        (λ g ne k. rw upd_row_other (c.serials g k));
    rising = by_number f _
        (λ k. upd_row_each s.wire s.directory.joined f put_for (λ g k ms. f ≡ g → HasRisingSerials f (events ms)) (λ k _ _. put_rising k (content_for s.directory out.body k) c) (λ g k e. rw (← e) (c.rising f k)) f k refl)
        (λ g ne k. rw upd_row_other (c.rising g k));
    earlier = by_number f _
        (λ k. upd_row_each s.wire s.directory.joined f put_for (λ g k ms. f ≡ g → AreEarlier f (events ms) (s.tso k)) (λ k _ _. put_earlier k (content_for s.directory out.body k) c) (λ g k e. rw (← e) (c.earlier f k)) f k refl)
        (λ g ne k. rw upd_row_other (c.earlier g k));
  }

-- ---- an event is carried
came_ordered : (s : Components) (g f : ℕ) (e : Event) (ms : List Message) → s.wire g f ≡ message.Event e ∷ ms → AreCopies s → IsInSerialOrder g (s.ro f ++ e ∷ events ms)
came_ordered s g f e ms front c = rw (front, events-event) at (c.serials g f)

pub copies_event_came : (s : Components) (g f : ℕ) (e : Event) (ms : List Message) → AreCopies s → s.wire g f ≡ message.Event e ∷ ms → e.sender ≡ g → AreCopies (with_event_accepted s g f e ms)
copies_event_came s g f e ms c front from = record {
  once = λ h m l. omega (arith, c.once h m l, same h m l);
  unused = λ h m l new. omega (arith, c.unused h m l new, same h m l);
  serials = by_number g _
      (by_number f _ (rw (upd2_same, upd_same) here) (λ l ne. let w : (g ≢ g) ⊎ (f ≢ l) = inr ne in rw (upd2_other, upd_other) (c.serials g l)))
      (λ h other. by_number f _ (let w : (g ≢ h) ⊎ (f ≢ f) = inl other in rw (upd2_other, upd_same) (there h other)) (λ l ne. let w : (g ≢ h) ⊎ (f ≢ l) = inl other in rw (upd2_other, upd_other) (c.serials h l)));
  rising = upd2_each s.wire g f ms (λ h l ns. HasRisingSerials h (events ns)) rest_rising.1 (λ h l. c.rising h l);
  earlier = by_number g _
      (by_number f _ (rw (upd2_same, upd_same) (earlier_here (is_kept_in_order (s.row f) e))) (λ l ne. let w : (g ≢ g) ⊎ (f ≢ l) = inr ne in rw (upd2_other, upd_other) (c.earlier g l)))
      (λ h other. by_number f _ (let w : (g ≢ h) ⊎ (f ≢ f) = inl other in rw (upd2_other, upd_same) (earlier_there h (is_kept_in_order (s.row f) e) other))
      (λ l ne. let w : (g ≢ h) ⊎ (f ≢ l) = inl other in rw (upd2_other, upd_other) (c.earlier h l)));
}
  where
    b : Bool
    b = is_kept_in_order (s.row f) e

    counts : (h m : ℕ) (b : Bool) → occurrences h m (cond b (insert_event e (s.tso f)) (s.tso f)) + occurrences h m (cond b (s.ro f) (s.ro f ++ e ∷ [])) ≡ one_if (is_event h m e) + (occurrences h m (s.tso f) + occurrences h m (s.ro f))
    counts h m true = omega (arith, occurs-insert h m e (s.tso f))
    counts h m false = omega (arith, occurs-append h m (s.ro f) (e ∷ []), occurs-one h m e)

    rest : (h m : ℕ) → occurrences h m (events (upd2 s.wire g f ms h f)) + one_if (is_event h m e) ≡ occurrences h m (events (s.wire h f))
    rest h m = by_number g (λ h. occurrences h m (events (upd2 s.wire g f ms h f)) + one_if (is_event h m e) ≡ occurrences h m (events (s.wire h f)))
        (rw (upd2_same, front, occurs-event) (omega arith))
        (λ k ne. let w : (g ≢ k) ⊎ (f ≢ f) = inl ne in rw upd2_other (omega (arith, not_sender k m e (λ (same : k ≡ e.sender). ne (sym (same ∙ from)))))) h

    same : (h m l : ℕ) → places (with_event_accepted s g f e ms) h m l ≡ places s h m l
    same h m = by_number f _
        (rw (upd_same, upd_same) (omega (arith, counts h m (is_kept_in_order (s.row f) e), rest h m)))
        (λ l ne. let w : (g ≢ h) ⊎ (f ≢ l) = inr ne in rw (upd_other, upd_other, upd2_other) refl)

    put_here : (b : Bool) → IsInSerialOrder g (s.ro f ++ e ∷ events ms) → IsInSerialOrder g (cond b (s.ro f) (s.ro f ++ e ∷ []) ++ events ms)
    put_here true h = serials-drop g (s.ro f) e (events ms) h
    put_here false h = rw (append_assoc (s.ro f) (e ∷ []) (events ms)) h

    here : IsInSerialOrder g (cond (is_kept_in_order (s.row f) e) (s.ro f) (s.ro f ++ e ∷ []) ++ events ms)
    here = put_here (is_kept_in_order (s.row f) e) (came_ordered s g f e ms front c)

    rest_rising : HasRisingSerials g (e ∷ events ms)
    rest_rising = rw (front, events-event) at (c.rising g f)

    rest_earlier : AreEarlier g (e ∷ events ms) (s.tso f)
    rest_earlier = rw (front, events-event) at (c.earlier g f)

    -- the new event was the first on its wire
    earlier_here : (b : Bool) → AreEarlier g (events ms) (cond b (insert_event e (s.tso f)) (s.tso f))
    earlier_here true = EachOf-insert _ e (s.tso f) rest_rising.0 (earlier-rest g e (events ms) (s.tso f) rest_earlier)
    earlier_here false = earlier-rest g e (events ms) (s.tso f) rest_earlier

    earlier_there : (h : ℕ) (b : Bool) → g ≢ h → AreEarlier h (events (s.wire h f)) (cond b (insert_event e (s.tso f)) (s.tso f))
    earlier_there h true ne = EachOf-insert _ e (s.tso f) (λ same. absurd (ne (sym from ∙ same))) (c.earlier h f)
    earlier_there h false ne = c.earlier h f

    -- for another sender the new event doesn't count
    other_put : (h : ℕ) (xs ys : List Event) → g ≢ h → IsInSerialOrder h (xs ++ ys) → IsInSerialOrder h (xs ++ e ∷ ys)
    other_put h [] ys ne a = ((λ same _. absurd (ne (sym from ∙ same))), a)
    other_put h (x ∷ xs) ys ne a = ((λ mine plain. skip x xs ys (a.0 mine plain)), other_put h xs ys ne a.1)
      where
        skip : (x : Event) (xs ys : List Event) → EachOf (λ (y : Event). y.sender ≡ h → y.ordered ≡ false → x.serial < y.serial) (xs ++ ys) → EachOf (λ (y : Event). y.sender ≡ h → y.ordered ≡ false → x.serial < y.serial) (xs ++ e ∷ ys)
        skip x [] ys p = ((λ same _. absurd (ne (sym from ∙ same))), p)
        skip x (z ∷ zs) ys p = (p.0, skip x zs ys p.1)

    put_there : (h : ℕ) (b : Bool) → g ≢ h → IsInSerialOrder h (cond b (s.ro f) (s.ro f ++ e ∷ []) ++ events (s.wire h f))
    put_there h true ne = c.serials h f
    put_there h false ne = rw (append_assoc (s.ro f) (e ∷ []) (events (s.wire h f))) (other_put h (s.ro f) (events (s.wire h f)) ne (c.serials h f))

    there : (h : ℕ) → g ≢ h → IsInSerialOrder h (cond (is_kept_in_order (s.row f) e) (s.ro f) (s.ro f ++ e ∷ []) ++ events (s.wire h f))
    there h ne = put_there h (is_kept_in_order (s.row f) e) ne

-- ---- a retraction is carried
pub copies_retraction_came : (s : Components) (g f m : ℕ) (ms : List Message) → AreCopies s → s.wire g f ≡ message.Retraction m ∷ ms → AreCopies (with_retraction_accepted s g f m ms)
copies_retraction_came s g f m ms c front =
    let t = copies_wires s (upd2 s.wire g f ms) (upd2_each s.wire g f ms (λ a b ns. events ns ≡ events (s.wire a b)) (rw (front, events-retraction) refl) (λ _ _. refl)) c in
    copies_local (with_wire s g f ms) f (remove_event g m (s.tso f)) (remove_event g m (s.ro f)) t
    (λ h k. omega (arith, occurs-remove g m h k (s.tso f), occurs-remove g m h k (s.ro f)))
    (λ h. serials-remove h g m (s.ro f) (events (upd2 s.wire g f ms h f)) (t.serials h f))
    (λ h. EachOf-remove _ g m (s.tso f) (t.earlier h f))
