-- How the first block, the later ones and the count of a queue follow the list of its events
use Rattle.std.proofs.Common.{◌≡◌, ℕ, suc, ◌+◌, ◌-◌, ◌<◌, ◌≤◌, ◌^◌, min, true, false, List, [], ◌∷◌, ◌++◌, length, take, drop, Some, Result, Ok, Err, refl, sym, ap, subst, ◌∙◌, append_assoc, arith}
use Rattle.std.specs.List.{slice_get}
use Rattle.std.specs.Result.{OnOk, OnErr}
use Rattle.hla_base.specs.declared.content.Event.{Event}
use Rattle.hla_base.specs.declared.number.EventHandle.{EventHandle}
use Rattle.hla_component_rules.specs.Queues.{insert_event, find_event, remove_event, handles_of}
use Rattle.hla_order_queues.specs.Kept.{key_of, first_after, separator_after, IsInOrder, AreInOrder, AreAfter, AreBelowBlocks, joined, events_of}
use Rattle.hla_order_queues.proofs.Events.EventLemmas.{length-insert_event, length-remove_event}
use Rattle.hla_order_queues.specs.declared.key.EventKey.{EventKey}
use Rattle.hla_order_queues.proofs.UnderSeparators.JoinedLemmas.{none_first}
use Rattle.hla_order_queues.proofs.Events.OrderLemmas.{NoneAfter, All-insert_event, IsInOrder-insert_event, insert_event-front, insert_event-back}
use Rattle.hla_order_queues.proofs.Events.RemovalLemmas.{IsInOrder-remove_event, IsInOrder-drop_first}
use Rattle.hla_order_queues.proofs.UnderSeparators.StepLemmas.{handles_of-append, take-parts}

pub kept_nothing : (f : List Event) (es : List (EventKey × List Event)) → f ≡ [] → es ≡ [] → (AreInOrder f (events_of es) 0 × AreBelowBlocks f es) × (f ++ events_of es ≡ [])
unfolding IsInOrder joined
kept_nothing f es e g = rw (e, g) ((record { ordered = tt; filled = λ h. refl; counted = refl; small = omega arith }, tt), refl)

pub kept_inserted : (x : Event) (f l first later : List Event) (n m : ℕ) → AreInOrder f l n → first ++ later ≡ insert_event x (f ++ l) → (first ≡ [] → later ≡ []) → m ≡ n + 1 → m < 2 ^ 64 → AreInOrder first later m
kept_inserted x f l first later n m h e filled more small = record {
  ordered = subst IsInOrder (sym e) (IsInOrder-insert_event x (f ++ l) h.ordered);
  filled = filled;
  counted = let longer : length (first ++ later) ≡ suc (length (f ++ l)) = ap length e ∙ length-insert_event x (f ++ l) in omega (arith, h.counted);
  small = small;
}

pub some_kept : (g m : ℕ) (x : Event) (f l : List Event) (n : ℕ) → AreInOrder f l n → Some x ≡ find_event g m (f ++ l) → 1 ≤ n
some_kept g m x f l n h found =
    let shorter : suc (length (remove_event g m (f ++ l))) ≡ length (f ++ l) = length-remove_event g m (f ++ l) x (sym found) in
    omega (arith, h.counted)

pub kept_removed : (g m : ℕ) (x : Event) (f l first later : List Event) (n : ℕ) → AreInOrder f l n → Some x ≡ find_event g m (f ++ l) → first ++ later ≡ remove_event g m (f ++ l) → (first ≡ [] → later ≡ []) → AreInOrder first later (n - 1)
kept_removed g m x f l first later n h found e filled =
    let shorter : suc (length (remove_event g m (f ++ l))) ≡ length (f ++ l) = length-remove_event g m (f ++ l) x (sym found) in
    record {
      ordered = subst IsInOrder (sym e) (IsInOrder-remove_event g m (f ++ l) h.ordered);
      filled = filled;
      counted = let same : length (first ++ later) ≡ length (remove_event g m (f ++ l)) = ap length e in omega (arith, h.counted);
      small = omega (arith, h.small);
    }

-- the first event goes
pub first_taken : (x : Event) (f rest l : List Event) → Some x ≡ slice_get f 0 → rest ≡ drop 1 f → rest ++ l ≡ drop 1 (f ++ l)
first_taken x [] rest l e d = absurd (cc)
first_taken x (y ∷ ys) rest l e d = ap (λ zs. zs ++ l) d

length-first_taken : (x : Event) (xs : List Event) → Some x ≡ slice_get xs 0 → suc (length (drop 1 xs)) ≡ length xs
length-first_taken x [] e = absurd (cc)
length-first_taken x (y ∷ ys) e = refl

first_of : (x : Event) (f l : List Event) → Some x ≡ slice_get f 0 → Some x ≡ slice_get (f ++ l) 0
first_of x [] l e = absurd (cc)
first_of x (y ∷ ys) l e = e

pub kept_taken : (x : Event) (f rest l first later : List Event) (n : ℕ) → AreInOrder f l n → Some x ≡ slice_get f 0 → rest ≡ drop 1 f → first ++ later ≡ rest ++ l → (first ≡ [] → later ≡ []) → AreInOrder first later (n - 1)
kept_taken x f rest l first later n h e d same filled =
    let whole = same ∙ first_taken x f rest l e d in
    let shorter : suc (length (drop 1 (f ++ l))) ≡ length (f ++ l) = length-first_taken x (f ++ l) (first_of x f l e) in
    record {
      ordered = subst IsInOrder (sym whole) (IsInOrder-drop_first (f ++ l) h.ordered);
      filled = filled;
      counted = let left : length (first ++ later) ≡ length (drop 1 (f ++ l)) = ap length whole in omega (arith, h.counted);
      small = omega (arith, h.small);
    }

-- the first event of all is that of the first block
pub first_event : (f l : List Event) (n : ℕ) → AreInOrder f l n → slice_get f 0 ≡ slice_get (f ++ l) 0
first_event [] l n h = ap (λ xs. slice_get xs 0) (sym (h.filled refl))
first_event (x ∷ xs) l n h = refl

-- an event goes to the first block or behind it
pub put_front : {E : Type 0} (x : Event) (f first l now : List Event) (r : Result (Unit {0}) E) → f ++ l ≡ now → first_after (key_of x) l ≡ true → OnOk r (first ≡ insert_event x f) → OnOk r (first ++ l ≡ insert_event x now)
put_front x f first l now (Ok u) whole later put = ap (λ zs. zs ++ l) put ∙ sym (insert_event-front x f l later) ∙ ap (insert_event x) whole
put_front x f first l now (Err e) whole later put = tt

pub put_in_later : {E : Type 0} (x : Event) (f l later now : List Event) (r : Result (Unit {0}) E) → f ++ l ≡ now → NoneAfter (key_of x) f → OnOk r (later ≡ insert_event x l) → OnOk r (f ++ later ≡ insert_event x now)
put_in_later x f l later now (Ok u) whole none put = ap (λ zs. f ++ zs) put ∙ sym (insert_event-back x f l none) ∙ ap (insert_event x) whole
put_in_later x f l later now (Err e) whole none put = tt

pub put_below : {E : Type 0} (x : Event) (f first : List Event) (es : List (EventKey × List Event)) (r : Result (Unit {0}) E) → OnOk r (first ≡ insert_event x f) → OnErr r (first ≡ f) → AreAfter (key_of x) es → AreBelowBlocks f es → AreBelowBlocks first es
put_below x f first es (Ok u) put same after below = subst (λ xs. AreBelowBlocks xs es) (sym put) (All-insert_event (λ y. AreAfter (key_of y) es) x f after below)
put_below x f first es (Err e) put same after below = subst (λ xs. AreBelowBlocks xs es) (sym same) below

pub none_in_front : (k : EventKey) (xs : List Event) (es : List (EventKey × List Event)) → separator_after k es ≡ false → AreBelowBlocks xs es → NoneAfter k xs
none_in_front k xs [] e below = absurd (cc)
none_in_front k xs (x ∷ es) e below = none_first k x.0 x.1 xs es e below

pub put_filled : {E : Type 0} (x : Event) (f first l : List Event) (r : Result (Unit {0}) E) → OnOk r (first ≡ insert_event x f) → OnErr r (first ≡ f) → (f ≡ [] → l ≡ []) → first ≡ [] → l ≡ []
put_filled x f first l (Ok u) put same filled none =
    let size : suc (length f) ≡ 0 = sym (length-insert_event x f) ∙ ap length (sym put ∙ none) in absurd (omega arith)
put_filled x f first l (Err e) put same filled none = filled (sym same ∙ none)

-- the handles of the first events
pub put_both : (f l now : List Event) (h h1 h2 : List EventHandle) (count here : ℕ) → f ++ l ≡ now → here ≡ min count (length f) → h1 ≡ h ++ handles_of (take here f) → h2 ≡ h1 ++ handles_of (take (count - here) l) → h2 ≡ h ++ handles_of (take count now)
put_both f l now h h1 h2 count here whole size put rest =
    rest
    ∙ ap (λ gs. gs ++ handles_of (take (count - here) l)) put
    ∙ append_assoc h (handles_of (take here f)) (handles_of (take (count - here) l))
    ∙ ap (λ gs. h ++ gs) (sym (handles_of-append (take here f) (take (count - here) l)) ∙ ap handles_of (rw size (sym (take-parts count f l)) ∙ ap (take count) whole))
