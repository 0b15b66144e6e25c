-- Finding and removing an event in parts of a list
use Rattle.std.proofs.Common.{◌≡◌, ℕ, Bool, true, false, cond, List, [], ◌∷◌, ◌++◌, drop, Option, Some, None, refl, ap}
use Rattle.std.specs.List.{AllByRecursion}
use Rattle.hla_base.specs.declared.content.Event.{Event}
use Rattle.hla_component_rules.specs.Queues.{is_before, is_event, find_event, remove_event}
use Rattle.hla_order_queues.specs.Kept.{IsInOrder}
use Rattle.hla_order_queues.proofs.Events.EventLemmas.{missed_head, missed_later}

-- in parts of a list
pub find_event_behind : (g m : ℕ) (xs ys : List Event) → find_event g m xs ≡ None → find_event g m (xs ++ ys) ≡ find_event g m ys
unfolding find_event
find_event_behind g m [] ys h = refl
find_event_behind g m (x ∷ xs) ys h = rw (missed_head g m x xs h) (find_event_behind g m xs ys (missed_later g m x xs h))

pub remove_event_behind : (g m : ℕ) (xs ys : List Event) → find_event g m xs ≡ None → remove_event g m (xs ++ ys) ≡ xs ++ remove_event g m ys
unfolding remove_event
remove_event_behind g m [] ys h = refl
remove_event_behind g m (x ∷ xs) ys h = rw (missed_head g m x xs h) (ap (λ zs. x ∷ zs) (remove_event_behind g m xs ys (missed_later g m x xs h)))

found_if : (b : Bool) (x y : Event) (o later : Option Event) → cond b (Some y) o ≡ Some x → (o ≡ Some x → later ≡ Some x) → cond b (Some y) later ≡ Some x
found_if true x y o later e f = e
found_if false x y o later e f = f e

pub find_event_before : (g m : ℕ) (xs ys : List Event) (x : Event) → find_event g m xs ≡ Some x → find_event g m (xs ++ ys) ≡ Some x
unfolding find_event
find_event_before g m [] ys x h = absurd (cc)
find_event_before g m (y ∷ xs) ys x h = found_if (is_event g m y) x y (find_event g m xs) (find_event g m (xs ++ ys)) h (find_event_before g m xs ys x)

removed_if : (b : Bool) (x y : Event) (o : Option Event) (xs ys zs later : List Event) → cond b (Some y) o ≡ Some x → (o ≡ Some x → later ≡ zs ++ ys) → cond b (xs ++ ys) (y ∷ later) ≡ cond b xs (y ∷ zs) ++ ys
removed_if true x y o xs ys zs later e f = refl
removed_if false x y o xs ys zs later e f = ap (λ ws. y ∷ ws) (f e)

pub remove_event_before : (g m : ℕ) (xs ys : List Event) (x : Event) → find_event g m xs ≡ Some x → remove_event g m (xs ++ ys) ≡ remove_event g m xs ++ ys
unfolding find_event remove_event
remove_event_before g m [] ys x h = absurd (cc)
remove_event_before g m (y ∷ xs) ys x h = removed_if (is_event g m y) x y (find_event g m xs) xs ys (remove_event g m xs) (remove_event g m (xs ++ ys)) h (remove_event_before g m xs ys x)

-- the order stays
All-removed_if : (P : Event → Type 0) (b : Bool) (x : Event) (xs later : List Event) → AllByRecursion P (x ∷ xs) → AllByRecursion P later → AllByRecursion P (cond b xs (x ∷ later))
All-removed_if P true x xs later h g = h.1
All-removed_if P false x xs later h g = (h.0, g)

pub All-remove_event : (P : Event → Type 0) (g m : ℕ) (xs : List Event) → AllByRecursion P xs → AllByRecursion P (remove_event g m xs)
unfolding remove_event
All-remove_event P g m [] h = tt
All-remove_event P g m (x ∷ xs) h = All-removed_if P (is_event g m x) x xs (remove_event g m xs) h (All-remove_event P g m xs h.1)

ordered_if : (b : Bool) (x : Event) (xs later : List Event) → IsInOrder (x ∷ xs) → AllByRecursion (λ y. is_before y x ≡ false) later → IsInOrder later → IsInOrder (cond b xs (x ∷ later))
unfolding IsInOrder
ordered_if true x xs later h g rest = h.1
ordered_if false x xs later h g rest = (g, rest)

ordered_head : (x : Event) (xs : List Event) → IsInOrder (x ∷ xs) → AllByRecursion (λ y. is_before y x ≡ false) xs × IsInOrder xs
unfolding IsInOrder
ordered_head x xs h = h

pub IsInOrder-remove_event : (g m : ℕ) (xs : List Event) → IsInOrder xs → IsInOrder (remove_event g m xs)
unfolding remove_event
IsInOrder-remove_event g m [] h = h
IsInOrder-remove_event g m (x ∷ xs) h =
    let parts = ordered_head x xs h in
    ordered_if (is_event g m x) x xs (remove_event g m xs) h (All-remove_event (λ y. is_before y x ≡ false) g m xs parts.0) (IsInOrder-remove_event g m xs parts.1)

pub IsInOrder-drop_first : (xs : List Event) → IsInOrder xs → IsInOrder (drop 1 xs)
IsInOrder-drop_first [] h = h
IsInOrder-drop_first (x ∷ xs) h = (ordered_head x xs h).1
