-- The order of keys
use Rattle.std.proofs.Common.{◌≡◌, ◌⊎◌, ℕ, ◌≤◌, ◌<◌, Bool, true, false, arith, List, [], ◌∷◌, Some, ⊎_elim, filter}
use Rattle.std.proofs.lemmas.Bool.{cond_both, cases_Bool}
use Rattle.std.proofs.lemmas.Bool.Decides.{nat_tests}
use Rattle.hla_base.specs.declared.content.Event.{Event}
use Rattle.hla_components.specs.Invariant.{KeyAbove, IsInKeyOrder}
use Rattle.hla_component_rules.specs.Queues.{is_before, insert_event, remove_event, is_event, find_event}

before_not_back : (e x : Event) → is_before e x ≡ true → is_before x e ≡ false
before_not_back e x h = grind (arith, nat_tests)

before_trans : (e x y : Event) → is_before e x ≡ true → is_before y x ≡ false → is_before y e ≡ false
before_trans e x y h k = grind (arith, nat_tests)

KeyAbove-weaker : (e x : Event) (ys : List Event) → is_before e x ≡ true → KeyAbove x ys → KeyAbove e ys
KeyAbove-weaker e x [] h k = tt
KeyAbove-weaker e x (y ∷ ys) h k = (before_trans e x y h k.0, KeyAbove-weaker e x ys h k.1)

KeyAbove-insert : (x e : Event) (ys : List Event) → is_before e x ≡ false → KeyAbove x ys → KeyAbove x (insert_event e ys)
unfolding insert_event
KeyAbove-insert x e [] h k = (h, tt)
KeyAbove-insert x e (y ∷ ys) h k = cond_both (is_before e y) (e ∷ y ∷ ys) (y ∷ insert_event e ys) (KeyAbove x) (λ _. (h, k)) (λ _. (k.0, KeyAbove-insert x e ys h k.1))

pub IsInKeyOrder-insert : (e : Event) (xs : List Event) → IsInKeyOrder xs → IsInKeyOrder (insert_event e xs)
unfolding insert_event
IsInKeyOrder-insert e [] h = (tt, tt)
IsInKeyOrder-insert e (x ∷ xs) h = cond_both (is_before e x) (e ∷ x ∷ xs) (x ∷ insert_event e xs) IsInKeyOrder
    (λ b. ((before_not_back e x b, KeyAbove-weaker e x xs b h.0), h))
    (λ b. (KeyAbove-insert x e xs b h.0, IsInKeyOrder-insert e xs h.1))

-- at equal stamps what is found behind the first has a key that is no smaller
key_from : (g m : ℕ) (x y : Event) → is_before y x ≡ false → y.stamp ≡ x.stamp → is_event g m y ≡ true → (x.sender < g) ⊎ ((x.sender ≡ g) × (x.serial ≤ m))
key_from g m x y h s is = grind (arith, nat_tests)

pub find-key_order : (g m : ℕ) (x e : Event) (xs : List Event) → KeyAbove x xs → find_event g m xs ≡ Some e → e.stamp ≡ x.stamp → (x.sender < g) ⊎ ((x.sender ≡ g) × (x.serial ≤ m))
unfolding find_event
find-key_order g m x e [] h f s = absurd (cc)
find-key_order g m x e (y ∷ ys) h f s = ⊎_elim
    (λ (b : is_event g m y ≡ true). let same : y ≡ e = grind arith in key_from g m x y h.0 (rw same s) b)
    (λ (b : is_event g m y ≡ false). find-key_order g m x e ys h.1 (grind arith) s)
    (cases_Bool (is_event g m y))

KeyAbove-filter : (x : Event) (p : Event → Bool) (ys : List Event) → KeyAbove x ys → KeyAbove x (filter p ys)
KeyAbove-filter x p [] k = tt
KeyAbove-filter x p (y ∷ ys) k = cond_both (p y) (y ∷ filter p ys) (filter p ys) (KeyAbove x) (λ _. (k.0, KeyAbove-filter x p ys k.1)) (λ _. KeyAbove-filter x p ys k.1)

pub IsInKeyOrder-filter : (p : Event → Bool) (xs : List Event) → IsInKeyOrder xs → IsInKeyOrder (filter p xs)
IsInKeyOrder-filter p [] h = tt
IsInKeyOrder-filter p (x ∷ xs) h = cond_both (p x) (x ∷ filter p xs) (filter p xs) IsInKeyOrder (λ _. (KeyAbove-filter x p xs h.0, IsInKeyOrder-filter p xs h.1)) (λ _. IsInKeyOrder-filter p xs h.1)

KeyAbove-remove : (x : Event) (g m : ℕ) (ys : List Event) → KeyAbove x ys → KeyAbove x (remove_event g m ys)
unfolding remove_event
KeyAbove-remove x g m [] k = tt
KeyAbove-remove x g m (y ∷ ys) k = cond_both (is_event g m y) ys (y ∷ remove_event g m ys) (KeyAbove x) (λ _. k.1) (λ _. (k.0, KeyAbove-remove x g m ys k.1))

pub IsInKeyOrder-remove : (g m : ℕ) (xs : List Event) → IsInKeyOrder xs → IsInKeyOrder (remove_event g m xs)
unfolding remove_event
IsInKeyOrder-remove g m [] h = tt
IsInKeyOrder-remove g m (x ∷ xs) h = cond_both (is_event g m x) xs (x ∷ remove_event g m xs) IsInKeyOrder (λ _. h.1) (λ _. (KeyAbove-remove x g m xs h.0, IsInKeyOrder-remove g m xs h.1))
