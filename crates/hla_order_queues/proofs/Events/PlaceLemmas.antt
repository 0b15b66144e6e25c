-- The place at which a search by a test ends, and an insertion there into events that are in order
use Rattle.std.proofs.Common.{◌≡◌, ℕ, zero, suc, ◌+◌, ◌-◌, ◌≤◌, ◌<◌, Bool, true, false, cond, not, get_or, List, [], ◌∷◌, ◌++◌, length, refl, sym, ap, subst, ◌∙◌, arith}
use Rattle.std.specs.List.{AllByRecursion, prefix_len, insert}
use Rattle.hla_base.specs.declared.content.Event.{Event}
use Rattle.hla_order_queues.specs.declared.key.EventKey.{EventKey}
use Rattle.hla_component_rules.specs.Queues.{is_before, insert_event}
use Rattle.hla_order_queues.specs.Kept.{key_of, is_key_before, IsInOrder}
use Rattle.hla_order_queues.proofs.Events.OrderLemmas.{All-implies, NoneAfter, before_then}

-- where one element does not pass, none behind it does
unfoldable pub Falls : {X : Type 0} → (X → Bool) → List X → Type 0
Falls p [] = Unit {0}
Falls p (x ∷ xs) = (p x ≡ false → AllByRecursion (λ y. p y ≡ false) xs) × Falls p xs

at_later : {X : Type 0} (P : X → Type 0) (xs : List X) (j : ℕ) (d : X) → AllByRecursion P xs → j < length xs → P (get_or xs j d)
at_later P [] j d h lt = absurd (omega arith)
at_later P (x ∷ xs) zero d h lt = h.0
at_later P (x ∷ xs) (suc j) d h lt = at_later P xs j d h.1 (omega arith)

passed : (b : Bool) → (b ≡ false → ⊥) → b ≡ true
passed true h = refl
passed false h = absurd (h refl)

pub partitioned : {X : Type 0} (p : X → Bool) (xs : List X) → Falls p xs → (i j : ℕ) (d : X) → i ≤ j → j < length xs → p (get_or xs j d) ≡ true → p (get_or xs i d) ≡ true
unfolding Falls
partitioned p [] h i j d le lt is = absurd (omega arith)
partitioned p (x ∷ xs) h zero zero d le lt is = is
partitioned p (x ∷ xs) h zero (suc j) d le lt is = passed (p x) (λ no. let e : p (get_or xs j d) ≡ false = at_later (λ y. p y ≡ false) xs j d (h.0 no) (omega arith) in cc)
partitioned p (x ∷ xs) h (suc i) zero d le lt is = absurd (omega arith)
partitioned p (x ∷ xs) h (suc i) (suc j) d le lt is = partitioned p xs h.1 i j d (omega arith) (omega arith) is

-- a search ends behind the elements that pass
pub point_is : {X : Type 0} (p : X → Bool) (xs : List X) (i : ℕ) → i ≤ length xs → ((k : ℕ) (d : X) → 0 ≤ k → k < i → p (get_or xs k d) ≡ true) → ((k : ℕ) (d : X) → i ≤ k → k < length xs → p (get_or xs k d) ≡ false) → i ≡ prefix_len p xs
point_is p [] i le passing failing = omega arith
point_is p (x ∷ xs) zero le passing failing = let e : p x ≡ false = failing 0 x (omega arith) (omega arith) in rw e refl
point_is p (x ∷ xs) (suc i) le passing failing =
    let e : p x ≡ true = passing 0 x (omega arith) (omega arith) in
    let rest : i ≡ prefix_len p xs = point_is p xs i (omega arith) (λ k d a b. passing (suc k) d (omega arith) (omega arith)) (λ k d a b. failing (suc k) d (omega arith) (omega arith)) in
    rw e (omega arith)

-- where the events are in order, those that do not come after a key are first
not_false : (b : Bool) → not b ≡ false → b ≡ true
not_false true h = refl
not_false false h = absurd (cc)

pub falls_ordered : (k : EventKey) (xs : List Event) → IsInOrder xs → Falls (λ x. not (is_key_before k x)) xs
unfolding IsInOrder Falls
falls_ordered k [] h = tt
falls_ordered k (x ∷ xs) h = (λ no. All-implies (λ y q. ap not (before_then k x y (not_false (is_key_before k x) no) q)) xs h.0, falls_ordered k xs h.1)

-- an event behind these is at its place
inserted_if : (b : Bool) (e x : Event) (xs later : List Event) (n : ℕ) → insert xs n e ≡ later → insert (x ∷ xs) (cond (not b) (1 + n) 0) e ≡ cond b (e ∷ x ∷ xs) (x ∷ later)
inserted_if true e x xs later n h = refl
inserted_if false e x xs later n h = let s : 1 + n ≡ suc n = omega arith in rw s (ap (λ zs. x ∷ zs) h)

pub inserted_there : (e : Event) (xs : List Event) → insert xs (prefix_len (λ x. not (is_key_before (key_of e) x)) xs) e ≡ insert_event e xs
unfolding insert_event
inserted_there e [] = refl
inserted_there e (x ∷ xs) = inserted_if (is_before e x) e x xs (insert_event e xs) (prefix_len (λ y. not (is_key_before (key_of e) y)) xs) (inserted_there e xs)

-- ---- an event behind all
pub insert_event-behind : (e : Event) (xs : List Event) → NoneAfter (key_of e) xs → insert_event e xs ≡ xs ++ e ∷ []
unfolding insert_event
insert_event-behind e [] h = refl
insert_event-behind e (x ∷ xs) h = rw h.0 (ap (λ zs. x ∷ zs) (insert_event-behind e xs h.1))

not_first : (k : EventKey) (x y : Event) (b : Bool) → is_key_before k x ≡ b → is_before y x ≡ false → is_key_before k y ≡ false → is_key_before k x ≡ false
not_first k x y true is h late = let e : is_key_before k y ≡ true = before_then k x y is h in cc
not_first k x y false is h late = is

-- where the last event does not come after a key, none does
none_after_last : (k : EventKey) (xs : List Event) (l : Event) → IsInOrder xs → 0 < length xs → l ≡ get_or xs (length xs - 1) l → is_key_before k l ≡ false → NoneAfter k xs
unfolding IsInOrder
none_after_last k [] l h some is late = absurd (omega arith)
none_after_last k (x ∷ []) l h some is late = (ap (is_key_before k) (sym is) ∙ late, tt)
none_after_last k (x ∷ y ∷ ys) l h some is late =
    let j : length (x ∷ y ∷ ys) - 1 ≡ suc (length (y ∷ ys) - 1) = omega arith in
    let there : l ≡ get_or (x ∷ y ∷ ys) (suc (length (y ∷ ys) - 1)) l = is ∙ ap (λ i. get_or (x ∷ y ∷ ys) i l) j in
    let rest = none_after_last k (y ∷ ys) l h.1 (omega arith) there late in
    (not_first k x y (is_key_before k x) refl h.0.0 rest.0, rest)

false_if : (b : Bool) → not b ≡ true → b ≡ false
false_if true h = absurd (cc)
false_if false h = refl

pub behind_says : (k : EventKey) (len : ℕ) (items now : List Event) (l : Event) (b : Bool) → IsInOrder now → items ≡ now → 0 < length items → len ≡ length items → l ≡ get_or items (len - 1) l → b ≡ is_key_before k l → not b ≡ true → NoneAfter k now
behind_says k len items now l b order view some counted lookup told late =
    let ordered = subst IsInOrder (sym view) order in
    let there : l ≡ get_or items (length items - 1) l = lookup ∙ ap (λ (n : ℕ). get_or items (n - 1) l) counted in
    let later : is_key_before k l ≡ false = sym told ∙ false_if b late in
    subst (NoneAfter k) view (none_after_last k items l ordered some there later)
