-- Lists of events in order: their parts, an insertion into one of them, and the stamps
use Rattle.std.proofs.Common.{◌≡◌, ◌≤◌, Bool, true, false, cond, List, [], ◌∷◌, ◌++◌, refl, ap, arith}
use Rattle.std.proofs.lemmas.Bool.Decides.{nat_tests}
use Rattle.std.specs.List.{AllByRecursion}
use Rattle.hla_base.specs.declared.content.Event.{Event}
use Rattle.hla_order_queues.specs.declared.key.EventKey.{EventKey}
use Rattle.hla_component_rules.specs.Queues.{is_before, insert_event}
use Rattle.hla_order_queues.specs.Moving.{IsRising}
use Rattle.hla_order_queues.specs.Kept.{key_of, is_key_before, first_after, IsInOrder}

-- the order of keys
pub before_then : (k : EventKey) (x y : Event) → is_key_before k x ≡ true → is_before y x ≡ false → is_key_before k y ≡ true
before_then k x y p q = grind (arith, nat_tests)

pub not_both_ways : (x y : Event) → is_before x y ≡ true → is_before y x ≡ false
not_both_ways x y p = grind (arith, nat_tests)

stamps_rise : (x y : Event) → is_before y x ≡ false → x.stamp ≤ y.stamp
stamps_rise x y p = grind (arith, nat_tests)

-- what the events of the list are, one by one
abbrev pub AllAfter : EventKey → List Event → Type 0
AllAfter k = AllByRecursion (λ y. is_key_before k y ≡ true)

abbrev pub NoneAfter : EventKey → List Event → Type 0
NoneAfter k = AllByRecursion (λ y. is_key_before k y ≡ false)

pub All-implies : {P Q : Event → Type 0} → ((x : Event) → P x → Q x) → (xs : List Event) → AllByRecursion P xs → AllByRecursion Q xs
All-implies {P} {Q} f [] h = tt
All-implies {P} {Q} f (x ∷ xs) h = (f x h.0, All-implies f xs h.1)

pub All-append : (P : Event → Type 0) (xs ys : List Event) → AllByRecursion P xs → AllByRecursion P ys → AllByRecursion P (xs ++ ys)
All-append P [] ys h g = g
All-append P (x ∷ xs) ys h g = (h.0, All-append P xs ys h.1 g)

pub All-append_parts : (P : Event → Type 0) (xs ys : List Event) → AllByRecursion P (xs ++ ys) → AllByRecursion P xs × AllByRecursion P ys
All-append_parts P [] ys h = (tt, h)
All-append_parts P (x ∷ xs) ys h = let rest = All-append_parts P xs ys h.1 in ((h.0, rest.0), rest.1)

-- a list in order and its parts
pub record AreParts (xs ys : List Event) : Type 0 where
  pub front : IsInOrder xs
  pub back : IsInOrder ys
  pub apart : AllByRecursion (λ x. AllByRecursion (λ y. is_before y x ≡ false) ys) xs

pub parts_of : (xs ys : List Event) → IsInOrder (xs ++ ys) → AreParts xs ys
unfolding IsInOrder
parts_of [] ys h = record { front = tt; back = h; apart = tt }
parts_of (x ∷ xs) ys h =
    let rest = parts_of xs ys h.1 in
    let here = All-append_parts (λ y. is_before y x ≡ false) xs ys h.0 in
    record { front = (here.0, rest.front); back = rest.back; apart = (here.1, rest.apart) }

-- where the first event is after a key, all are
pub all_after : (k : EventKey) (xs : List Event) → IsInOrder xs → first_after k xs ≡ true → AllAfter k xs
unfolding IsInOrder
all_after k [] h p = tt
all_after k (x ∷ xs) h p = (p, All-implies (λ y q. before_then k x y p q) xs h.0)

-- an event goes to the first part where the second is after it, and to the second where none of the first is
front_if : (b : Bool) (e x : Event) (xs ys later : List Event) → later ≡ insert_event e xs ++ ys → cond b (e ∷ x ∷ (xs ++ ys)) (x ∷ later) ≡ cond b (e ∷ x ∷ xs) (x ∷ insert_event e xs) ++ ys
front_if true e x xs ys later h = refl
front_if false e x xs ys later h = ap (λ zs. x ∷ zs) h

pub insert_event-front : (e : Event) (xs ys : List Event) → first_after (key_of e) ys ≡ true → insert_event e (xs ++ ys) ≡ insert_event e xs ++ ys
unfolding insert_event
insert_event-front e [] [] p = refl
insert_event-front e [] (y ∷ ys) p = rw p
insert_event-front e (x ∷ xs) ys p = front_if (is_before e x) e x xs ys (insert_event e (xs ++ ys)) (insert_event-front e xs ys p)

pub insert_event-back : (e : Event) (xs ys : List Event) → NoneAfter (key_of e) xs → insert_event e (xs ++ ys) ≡ xs ++ insert_event e ys
unfolding insert_event
insert_event-back e [] ys h = refl
insert_event-back e (x ∷ xs) ys h = rw h.0 (ap (λ zs. x ∷ zs) (insert_event-back e xs ys h.1))

-- an insertion keeps the order
All-inserted_if : (P : Event → Type 0) (b : Bool) (e x : Event) (xs later : List Event) → P e → AllByRecursion P (x ∷ xs) → AllByRecursion P later → AllByRecursion P (cond b (e ∷ x ∷ xs) (x ∷ later))
All-inserted_if P true e x xs later p h g = (p, h)
All-inserted_if P false e x xs later p h g = (h.0, g)

pub All-insert_event : (P : Event → Type 0) (e : Event) (xs : List Event) → P e → AllByRecursion P xs → AllByRecursion P (insert_event e xs)
unfolding insert_event
All-insert_event P e [] p h = (p, tt)
All-insert_event P e (x ∷ xs) p h = All-inserted_if P (is_before e x) e x xs (insert_event e xs) p h (All-insert_event P e xs p h.1)

insert_ordered : (b : Bool) (e x : Event) (xs : List Event) → is_before e x ≡ b → IsInOrder (x ∷ xs) → IsInOrder (insert_event e xs) → IsInOrder (cond b (e ∷ x ∷ xs) (x ∷ insert_event e xs))
unfolding IsInOrder
insert_ordered true e x xs is h later = ((not_both_ways e x is, All-implies (λ y q. not_both_ways e y (before_then (key_of e) x y is q)) xs h.0), h)
insert_ordered false e x xs is h later = (All-insert_event (λ y. is_before y x ≡ false) e xs is h.0, later)

pub IsInOrder-insert_event : (e : Event) (xs : List Event) → IsInOrder xs → IsInOrder (insert_event e xs)
unfolding IsInOrder insert_event
IsInOrder-insert_event e [] h = (tt, tt)
IsInOrder-insert_event e (x ∷ xs) h = insert_ordered (is_before e x) e x xs refl h (IsInOrder-insert_event e xs h.1)

-- the stamps rise
pub IsRising-ordered : (xs : List Event) → IsInOrder xs → IsRising xs
unfolding IsInOrder IsRising
IsRising-ordered [] h = tt
IsRising-ordered (x ∷ xs) h = (All-implies (λ y q. stamps_rise x y q) xs h.0, IsRising-ordered xs h.1)
