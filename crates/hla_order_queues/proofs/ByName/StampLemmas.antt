-- The stamps by name: what is at each name after an insertion and a removal
use Rattle.std.proofs.Common.{◌≡◌, ℕ, Bool, true, false, cond, eqb, ◌&&◌, List, [], ◌∷◌, drop, Option, Some, None, refl, sym, ap, subst, ◌∙◌, arith}
use Rattle.std.proofs.lemmas.Bool.Decides.{nat_tests}
use Rattle.std.specs.Bool.{MatchBool}
use Rattle.std.specs.List.{AllByRecursion, slice_get}
use Rattle.std.specs.Option.{IsSome, is_some, option_map}
use Rattle.hla_base.specs.declared.content.Event.{Event}
use Rattle.hla_order_queues.specs.declared.key.EventKey.{EventKey}
use Rattle.hla_order_queues.specs.declared.key.EventName.{EventName}
use Rattle.hla_component_rules.specs.Queues.{is_before, insert_event, is_event, find_event, remove_event}
use Rattle.hla_order_queues.specs.Kept.{key_of, is_less, name_of_key, IsInOrder, IsUnique, name_eq, stamp_at, stamp_of, AreNamed}
use Rattle.hla_order_queues.specs.Names.{key_with}
use Rattle.hla_order_queues.proofs.Events.EventLemmas.{names_equal, find_event_name, IsUnique-insert_event, IsUnique-remove_event, find_event-insert_event, find_event-remove_event_same, find_event-remove_event_other, remove_event_missed}

-- the tests
turned_test : (a b : ℕ) → eqb a b ≡ eqb b a
turned_test a b = grind (arith, nat_tests)

name_eq-turned : (k n : EventName) → name_eq k n ≡ eqb n.sender k.sender && eqb n.serial k.serial
name_eq-turned k n = ap (λ b. b && eqb k.serial n.serial) (turned_test k.sender n.sender) ∙ ap (λ b. eqb n.sender k.sender && b) (turned_test k.serial n.serial)

stamp_if : (b : Bool) (x : Event) (o : Option Event) → option_map (λ y. y.stamp) (cond b (Some x) o) ≡ cond b (Some x.stamp) (option_map (λ y. y.stamp) o)
stamp_if true x o = refl
stamp_if false x o = refl

-- what is at each name after an insertion and a removal
abbrev pub SetsStamp : List (EventName × ℕ) → List (EventName × ℕ) → EventName → Option ℕ → Type 0
SetsStamp old new k w = (n : EventName) → stamp_at new n ≡ cond (name_eq k n) w (stamp_at old n)

inserted : (old new : List (EventName × ℕ)) (x : Event) (xs : List Event) → SetsStamp old new (name_of_key (key_of x)) (Some x.stamp) → find_event x.sender x.serial xs ≡ None → AreNamed old xs → AreNamed new (insert_event x xs)
inserted old new x xs sets fresh h = record {
  unique = IsUnique-insert_event x xs fresh h.unique;
  named = λ n. sets n ∙ rw (name_eq-turned (name_of_key (key_of x)) n, h.named n, find_event-insert_event n.sender n.serial x xs fresh) (sym (stamp_if (is_event n.sender n.serial x) x (find_event n.sender n.serial xs)));
}

pub named_inserted : (old new : List (EventName × ℕ)) (x : Event) (k : EventKey) (xs ys now : List Event) → AreNamed old xs → xs ≡ now → find_event x.sender x.serial now ≡ None → k ≡ key_of x → SetsStamp old new (name_of_key k) (Some k.stamp) → ys ≡ insert_event x xs → AreNamed new ys
named_inserted old new x k xs ys now h view missed key sets e =
    let fresh : find_event x.sender x.serial xs ≡ None = ap (find_event x.sender x.serial) view ∙ missed in
    let sets_it = subst (λ (j : EventKey). SetsStamp old new (name_of_key j) (Some j.stamp)) key sets in
    subst (AreNamed new) (sym e) (inserted old new x xs sets_it fresh h)

numbers_equal : (a b g m : ℕ) → eqb a g && eqb b m ≡ true → (a ≡ g) × (b ≡ m)
numbers_equal a b g m h = (grind (arith, nat_tests), grind (arith, nat_tests))

turned_name : (a b g m : ℕ) → eqb a g && eqb b m ≡ false → eqb g a && eqb m b ≡ false
turned_name a b g m h = grind (arith, nat_tests)

without_name : (b : Bool) (g m : ℕ) (n : EventName) (xs : List Event) → eqb n.sender g && eqb n.serial m ≡ b → IsUnique xs → cond b None (stamp_of n xs) ≡ stamp_of n (remove_event g m xs)
without_name true g m n xs is unique = let e = numbers_equal n.sender n.serial g m is in rw (e.0, e.1) (ap (option_map (λ y. y.stamp)) (sym (find_event-remove_event_same g m xs unique)))
without_name false g m n xs is unique = rw (find_event-remove_event_other n.sender n.serial g m xs (turned_name n.sender n.serial g m is))

pub named_removed : (old new : List (EventName × ℕ)) (n : EventName) (xs ys : List Event) → AreNamed old xs → SetsStamp old new n None → ys ≡ remove_event n.sender n.serial xs → AreNamed new ys
named_removed old new n xs ys h sets e = subst (AreNamed new) (sym e) (record {
  unique = IsUnique-remove_event n.sender n.serial xs h.unique;
  named = λ q. sets q ∙ rw (name_eq-turned n q, h.named q) (without_name (eqb q.sender n.sender && eqb q.serial n.serial) n.sender n.serial q xs refl h.unique);
})

pub named_missed : (old new : List (EventName × ℕ)) (n : EventName) (xs : List Event) → AreNamed old xs → SetsStamp old new n None → find_event n.sender n.serial xs ≡ None → AreNamed new xs
named_missed old new n xs h sets missed = named_removed old new n xs xs h sets (sym (remove_event_missed n.sender n.serial xs missed))

pub named_same : (old new : List (EventName × ℕ)) (xs : List Event) → AreNamed old xs → ((n : EventName) → stamp_at new n ≡ stamp_at old n) → AreNamed new xs
named_same old new xs h same = record { unique = h.unique; named = λ n. same n ∙ h.named n }

-- a stamp that was put at a name is taken back
put_back_if : (b : Bool) (w o : Option ℕ) → (b ≡ true → o ≡ None) → cond b None (cond b w o) ≡ o
put_back_if true w o none = sym (none refl)
put_back_if false w o none = refl

put_back : (old new last : List (EventName × ℕ)) (k : EventName) (w : Option ℕ) (xs : List Event) → AreNamed old xs → find_event k.sender k.serial xs ≡ None → SetsStamp old new k w → SetsStamp new last k None → (n : EventName) → stamp_at last n ≡ stamp_at old n
put_back old new last k w xs h missed put taken n =
    let none : name_eq k n ≡ true → stamp_at old n ≡ None =
    λ is. let e = numbers_equal k.sender k.serial n.sender n.serial is in h.named n ∙ rw (sym e.0, sym e.1) (ap (option_map (λ x. x.stamp)) missed) in
    taken n ∙ ap (cond (name_eq k n) None) (put n) ∙ put_back_if (name_eq k n) w (stamp_at old n) none

pub named_back : (old new last : List (EventName × ℕ)) (x : Event) (k : EventKey) (n : EventName) (xs ys now : List Event) → AreNamed old xs → xs ≡ now → find_event x.sender x.serial now ≡ None → k ≡ key_of x → n ≡ name_of_key k → SetsStamp old new (name_of_key k) (Some k.stamp) → SetsStamp new last n None → ys ≡ xs → AreNamed last ys
named_back old new last x k n xs ys now h view missed key name put taken same =
    let fresh : find_event x.sender x.serial xs ≡ None = ap (find_event x.sender x.serial) view ∙ missed in
    let absent = subst (λ (j : EventKey). find_event j.sender j.serial xs ≡ None) (sym key) fresh in
    let took = subst (λ (q : EventName). SetsStamp new last q None) name taken in
    subst (AreNamed last) (sym same) (named_same old last xs h (put_back old new last (name_of_key k) (Some k.stamp) xs h absent put took))

pub not_named : (entries : List (EventName × ℕ)) (k : EventName) (xs : List Event) → AreNamed entries xs → find_event k.sender k.serial xs ≡ None → stamp_at entries k ≡ None
not_named entries k xs h missed = h.named k ∙ ap (option_map (λ x. x.stamp)) missed

-- the first event has the name that goes with it
same_name : (x : Event) → is_event x.sender x.serial x ≡ true
same_name x = grind (arith, nat_tests)

pub first_removed : (x : Event) (xs : List Event) → Some x ≡ slice_get xs 0 → drop 1 xs ≡ remove_event x.sender x.serial xs
unfolding remove_event
first_removed x [] e = absurd (cc)
first_removed x (y ∷ ys) e = let same : y ≡ x = cc in rw same (rw (same_name x) refl)

-- no events
pub no_names : (entries : List (EventName × ℕ)) (xs : List Event) → ((n : EventName) → stamp_at entries n ≡ None) → xs ≡ [] → AreNamed entries xs
unfolding find_event IsUnique
no_names entries xs none e = subst (AreNamed entries) (sym e) (record { unique = tt; named = none })

-- what the names say of an event
there_if : (b : Bool) (t : Option ℕ) (o : Option Event) → b ≡ is_some t → t ≡ option_map (λ x. x.stamp) o → MatchBool b (IsSome o) (o ≡ None)
there_if b t None is e = rw (is, e) refl
there_if b t (Some x) is e = rw (is, e) refl

pub has_name : (entries : List (EventName × ℕ)) (xs : List Event) (g m : ℕ) (b : Bool) → AreNamed entries xs → b ≡ is_some (stamp_at entries (record { sender = g; serial = m })) → MatchBool b (IsSome (find_event g m xs)) (find_event g m xs ≡ None)
has_name entries xs g m b h is = there_if b (stamp_at entries (record { sender = g; serial = m })) (find_event g m xs) is (h.named (record { sender = g; serial = m }))

none_if_no_stamp : (o : Option Event) → None ≡ option_map (λ (x : Event). x.stamp) o → o ≡ None
none_if_no_stamp None e = refl
none_if_no_stamp (Some x) e = absurd (cc)

pub no_name : (entries : List (EventName × ℕ)) (xs : List Event) (g m : ℕ) → AreNamed entries xs → None ≡ stamp_at entries (record { sender = g; serial = m }) → find_event g m xs ≡ None
no_name entries xs g m h e = none_if_no_stamp (find_event g m xs) (e ∙ h.named (record { sender = g; serial = m }))

-- the event with a key, which is there
pub record HasKey (k : EventKey) (xs : List Event) : Type 0 where
  pub event : Event
  pub found : find_event k.sender k.serial xs ≡ Some event
  pub key : key_of event ≡ k

key_from : (k : EventKey) (x : Event) → x.stamp ≡ k.stamp → (k.sender ≡ x.sender) × (k.serial ≡ x.serial) → key_of x ≡ k
key_from k x s n = rw (s, sym n.0, sym n.1) refl

has_key_if : (k : EventKey) (xs : List Event) (o : Option Event) → find_event k.sender k.serial xs ≡ o → option_map (λ x. x.stamp) o ≡ Some k.stamp → HasKey k xs
has_key_if k xs None is e = absurd (cc)
has_key_if k xs (Some x) is e =
    let s : x.stamp ≡ k.stamp = cc in
    record { event = x; found = is; key = key_from k x s (names_equal k.sender k.serial x (find_event_name k.sender k.serial xs x is)) }

pub key_is_there : (k : EventKey) (xs : List Event) → stamp_of (name_of_key k) xs ≡ Some k.stamp → HasKey k xs
key_is_there k xs e = has_key_if k xs (find_event k.sender k.serial xs) refl e

-- the first event goes, with its stamp
pub first_gone : (x : Event) (k : EventKey) (n : EventName) (xs ys : List Event) → Some x ≡ slice_get xs 0 → k ≡ key_of x → n ≡ name_of_key k → ys ≡ drop 1 xs → ys ≡ remove_event n.sender n.serial xs
first_gone x k n xs ys first key name rest =
    rest ∙ first_removed x xs first ∙ ap (λ (q : EventName). remove_event q.sender q.serial xs) (sym (name ∙ ap name_of_key key))

-- ---- no event comes before the first, which is named
found_if : (b : Bool) (P : Event → Type 0) (x e : Event) (o : Option Event) → P x → (o ≡ Some e → P e) → cond b (Some x) o ≡ Some e → P e
found_if true P x e o here there is = let same : x ≡ e = cc in subst P same here
found_if false P x e o here there is = there is

found_all : (P : Event → Type 0) (g m : ℕ) (xs : List Event) (e : Event) → AllByRecursion P xs → find_event g m xs ≡ Some e → P e
unfolding find_event
found_all P g m [] e h is = absurd (cc)
found_all P g m (x ∷ xs) e h is = found_if (is_event g m x) P x e (find_event g m xs) h.0 (λ there. found_all P g m xs e h.1 there) is

not_before_itself : (x : Event) → is_before x x ≡ false
not_before_itself x = grind (arith, nat_tests)

none_before_first : (x : Event) (g m : ℕ) (xs : List Event) (e : Event) → IsInOrder xs → Some x ≡ slice_get xs 0 → find_event g m xs ≡ Some e → is_before e x ≡ false
unfolding IsInOrder
none_before_first x g m [] e h first is = absurd (cc)
none_before_first x g m (y ∷ ys) e h first is =
    let same : y ≡ x = cc in
    let P : Event → Type 0 = λ z. is_before e z ≡ false in
    subst P same (found_all (λ z. is_before z y ≡ false) g m (y ∷ ys) e (not_before_itself y, h.0) is)

pub least_named : (entries : List (EventName × ℕ)) (xs : List Event) (x : Event) (k : EventKey) → AreNamed entries xs → IsInOrder xs → Some x ≡ slice_get xs 0 → k ≡ key_of x → (n : EventName) (t : ℕ) → stamp_at entries n ≡ Some t → is_less (key_with n t) k ≡ false
least_named entries xs x k h order first key n t is =
    let there = key_is_there (key_with n t) xs (sym (h.named n) ∙ is) in
    let P : EventKey → Type 0 = λ j. is_less j (key_of x) ≡ false in
    let Q : EventKey → Type 0 = λ j. is_less (key_with n t) j ≡ false in
    subst Q (sym key) (subst P there.key (none_before_first x n.sender n.serial xs there.event order first there.found))

first_stamp_of : (x : Event) (xs : List Event) → Some x ≡ slice_get xs 0 → stamp_of (name_of_key (key_of x)) xs ≡ Some x.stamp
unfolding find_event
first_stamp_of x [] first = absurd (cc)
first_stamp_of x (y ∷ ys) first = let same : y ≡ x = cc in rw same (rw (same_name x) refl)

pub first_named : (entries : List (EventName × ℕ)) (xs : List Event) (x : Event) (k : EventKey) → AreNamed entries xs → Some x ≡ slice_get xs 0 → k ≡ key_of x → stamp_at entries (name_of_key k) ≡ Some k.stamp
first_named entries xs x k h first key =
    let P : EventKey → Type 0 = λ j. stamp_at entries (name_of_key j) ≡ Some j.stamp in
    subst P (sym key) (h.named (name_of_key (key_of x)) ∙ first_stamp_of x xs first)
