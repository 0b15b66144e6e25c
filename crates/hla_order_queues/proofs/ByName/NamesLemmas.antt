-- The stamps by name: of all senders' notes, of the others, and of both
use Rattle.std.proofs.Common.{◌≡◌, ℕ, zero, suc, ◌+◌, ◌<◌, ◌≤◌, Bool, true, false, cond, eqb, ltb, ◌&&◌, ◌||◌, get_or, List, [], ◌∷◌, ◌++◌, length, Option, Some, None, is_some, Result, Ok, Err, is_ok, refl, sym, ap, ◌∙◌, arith}
use Rattle.std.proofs.lemmas.Bool.Decides.{nat_tests}
use Rattle.std.proofs.lemmas.List.{get_or_past}
use Rattle.std.specs.Map.{lookup}
use Rattle.std.specs.Option.{option_or}
use Rattle.std.specs.Bool.{OnTrue, OnFalse}
use Rattle.std.specs.Result.{OnOk}
use Rattle.std.specs.BTreeMap.{is_at}
use Rattle.std.specs.declared.cmp.Ordering.{Ordering}
use Rattle.std.specs.declared.cmp.Ordering.TheVariants.{Less, Equal, Greater}
use Rattle.std.specs.Ordering.{nat_cmp, ordering_then, is_eq}
use Rattle.hla_order_queues.specs.declared.key.EventKey.{EventKey}
use Rattle.hla_order_queues.specs.declared.key.EventName.{EventName}
use Rattle.hla_order_queues.specs.declared.rising.StampNote.{StampNote}
use Rattle.hla_order_queues.specs.Kept.{name_eq, name_of_key, is_less, stamp_at}
use Rattle.hla_order_queues.specs.Names.{noted, noted_at, with_entry, entries_from, rising_entries, entries_of, name_cmp, key_with, IsLeastAt, IsLeastNoted, SetsAt}
use Rattle.hla_order_queues.proofs.ByName.RisingLemmas.{or_none}

-- ---- the entries have what is noted
turned : (a b : ℕ) → eqb a b ≡ eqb b a
turned a b = grind (arith, nat_tests)

lookup-append : (test : EventName → Bool) (xs ys : List (EventName × ℕ)) → lookup test (xs ++ ys) ≡ option_or (lookup test xs) (lookup test ys)
lookup-append test [] ys = refl
lookup-append test (x ∷ xs) ys = found_if (test x.0) x.1 (lookup test xs) (lookup test ys) (lookup test (xs ++ ys)) (lookup-append test xs ys)
  where
    found_if : (b : Bool) (t : ℕ) (o p all : Option ℕ) → all ≡ option_or o p → cond b (Some t) all ≡ option_or (cond b (Some t) o) p
    found_if true t o p all e = refl
    found_if false t o p all e = e

-- one more note of the sender
entry_if : (b c : Bool) (o p : Option ℕ) → cond (b && c) (option_or o (cond b p None)) (cond b p None) ≡ cond b (cond c (option_or o p) p) None
entry_if true true o p = refl
entry_if true false o p = refl
entry_if false c o p = refl

either : (b : Bool) (o : Option ℕ) → o ≡ cond b o o
either true o = refl
either false o = refl

entry_there : (o : Option ℕ) (n k : EventName) (es : List (EventName × ℕ)) → lookup (name_eq n) (with_entry k o es) ≡ cond (name_eq n k) (option_or o (lookup (name_eq n) es)) (lookup (name_eq n) es)
entry_there None n k es = either (name_eq n k) (lookup (name_eq n) es)
entry_there (Some t) n k es = refl

from_there : (g : ℕ) (n : EventName) (qs : List StampNote) → lookup (name_eq n) (entries_from g qs) ≡ cond (eqb n.sender g) (noted n.serial qs) None
unfolding noted entries_from
from_there g n [] = either (eqb n.sender g) None
from_there g n (q ∷ qs) =
    let k : EventName = record { sender = g; serial = q.serial } in
    entry_there q.stamp n k (entries_from g qs)
    ∙ ap (λ (o : Option ℕ). cond (name_eq n k) (option_or q.stamp o) o) (from_there g n qs)
    ∙ entry_if (eqb n.sender g) (eqb n.serial q.serial) q.stamp (noted n.serial qs)
    ∙ ap (λ b. cond (eqb n.sender g) (cond b (option_or q.stamp (noted n.serial qs)) (noted n.serial qs)) None) (turned n.serial q.serial)

apart : (a g : ℕ) → a < g → eqb a g ≡ false
apart a g h = grind (arith, nat_tests)

behind : (a g : ℕ) → g < a → eqb a g ≡ false
behind a g h = grind (arith, nat_tests)

alike : (a g : ℕ) → a ≡ g → eqb a g ≡ true
alike a g h = grind (arith, nat_tests)

none_lesser : (g : ℕ) (n : EventName) (rising : List (List StampNote)) → n.sender < g → lookup (name_eq n) (rising_entries g rising) ≡ None
unfolding rising_entries
none_lesser g n [] h = refl
none_lesser g n (qs ∷ rest) h =
    lookup-append (name_eq n) (entries_from g qs) (rising_entries (suc g) rest)
    ∙ ap (λ (o : Option ℕ). option_or o (lookup (name_eq n) (rising_entries (suc g) rest))) (from_there g n qs ∙ ap (λ b. cond b (noted n.serial qs) None) (apart n.sender g h))
    ∙ none_lesser (suc g) n rest (omega arith)

none_noted : (m : ℕ) → None ≡ noted m []
unfolding noted
none_noted m = refl

rising_there : (g i : ℕ) (n : EventName) (rising : List (List StampNote)) → n.sender ≡ g + i → lookup (name_eq n) (rising_entries g rising) ≡ noted n.serial (get_or rising i [])
unfolding rising_entries
rising_there g i n [] h = none_noted n.serial
rising_there g zero n (qs ∷ rest) h =
    lookup-append (name_eq n) (entries_from g qs) (rising_entries (suc g) rest)
    ∙ ap (λ (o : Option ℕ). option_or (lookup (name_eq n) (entries_from g qs)) o) (none_lesser (suc g) n rest (omega arith))
    ∙ or_none (lookup (name_eq n) (entries_from g qs))
    ∙ from_there g n qs
    ∙ ap (λ b. cond b (noted n.serial qs) None) (alike n.sender g (omega arith))
rising_there g (suc i) n (qs ∷ rest) h =
    lookup-append (name_eq n) (entries_from g qs) (rising_entries (suc g) rest)
    ∙ ap (λ (o : Option ℕ). option_or o (lookup (name_eq n) (rising_entries (suc g) rest))) (from_there g n qs ∙ ap (λ b. cond b (noted n.serial qs) None) (behind n.sender g (omega arith)))
    ∙ rising_there (suc g) i n rest (omega arith)

-- what is at a name is what is noted, or else what the others have
stamp_there : (rising : List (List StampNote)) (others : List (EventName × ℕ)) (n : EventName) → stamp_at (entries_of rising others) n ≡ option_or (noted_at rising n) (stamp_at others n)
unfolding entries_of
stamp_there rising others n =
    lookup-append (name_eq n) (rising_entries 0 rising) others
    ∙ ap (λ (o : Option ℕ). option_or o (stamp_at others n)) (rising_there 0 n.sender n rising (omega arith))

-- ---- the tests of names
is_eq-ordering_then : (o p : Ordering) → is_eq (ordering_then o p) ≡ is_eq o && is_eq p
is_eq-ordering_then Less p = refl
is_eq-ordering_then Equal p = refl
is_eq-ordering_then Greater p = refl

is_eq-nat_cmp : (a b : ℕ) → is_eq (nat_cmp a b) ≡ eqb a b
is_eq-nat_cmp a b = grind (arith, nat_tests)

is_eq-name_cmp : (k n : EventName) → is_eq (name_cmp k n) ≡ name_eq k n
is_eq-name_cmp k n = is_eq-ordering_then (nat_cmp k.sender n.sender) (nat_cmp k.serial n.serial) ∙ rw (is_eq-nat_cmp k.sender n.sender, is_eq-nat_cmp k.serial n.serial)

lookup_alike : (f g : EventName → Bool) (es : List (EventName × ℕ)) → ((k : EventName) → f k ≡ g k) → lookup f es ≡ lookup g es
lookup_alike f g [] h = refl
lookup_alike f g (e ∷ es) h = ap (λ b. cond b (Some e.1) (lookup f es)) (h e.0) ∙ ap (λ (o : Option ℕ). cond (g e.0) (Some e.1) o) (lookup_alike f g es h)

pub found_at : (n : EventName) (es : List (EventName × ℕ)) → lookup (is_at (name_cmp n)) es ≡ stamp_at es n
found_at n es = lookup_alike (is_at (name_cmp n)) (name_eq n) es (is_eq-name_cmp n)

-- an update of the others, by the order and by name
pub updated : (old new : List (EventName × ℕ)) (k : EventName) (w : Option ℕ) → ((n : EventName) → lookup (is_at (name_cmp n)) new ≡ cond (is_at (name_cmp k) n) w (lookup (is_at (name_cmp n)) old)) → SetsAt (stamp_at old) (stamp_at new) k w
updated old new k w h n =
    sym (found_at n new)
    ∙ h n
    ∙ ap (λ b. cond b w (lookup (is_at (name_cmp n)) old)) (is_eq-name_cmp k n)
    ∙ ap (λ (o : Option ℕ). cond (name_eq k n) w o) (found_at n old)

pub where_true : (b : Bool) (P : Type 0) → (b ≡ true → P) → OnTrue b P
where_true true P f = f refl
where_true false P f = tt

pub when_true : (b : Bool) (P Q : Type 0) → (P → Q) → OnTrue b P → OnTrue b Q
when_true true P Q f h = f h
when_true false P Q f h = tt

pub when_false : (b : Bool) (P Q : Type 0) → (P → Q) → OnFalse b P → OnFalse b Q
when_false true P Q f h = tt
when_false false P Q f h = f h

pub where_ok : {A E : Type 0} (r : Result A E) (P : Type 0) → OnOk r P → is_ok r ≡ true → P
where_ok {A} {E} (Ok x) P h e = h
where_ok {A} {E} (Err x) P h e = absurd (cc)

-- ---- the lists of the senders
pub noted_past : (rising : List (List StampNote)) (n : EventName) → length rising ≤ n.sender → None ≡ noted_at rising n
noted_past rising n past = none_noted n.serial ∙ ap (noted n.serial) (sym (get_or_past rising n.sender [] past))

equal_names : (k n : EventName) → name_eq k n ≡ true → k ≡ n
equal_names k n h =
    let a : k.sender ≡ n.sender = grind (arith, nat_tests) in
    let b : k.serial ≡ n.serial = grind (arith, nat_tests) in
    let S : ℕ → EventName = λ s. record { sender = s; serial = k.serial } in
    let M : ℕ → EventName = λ m. record { sender = n.sender; serial = m } in
    ap S a ∙ ap M b

pub untouched : (rising : List (List StampNote)) (k n : EventName) → None ≡ noted_at rising k → noted_at rising n ≡ cond (name_eq k n) None (noted_at rising n)
untouched rising k n none = none_if (name_eq k n) refl
  where
    none_if : (b : Bool) → name_eq k n ≡ b → noted_at rising n ≡ cond b None (noted_at rising n)
    none_if true is = ap (noted_at rising) (sym (equal_names k n is)) ∙ sym none
    none_if false is = refl

-- ---- what is noted, and the others
pub nothing_there : (rising : List (List StampNote)) (others : List (EventName × ℕ)) (n : EventName) → rising ≡ [] → others ≡ [] → stamp_at (entries_of rising others) n ≡ None
nothing_there rising others n none no_others =
    stamp_there rising others n
    ∙ ap (λ (o : Option ℕ). option_or o (stamp_at others n)) (ap (λ rs. noted_at rs n) none ∙ sym (none_noted n.serial))
    ∙ ap (λ es. stamp_at es n) no_others

viewed : (rising : List (List StampNote)) (others now : List (EventName × ℕ)) (n : EventName) → entries_of rising others ≡ now → stamp_at now n ≡ option_or (noted_at rising n) (stamp_at others n)
viewed rising others now n view = ap (λ es. stamp_at es n) (sym view) ∙ stamp_there rising others n

pub has_noted : (rising : List (List StampNote)) (others now : List (EventName × ℕ)) (n : EventName) (b : Bool) (o : Option ℕ) → entries_of rising others ≡ now → o ≡ noted_at rising n → b ≡ is_some o → b ≡ true → b ≡ is_some (stamp_at now n)
has_noted rising others now n b o view is some told =
    some_if o (stamp_at others n) some told
    ∙ ap (λ (p : Option ℕ). is_some (option_or p (stamp_at others n))) is
    ∙ ap is_some (sym (viewed rising others now n view))
  where
    some_if : (o p : Option ℕ) → b ≡ is_some o → b ≡ true → b ≡ is_some (option_or o p)
    some_if None p e told = absurd (cc)
    some_if (Some t) p e told = e

pub has_other : (rising : List (List StampNote)) (others now : List (EventName × ℕ)) (n : EventName) (b c : Bool) (o : Option ℕ) → entries_of rising others ≡ now → o ≡ noted_at rising n → b ≡ is_some o → b ≡ false → c ≡ is_some (lookup (is_at (name_cmp n)) others) → c ≡ is_some (stamp_at now n)
has_other rising others now n b c o view is none miss there =
    there
    ∙ ap is_some (found_at n others)
    ∙ none_if o (stamp_at others n) none miss
    ∙ ap (λ (p : Option ℕ). is_some (option_or p (stamp_at others n))) is
    ∙ ap is_some (sym (viewed rising others now n view))
  where
    none_if : (o p : Option ℕ) → b ≡ is_some o → b ≡ false → is_some p ≡ is_some (option_or o p)
    none_if None p e miss = refl
    none_if (Some t) p e miss = absurd (cc)

front_if : (b : Bool) (t : ℕ) (o p : Option ℕ) → option_or (cond b (Some t) o) p ≡ cond b (Some t) (option_or o p)
front_if true t o p = refl
front_if false t o p = refl

pub put_noted : (old rising new : List (List StampNote)) (others now : List (EventName × ℕ)) (k : EventName) (t : ℕ) → entries_of old others ≡ now → ((n : EventName) → noted_at rising n ≡ noted_at old n) → SetsAt (noted_at rising) (noted_at new) k (Some t) → SetsAt (stamp_at now) (stamp_at (entries_of new others)) k (Some t)
put_noted old rising new others now k t view same sets n =
    stamp_there new others n
    ∙ ap (λ (o : Option ℕ). option_or o (stamp_at others n)) (sets n ∙ ap (λ (o : Option ℕ). cond (name_eq k n) (Some t) o) (same n))
    ∙ front_if (name_eq k n) t (noted_at old n) (stamp_at others n)
    ∙ ap (λ (o : Option ℕ). cond (name_eq k n) (Some t) o) (sym (viewed old others now n view))

first_none : (o p : Option ℕ) → option_or o p ≡ None → o ≡ None
first_none None p e = refl
first_none (Some t) p e = e

back_if : (b : Bool) (t : ℕ) (o p : Option ℕ) → (b ≡ true → o ≡ None) → option_or o (cond b (Some t) p) ≡ cond b (Some t) (option_or o p)
back_if true t o p none = ap (λ (q : Option ℕ). option_or q (Some t)) (none refl)
back_if false t o p none = refl

pub put_other : (old new : List (List StampNote)) (others next now : List (EventName × ℕ)) (k : EventName) (t : ℕ) → entries_of old others ≡ now → stamp_at now k ≡ None → ((n : EventName) → noted_at new n ≡ noted_at old n) → SetsAt (stamp_at others) (stamp_at next) k (Some t) → SetsAt (stamp_at now) (stamp_at (entries_of new next)) k (Some t)
put_other old new others next now k t view fresh same sets n =
    stamp_there new next n
    ∙ ap (λ (o : Option ℕ). option_or o (stamp_at next n)) (same n)
    ∙ ap (λ (o : Option ℕ). option_or (noted_at old n) o) (sets n)
    ∙ back_if (name_eq k n) t (noted_at old n) (stamp_at others n) (λ is. ap (noted_at old) (sym (equal_names k n is)) ∙ first_none (noted_at old k) (stamp_at others k) (sym (viewed old others now k view) ∙ fresh))
    ∙ ap (λ (o : Option ℕ). cond (name_eq k n) (Some t) o) (sym (viewed old others now n view))

pub put_none : (old new : List (List StampNote)) (others next now : List (EventName × ℕ)) → entries_of old others ≡ now → ((n : EventName) → noted_at new n ≡ noted_at old n) → next ≡ others → (n : EventName) → stamp_at (entries_of new next) n ≡ stamp_at now n
put_none old new others next now view same kept n =
    stamp_there new next n
    ∙ ap (λ (o : Option ℕ). option_or o (stamp_at next n)) (same n)
    ∙ ap (λ es. option_or (noted_at old n) (stamp_at es n)) kept
    ∙ sym (viewed old others now n view)

both_if : (b : Bool) (o p : Option ℕ) → option_or (cond b None o) (cond b None p) ≡ cond b None (option_or o p)
both_if true o p = refl
both_if false o p = refl

pub taken : (old new : List (List StampNote)) (others next now : List (EventName × ℕ)) (k : EventName) → entries_of old others ≡ now → SetsAt (noted_at old) (noted_at new) k None → SetsAt (stamp_at others) (stamp_at next) k None → SetsAt (stamp_at now) (stamp_at (entries_of new next)) k None
taken old new others next now k view noted_sets sets n =
    stamp_there new next n
    ∙ ap (λ (o : Option ℕ). option_or o (stamp_at next n)) (noted_sets n)
    ∙ ap (λ (o : Option ℕ). option_or (cond (name_eq k n) None (noted_at old n)) o) (sets n)
    ∙ both_if (name_eq k n) (noted_at old n) (stamp_at others n)
    ∙ ap (λ (o : Option ℕ). cond (name_eq k n) None o) (sym (viewed old others now n view))

pub found_either : (rising : List (List StampNote)) (others now : List (EventName × ℕ)) (k : EventName) (o p : Option ℕ) → entries_of rising others ≡ now → o ≡ noted_at rising k → p ≡ stamp_at others k → option_or o p ≡ stamp_at now k
found_either rising others now k o p view is there =
    ap (λ (q : Option ℕ). option_or q p) is
    ∙ ap (λ (q : Option ℕ). option_or (noted_at rising k) q) there
    ∙ sym (viewed rising others now k view)

-- the event before which none comes, among what is noted
noted_first : (rising : List (List StampNote)) (others now : List (EventName × ℕ)) (n : EventName) (t : ℕ) → entries_of rising others ≡ now → noted_at rising n ≡ Some t → stamp_at now n ≡ Some t
noted_first rising others now n t view is = viewed rising others now n view ∙ ap (λ (o : Option ℕ). option_or o (stamp_at others n)) is

same_stamp : (s t : ℕ) → Some s ≡ Some t → s ≡ t
same_stamp s t e = cc

pub least_at : (rising : List (List StampNote)) (others now : List (EventName × ℕ)) (k : EventKey) → entries_of rising others ≡ now → ((n : EventName) (t : ℕ) → stamp_at now n ≡ Some t → is_less (key_with n t) k ≡ false) → stamp_at now (name_of_key k) ≡ Some k.stamp → IsLeastAt k rising
least_at rising others now k view least there = record {
  least = λ n t is. least n t (noted_first rising others now n t view is);
  only = λ t is. same_stamp t k.stamp (sym (noted_first rising others now (name_of_key k) t view is) ∙ there);
}

same_sender : (t s g m k : ℕ) → (ltb t s || (eqb t s && (ltb g g || (eqb g g && ltb m k)))) ≡ false → (ltb t s || (eqb t s && ltb m k)) ≡ false
same_sender t s g m k h = grind (arith, nat_tests)

get_there : (rising : List (List StampNote)) (i : ℕ) (qs : List StampNote) → i < length rising → qs ≡ get_or rising i qs → qs ≡ get_or rising i []
get_there [] i qs lt is = absurd (omega arith)
get_there (r ∷ rising) zero qs lt is = is
get_there (r ∷ rising) (suc i) qs lt is = get_there rising i qs (omega arith) is

pub least_noted : (rising : List (List StampNote)) (k : EventKey) (qs : List StampNote) → IsLeastAt k rising → k.sender < length rising → qs ≡ get_or rising k.sender qs → IsLeastNoted k.serial k.stamp qs
least_noted rising k qs h lt is =
    let there = get_there rising k.sender qs lt is in
    record {
      least = λ m t noted_there. same_sender t k.stamp k.sender m k.serial (h.least (record { sender = k.sender; serial = m }) t (ap (noted m) (sym there) ∙ noted_there));
      only = λ t noted_there. h.only t (ap (noted k.serial) (sym there) ∙ noted_there);
    }

-- ---- what a test of the answer tells
pub put_told : (b : Bool) (P : Type 0) → OnTrue b P → b ≡ true → P
put_told true P p is = p
put_told false P p is = absurd (cc)

pub refused_told : (b : Bool) (P : Type 0) → OnFalse b P → b ≡ false → P
refused_told false P p is = p
refused_told true P p is = absurd (cc)
