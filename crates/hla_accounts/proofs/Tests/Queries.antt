-- Tests of all that waits are tests of the keys in a range of the index
use Rattle.std.proofs.Common.{◌≡◌, ℕ, cond, eqb, leb, ltb, ◌&&◌, ◌||◌, not, Bool, true, false, List, [], ◌∷◌, Option, Some, None, is_some, Bor, refl, sym, ap, ◌∙◌, arith}
use Rattle.std.specs.List.{list_all, filter}
use Rattle.std.specs.BTreeSet as sorted
use Rattle.std.specs.BTreeSet.{BTreeSet}
use Rattle.std.proofs.Math.Path.{fun_ext}
use Rattle.std.specs.Map.Iter.{TakesFirst, deref}
use Rattle.std.specs.Option.{option_map_or}
use Rattle.std.specs.Ordering.{is_le, nat_cmp, ordering_then}
use Rattle.std.specs.declared.cmp.Ordering.{Ordering}
use Rattle.std.specs.declared.cmp.Ordering.TheVariants.{Less, Equal, Greater}
use Rattle.std.proofs.lemmas.Bool.Decides.{nat_tests}
use Rattle.hla_base.specs.declared.number.EventHandle.{EventHandle}
use Rattle.hla_callbacks.specs.declared.callback.Delivery.{Delivery}
use Rattle.hla_callbacks.specs.declared.callback.Delivery.TheVariants.{Receive, Demoted, TimeStamp}
use Rattle.hla_accounts.specs.declared.account.Account.{Account}
use Rattle.hla_bags.specs.declared.bag.Waiting.{Waiting}
use Rattle.hla_bags.specs.declared.index.Key.{Key}
use Rattle.hla_bags.specs.declared.index.Name.{Name}
use Rattle.hla_bags.specs.declared.index.Index.{Index}
use Rattle.hla_bags.specs.Bags.{is_listed, AreApart, ordered_stamp}
use Rattle.hla_accounts.specs.Bounds.{is_retracted, demoted_stamp, is_at_most_waiting}
use Rattle.hla_accounts.specs.Ticks.{is_among_if_below, is_sent_in_receive_order, is_not_earlier, is_not_earlier_of_stamp, is_key_le, is_behind}
use Rattle.hla_accounts.specs.Calls.{is_at_most_demoted}
use Rattle.hla_bags.specs.Indexes.{waiting_name_cmp, HasNamesOf, key_at, is_ordered_below, is_demoted_below, is_ordered_before, is_stamped_before, is_received_before, delivery_at, IsIndexOf}
use Rattle.hla_bags.proofs.Indexes.Ranges.{all_in_range}

abbrev pub is_key_retracted : List Account → Key → Bool
is_key_retracted accounts k = is_retracted accounts k.sender k.serial

-- of what has the stamp of one of g's messages and a key below, what is no reason to wait
abbrev pub is_passed_over : List Account → ℕ → Key → Bool
is_passed_over accounts g k = not (eqb k.sender g) && is_key_retracted accounts k

abbrev pub is_key_among : List Account → List EventHandle → Key → Bool
is_key_among accounts events k = is_key_retracted accounts k || is_listed events k.sender k.serial

-- ---- comparisons
le_then : (o p : Ordering) → is_le o ≡ true → is_le p ≡ true → is_le (ordering_then o p) ≡ true
le_then Less p a b = refl
le_then Equal p a b = b
le_then Greater p a b = absurd (cc)

le_zero : (n : ℕ) → is_le (nat_cmp 0 n) ≡ true
le_zero n = grind (arith, nat_tests)

le_least : (g m : ℕ) → is_le (ordering_then (nat_cmp 0 g) (nat_cmp 0 m)) ≡ true
le_least g m = le_then (nat_cmp 0 g) (nat_cmp 0 m) (le_zero g) (le_zero m)

above : (x s : ℕ) (p : Ordering) → is_le p ≡ true → not (is_le (ordering_then (nat_cmp x s) p)) ≡ ltb s x
above x s p le = by (ltb x s) (eqb x s) refl refl
  where
    by : (l e : Bool) → ltb x s ≡ l → eqb x s ≡ e → not (is_le (ordering_then (cond l Less (cond e Equal Greater)) p)) ≡ ltb s x
    by true e a b = grind (arith, nat_tests)
    by false true a b = ap not le ∙ (let no : ltb s x ≡ false = grind (arith, nat_tests) in sym no)
    by false false a b = grind (arith, nat_tests)

le_key : (g m h n : ℕ) → is_le (ordering_then (nat_cmp g h) (nat_cmp m n)) ≡ is_key_le g m h n
le_key g m h n = by (ltb g h) (eqb g h)
  where
    le_number : is_le (nat_cmp m n) ≡ leb m n
    le_number = grind (arith, nat_tests)

    by : (l e : Bool) → is_le (ordering_then (cond l Less (cond e Equal Greater)) (nat_cmp m n)) ≡ (l || (e && leb m n))
    by true e = refl
    by false true = le_number
    by false false = refl

-- ---- the ranges
stamps_below : (x s g m : ℕ) → (is_le (ordering_then (nat_cmp 0 s) (ordering_then (nat_cmp 0 g) (nat_cmp 0 m))) && not (is_le (ordering_then (nat_cmp x s) (ordering_then (nat_cmp 0 g) (nat_cmp 0 m))))) ≡ ltb s x
stamps_below x s g m = ap (λ b. b && not (is_le (ordering_then (nat_cmp x s) (ordering_then (nat_cmp 0 g) (nat_cmp 0 m))))) (le_then (nat_cmp 0 s) (ordering_then (nat_cmp 0 g) (nat_cmp 0 m)) (le_zero s) (le_least g m)) ∙ above x s (ordering_then (nat_cmp 0 g) (nat_cmp 0 m)) (le_least g m)

keys_before : (z s g m h n : ℕ) → (is_le (ordering_then (nat_cmp z s) (ordering_then (nat_cmp 0 h) (nat_cmp 0 n))) && not (is_le (ordering_then (nat_cmp z s) (ordering_then (nat_cmp g h) (nat_cmp m n))))) ≡ (eqb s z && not (is_key_le g m h n))
keys_before z s g m h n = by (ltb z s) (eqb z s) refl refl
  where
    by : (l e : Bool) → ltb z s ≡ l → eqb z s ≡ e →
        (is_le (ordering_then (cond l Less (cond e Equal Greater)) (ordering_then (nat_cmp 0 h) (nat_cmp 0 n))) && not (is_le (ordering_then (cond l Less (cond e Equal Greater)) (ordering_then (nat_cmp g h) (nat_cmp m n))))) ≡ (eqb s z && not (is_key_le g m h n))
    by true e a b = let no : eqb s z ≡ false = grind (arith, nat_tests) in ap (λ b. b && not (is_key_le g m h n)) (sym no)
    by false true a b =
        let yes_it : eqb s z ≡ true = grind (arith, nat_tests) in
        ap (λ b. b && not (is_le (ordering_then (nat_cmp g h) (nat_cmp m n)))) (le_least h n) ∙ ap not (le_key g m h n) ∙ ap (λ b. b && not (is_key_le g m h n)) (sym yes_it)
    by false false a b = let no : eqb s z ≡ false = grind (arith, nat_tests) in ap (λ b. b && not (is_key_le g m h n)) (sym no)

serials_before : (g m h n : ℕ) → (is_le (ordering_then (nat_cmp g h) (nat_cmp 0 n)) && not (is_le (ordering_then (nat_cmp g h) (nat_cmp m n)))) ≡ (eqb h g && ltb n m)
serials_before g m h n = by (ltb g h) (eqb g h) refl refl
  where
    last : not (is_le (nat_cmp m n)) ≡ ltb n m
    last = grind (arith, nat_tests)

    by : (l e : Bool) → ltb g h ≡ l → eqb g h ≡ e → (is_le (ordering_then (cond l Less (cond e Equal Greater)) (nat_cmp 0 n)) && not (is_le (ordering_then (cond l Less (cond e Equal Greater)) (nat_cmp m n)))) ≡ (eqb h g && ltb n m)
    by true e a b = let no : eqb h g ≡ false = grind (arith, nat_tests) in ap (λ b. b && ltb n m) (sym no)
    by false true a b = let yes_it : eqb h g ≡ true = grind (arith, nat_tests) in ap (λ b. b && not (is_le (nat_cmp m n))) (le_zero n) ∙ last ∙ ap (λ b. b && ltb n m) (sym yes_it)
    by false false a b = let no : eqb h g ≡ false = grind (arith, nat_tests) in ap (λ b. b && ltb n m) (sym no)

own_before : (z s g m h n : ℕ) → (is_le (ordering_then (nat_cmp z s) (ordering_then (nat_cmp g h) (nat_cmp 0 n))) && not (is_le (ordering_then (nat_cmp z s) (ordering_then (nat_cmp g h) (nat_cmp m n))))) ≡ (eqb s z && (eqb h g && ltb n m))
own_before z s g m h n = by (ltb z s) (eqb z s) refl refl
  where
    by : (l e : Bool) → ltb z s ≡ l → eqb z s ≡ e →
        (is_le (ordering_then (cond l Less (cond e Equal Greater)) (ordering_then (nat_cmp g h) (nat_cmp 0 n))) && not (is_le (ordering_then (cond l Less (cond e Equal Greater)) (ordering_then (nat_cmp g h) (nat_cmp m n))))) ≡ (eqb s z && (eqb h g && ltb n m))
    by true e a b = let no : eqb s z ≡ false = grind (arith, nat_tests) in ap (λ b. b && (eqb h g && ltb n m)) (sym no)
    by false true a b = let yes_it : eqb s z ≡ true = grind (arith, nat_tests) in serials_before g m h n ∙ ap (λ b. b && (eqb h g && ltb n m)) (sym yes_it)
    by false false a b = let no : eqb s z ≡ false = grind (arith, nat_tests) in ap (λ b. b && (eqb h g && ltb n m)) (sym no)

-- ---- the tests
or_true : (r : Bool) → (r || true) ≡ true
or_true true = refl
or_true false = refl

at_most : (x s : ℕ) (r : Bool) → (r || leb x s) ≡ (not (ltb s x) || r)
at_most x s r = turned r (leb x s) ∙ ap (λ b. b || r) (let same : leb x s ≡ not (ltb s x) = grind (arith, nat_tests) in same)
  where
    turned : (a b : Bool) → (a || b) ≡ (b || a)
    turned true true = refl
    turned true false = refl
    turned false true = refl
    turned false false = refl

pub ordered_keys : (accounts : List Account) (x : ℕ) (i : Index) (ws : List Waiting) → IsIndexOf i (delivery_at ws) → AreApart ws → list_all (is_at_most_waiting accounts x) ws ≡ list_all (is_key_retracted accounts) (filter (is_ordered_below x) i.keys.keys)
ordered_keys accounts x i ws kept apart = all_in_range i ws kept apart (is_at_most_waiting accounts x) (is_ordered_below x) (is_key_retracted accounts) (λ w. by (is_retracted accounts w.event.sender w.event.serial) w.event.sender w.event.serial w.delivery)
  where
    by : (r : Bool) (g m : ℕ) (d : Delivery) → (r || option_map_or (leb x) (ordered_stamp d) true) ≡ (not (is_ordered_below x (key_at g m d)) || r)
    by r g m Receive = or_true r
    by r g m (Demoted s) = or_true r
    by r g m (TimeStamp s) = at_most x s r ∙ ap (λ b. not b || r) (sym (stamps_below x s g m))

pub demoted_keys : (accounts : List Account) (x : ℕ) (i : Index) (ws : List Waiting) → IsIndexOf i (delivery_at ws) → AreApart ws → list_all (is_at_most_demoted accounts x) ws ≡ list_all (is_key_retracted accounts) (filter (is_demoted_below x) i.keys.keys)
demoted_keys accounts x i ws kept apart = all_in_range i ws kept apart (is_at_most_demoted accounts x) (is_demoted_below x) (is_key_retracted accounts) (λ w. by (is_retracted accounts w.event.sender w.event.serial) w.event.sender w.event.serial w.delivery)
  where
    by : (r : Bool) (g m : ℕ) (d : Delivery) → (r || option_map_or (leb x) (demoted_stamp d) true) ≡ (not (is_demoted_below x (key_at g m d)) || r)
    by r g m Receive = or_true r
    by r g m (TimeStamp s) = or_true r
    by r g m (Demoted s) = at_most x s r ∙ ap (λ b. not b || r) (sym (stamps_below x s g m))

-- of what has the stamp and a key below, what is behind is of another sender and retracted
passed_over : (g m h n : ℕ) (r a : Bool) → ((r || not a || is_key_le g m h n) && (not a || not (eqb h g && ltb n m))) ≡ (not (a && not (is_key_le g m h n)) || (not (eqb h g) && r))
passed_over g m h n r a = ap (λ l. (r || not a || is_key_le g m h n) && (not a || not l)) own ∙ by r a (is_key_le g m h n) (eqb h g)
  where
    own : (eqb h g && ltb n m) ≡ (eqb h g && not (is_key_le g m h n))
    own = grind (arith, nat_tests)

    by : (r a k e : Bool) → ((r || not a || k) && (not a || not (e && not k))) ≡ (not (a && not k) || (not e && r))
    by true false k e = refl
    by false false k e = refl
    by true true true true = refl
    by true true true false = refl
    by true true false true = refl
    by true true false false = refl
    by false true true true = refl
    by false true true false = refl
    by false true false true = refl
    by false true false false = refl

pub keys_in_turn : (accounts : List Account) (g m z : ℕ) (i : Index) (ws : List Waiting) → IsIndexOf i (delivery_at ws) → AreApart ws → list_all (is_behind accounts g m z) ws ≡ list_all (is_passed_over accounts g) (filter (is_ordered_before g m z) i.keys.keys)
keys_in_turn accounts g m z i ws kept apart = all_in_range i ws kept apart (is_behind accounts g m z) (is_ordered_before g m z) (is_passed_over accounts g) (λ w. by (is_retracted accounts w.event.sender w.event.serial) w.event.sender w.event.serial w.delivery)
  where
    other : (r k : Bool) → ((r || true || k) && true) ≡ true
    other true k = refl
    other false k = refl

    by : (r : Bool) (h n : ℕ) (d : Delivery) →
        ((r || option_map_or (λ y. not (eqb y z)) (ordered_stamp d) true || is_key_le g m h n) && (option_map_or (λ y. not (eqb y z)) (ordered_stamp d) true || not (eqb h g && ltb n m))) ≡ (not (is_ordered_before g m z (key_at h n d)) || (not (eqb h g) && r))
    by r h n Receive = other r (is_key_le g m h n)
    by r h n (Demoted s) = other r (is_key_le g m h n)
    by r h n (TimeStamp s) = passed_over g m h n r (eqb s z) ∙ ap (λ b. not b || (not (eqb h g) && r)) (sym (keys_before z s g m h n))

pub among_keys : (accounts : List Account) (x : ℕ) (events : List EventHandle) (i : Index) (ws : List Waiting) → IsIndexOf i (delivery_at ws) → AreApart ws →
    list_all (is_among_if_below accounts x events) ws ≡ list_all (is_key_among accounts events) (filter (is_ordered_below x) i.keys.keys)
among_keys accounts x events i ws kept apart =
    all_in_range i ws kept apart (is_among_if_below accounts x events) (is_ordered_below x) (is_key_among accounts events)
    (λ w. by (is_retracted accounts w.event.sender w.event.serial) (is_listed events w.event.sender w.event.serial) w.event.sender w.event.serial w.delivery)
  where
    passed : (r b l : Bool) → (r || not b || l) ≡ (not b || (r || l))
    passed true true l = refl
    passed true false l = refl
    passed false true l = refl
    passed false false l = refl

    other : (r l : Bool) → (r || true || l) ≡ true
    other true l = refl
    other false l = refl

    by : (r l : Bool) (g m : ℕ) (d : Delivery) → (r || option_map_or (λ s. not (ltb s x)) (ordered_stamp d) true || l) ≡ (not (is_ordered_below x (key_at g m d)) || (r || l))
    by r l g m Receive = other r l
    by r l g m (Demoted s) = other r l
    by r l g m (TimeStamp s) = passed r (ltb s x) l ∙ ap (λ b. not b || (r || l)) (sym (stamps_below x s g m))

-- a set of the names of the events tells who is among them
pub among_names : (accounts : List Account) (events : List EventHandle) (s : BTreeSet Name) (ks : List Key) → HasNamesOf s events →
    list_all (λ (k : Key). is_key_retracted accounts k || sorted.contains waiting_name_cmp s (record { sender = k.sender; serial = k.serial })) ks ≡ list_all (is_key_among accounts events) ks
among_names accounts events s ks has = ap (λ (test : Key → Bool). list_all test ks) (fun_ext (λ k. ap (λ b. is_key_retracted accounts k || b) (has (record { sender = k.sender; serial = k.serial }))))

pub received_keys : (g m : ℕ) (i : Index) (ws : List Waiting) → IsIndexOf i (delivery_at ws) → AreApart ws → list_all (is_not_earlier g m) ws ≡ list_all (λ _. false) (filter (is_received_before g m) i.keys.keys)
received_keys g m i ws kept apart = all_in_range i ws kept apart (is_not_earlier g m) (is_received_before g m) (λ _. false) (λ w. by w.event.sender w.event.serial w.delivery)
  where
    none : (b : Bool) → not b ≡ (not b || false)
    none true = refl
    none false = refl

    by : (h n : ℕ) (d : Delivery) → not (is_sent_in_receive_order d && eqb h g && ltb n m) ≡ (not (is_received_before g m (key_at h n d)) || false)
    by h n Receive = none (eqb h g && ltb n m) ∙ ap (λ b. not b || false) (sym (serials_before g m h n))
    by h n (Demoted s) = refl
    by h n (TimeStamp s) = refl

pub stamped_keys : (g m z : ℕ) (i : Index) (ws : List Waiting) → IsIndexOf i (delivery_at ws) → AreApart ws → list_all (is_not_earlier_of_stamp g m z) ws ≡ list_all (λ _. false) (filter (is_stamped_before g m z) i.keys.keys)
stamped_keys g m z i ws kept apart = all_in_range i ws kept apart (is_not_earlier_of_stamp g m z) (is_stamped_before g m z) (λ _. false) (λ w. by w.event.sender w.event.serial w.delivery)
  where
    none : (a b : Bool) → (not a || not b) ≡ (not (a && b) || false)
    none true true = refl
    none true false = refl
    none false b = refl

    by : (h n : ℕ) (d : Delivery) → (option_map_or (λ x. not (eqb x z)) (ordered_stamp d) true || not (eqb h g && ltb n m)) ≡ (not (is_stamped_before g m z (key_at h n d)) || false)
    by h n Receive = refl
    by h n (Demoted s) = refl
    by h n (TimeStamp s) = none (eqb s z) (eqb h g && ltb n m) ∙ ap (λ b. not b || false) (sym (own_before z s g m h n))

-- none is taken from a list exactly where nothing is in it
pub none_taken : (ks rest : List Key) (r : Option (Bor Key)) (b : Bool) → TakesFirst (deref {X = Key}) ks r rest → is_some r ≡ not b → b ≡ list_all (λ _. false) ks
none_taken ks rest None b taken is = by b is ∙ ap (list_all (λ _. false)) (sym taken.0)
  where
    by : (c : Bool) → false ≡ not c → c ≡ list_all {X = Key} (λ _. false) []
    by true e = refl
    by false e = absurd (cc)
none_taken ks rest (Some k) b taken is = by b is ∙ ap (list_all (λ _. false)) (sym taken)
  where
    by : (c : Bool) → true ≡ not c → c ≡ list_all {X = Key} (λ _. false) (deref k ∷ rest)
    by true e = absurd (cc)
    by false e = refl
