-- What an index keeps after a change
use Rattle.std.proofs.Common.{◌≡◌, ℕ, Bool, true, false, cond, eqb, ◌&&◌, ◌||◌, List, [], ◌∷◌, ◌++◌, refl, sym, ap, ◌∙◌, Option, Some, None, is_some, subst, arith, eqb-true}
use Rattle.std.proofs.lemmas.Bool.{and_parts}
use Rattle.std.proofs.lemmas.Bool.Decides.{nat_tests}
use Rattle.std.specs.List.{list_any}
use Rattle.std.specs.BTreeMap as tree
use Rattle.std.specs.BTreeSet as sorted
use Rattle.std.specs.BTreeMap.{BTreeMap}
use Rattle.std.specs.BTreeSet.{BTreeSet}
use Rattle.std.specs.Ordering.{is_eq}
use Rattle.hla_base.specs.Tables.{upd2}
use Rattle.hla_base.specs.declared.number.EventHandle.{EventHandle}
use Rattle.hla_callbacks.specs.declared.callback.Delivery.{Delivery}
use Rattle.hla_bags.specs.declared.index.Key.{Key}
use Rattle.hla_bags.specs.declared.index.Name.{Name}
use Rattle.hla_bags.specs.contracts.index.KeyOrd.TheImpl as keys
use Rattle.hla_bags.specs.Bags.{is_listed}
use Rattle.hla_bags.specs.Indexes.{key_at, waiting_key_cmp, waiting_name_cmp, has_key, HasNamesOf}
use Rattle.hla_bags.proofs.Indexes.Keys.{key_apart, is_eq-waiting_name_cmp, same_order}

abbrev pub Table : Type 0
Table = ℕ → ℕ → Option Delivery

abbrev pub HasKeys : BTreeSet Key → Table → Type 0
HasKeys s t = (k : Key) → sorted.contains waiting_key_cmp s k ≡ has_key k (t k.sender k.serial)

abbrev pub HasNames : BTreeMap Name ℕ → Table → Type 0
HasNames a t = (n : Name) → is_some (tree.get waiting_name_cmp a n) ≡ is_some (t n.sender n.serial)

-- the set has the key exactly if b is true, and each other key as before
abbrev pub HasKeyIf : BTreeSet Key → BTreeSet Key → Key → Bool → Type 0
HasKeyIf s n k b = (q : Key) → sorted.contains waiting_key_cmp n q ≡ cond (is_eq (waiting_key_cmp k q)) b (sorted.contains waiting_key_cmp s q)

abbrev pub HasNumber : BTreeMap Name ℕ → BTreeMap Name ℕ → Name → Option ℕ → Type 0
HasNumber a n k o = (q : Name) → tree.get waiting_name_cmp n q ≡ cond (is_eq (waiting_name_cmp k q)) o (tree.get waiting_name_cmp a q)

-- what the clause of a change of the set says
pub key_now : (s n : BTreeSet Key) (k : Key) (b : Bool) (g m : ℕ) (d : Delivery) → k ≡ key_at g m d → sorted.Updates keys.cmp-value.it s n k b → HasKeyIf s n (key_at g m d) b
key_now s n k b g m d is clause = subst (λ x. HasKeyIf s n x b) is (λ q. (subst (λ r. sorted.Updates r s n k b) same_order clause).0 q)

pub number_now : (a b : BTreeMap Name ℕ) (k : Name) (o : Option ℕ) (g m : ℕ) → k ≡ record { sender = g; serial = m } → HasNumber a b k o → HasNumber a b (record { sender = g; serial = m }) o
number_now a b k o g m is now = subst (λ x. HasNumber a b x o) is now

-- the two that were compared are the same
both : (g m h n : ℕ) → (eqb g h && eqb m n) ≡ true → (g ≡ h) × (m ≡ n)
both g m h n e = let p = and_parts _ _ e in (eqb-true _ _ p.0, eqb-true _ _ p.1)

-- ---- keys
-- what the set says of the key of a message, by what the table has there
has_at : (s : BTreeSet Key) (t : Table) (g m : ℕ) (o : Option Delivery) (k : Key) → HasKeys s t → t g m ≡ o → (g ≡ k.sender) × (m ≡ k.serial) → sorted.contains waiting_key_cmp s k ≡ has_key k o
has_at s t g m o k has is p = has k ∙ ap (has_key k) (ap (λ h. t h k.serial) (sym p.0) ∙ ap (t g) (sym p.1) ∙ is)

key_there : (g m : ℕ) (d : Delivery) (k : Key) → (g ≡ k.sender) × (m ≡ k.serial) → is_eq (waiting_key_cmp (key_at g m d) k) ≡ has_key k (Some d)
key_there g m d k p = ap (λ h. is_eq (waiting_key_cmp (key_at h m d) k)) p.0 ∙ ap (λ n. is_eq (waiting_key_cmp (key_at k.sender n d) k)) p.1

pub keys_added : (s n : BTreeSet Key) (t : Table) (g m : ℕ) (d : Delivery) → HasKeys s t → t g m ≡ None → HasKeyIf s n (key_at g m d) true → HasKeys n (upd2 t g m (Some d))
unfolding upd2
keys_added s n t g m d has free now k = now k ∙ by (eqb g k.sender && eqb m k.serial) refl
  where
    only : (b c : Bool) → c ≡ false → cond b true c ≡ b
    only true c e = refl
    only false c e = e

    by : (b : Bool) → (eqb g k.sender && eqb m k.serial) ≡ b → cond (is_eq (waiting_key_cmp (key_at g m d) k)) true (sorted.contains waiting_key_cmp s k) ≡ has_key k (cond b (Some d) (t k.sender k.serial))
    by true e = let p = both g m k.sender k.serial e in only (is_eq (waiting_key_cmp (key_at g m d) k)) (sorted.contains waiting_key_cmp s k) (has_at s t g m None k has free p) ∙ key_there g m d k p
    by false e = ap (λ b. cond b true (sorted.contains waiting_key_cmp s k)) (key_apart g m d k e) ∙ has k

pub keys_removed : (s n : BTreeSet Key) (t : Table) (g m : ℕ) (d : Delivery) → HasKeys s t → t g m ≡ Some d → HasKeyIf s n (key_at g m d) false → HasKeys n (upd2 t g m None)
unfolding upd2
keys_removed s n t g m d has there now k = now k ∙ by (eqb g k.sender && eqb m k.serial) refl
  where
    gone : (b c : Bool) → c ≡ b → cond b false c ≡ false
    gone true c e = refl
    gone false c e = e

    by : (b : Bool) → (eqb g k.sender && eqb m k.serial) ≡ b → cond (is_eq (waiting_key_cmp (key_at g m d) k)) false (sorted.contains waiting_key_cmp s k) ≡ has_key k (cond b None (t k.sender k.serial))
    by true e = let p = both g m k.sender k.serial e in gone (is_eq (waiting_key_cmp (key_at g m d) k)) (sorted.contains waiting_key_cmp s k) (has_at s t g m (Some d) k has there p ∙ sym (key_there g m d k p))
    by false e = ap (λ b. cond b false (sorted.contains waiting_key_cmp s k)) (key_apart g m d k e) ∙ has k

written_twice : (t : Table) (g m : ℕ) (x y : Option Delivery) (h n : ℕ) → upd2 (upd2 t g m x) g m y h n ≡ upd2 t g m y h n
unfolding upd2
written_twice t g m x y h n = by (eqb g h && eqb m n)
  where
    by : (b : Bool) → cond b y (cond b x (t h n)) ≡ cond b y (t h n)
    by true = refl
    by false = refl

written : (t : Table) (g m : ℕ) (x : Option Delivery) → upd2 t g m x g m ≡ x
unfolding upd2
written t g m x = let own : (eqb g g && eqb m m) ≡ true = grind (arith, nat_tests) in rw own refl

pub keys_changed : (s r n : BTreeSet Key) (t : Table) (g m : ℕ) (d e : Delivery) → HasKeys s t → t g m ≡ Some d → HasKeyIf s r (key_at g m d) false → HasKeyIf r n (key_at g m e) true → HasKeys n (upd2 t g m (Some e))
keys_changed s r n t g m d e has there less more k =
    keys_added r n (upd2 t g m None) g m e (keys_removed s r t g m d has there less) (written t g m None) more k
    ∙ ap (has_key k) (written_twice t g m None (Some e) k.sender k.serial)

-- ---- names
pub names_written : (a b : BTreeMap Name ℕ) (t : Table) (g m : ℕ) (o : Option ℕ) (d : Option Delivery) → HasNames a t → is_some o ≡ is_some d → HasNumber a b (record { sender = g; serial = m }) o → HasNames b (upd2 t g m d)
unfolding upd2
names_written a b t g m o d has same now n = ap is_some (now n) ∙ ap (λ b. is_some (cond b o (tree.get waiting_name_cmp a n))) (is_eq-waiting_name_cmp (record { sender = g; serial = m }) n) ∙ by (eqb g n.sender && eqb m n.serial)
  where
    by : (b : Bool) → is_some (cond b o (tree.get waiting_name_cmp a n)) ≡ is_some (cond b d (t n.sender n.serial))
    by true = same
    by false = has n

pub names_kept : (a : BTreeMap Name ℕ) (t : Table) (g m : ℕ) (d e : Delivery) → HasNames a t → t g m ≡ Some d → HasNames a (upd2 t g m (Some e))
unfolding upd2
names_kept a t g m d e has there n = has n ∙ by (eqb g n.sender && eqb m n.serial) refl
  where
    by : (b : Bool) → (eqb g n.sender && eqb m n.serial) ≡ b → is_some (t n.sender n.serial) ≡ is_some (cond b (Some e) (t n.sender n.serial))
    by true is = let p = both g m n.sender n.serial is in rw (← p.0, ← p.1, there) refl
    by false is = refl

-- ---- sets of names
pub no_names : (s : BTreeSet Name) → s.keys ≡ [] → HasNamesOf s []
no_names s none n = ap (list_any (λ k. is_eq (waiting_name_cmp n k))) none

listed_last : (events : List EventHandle) (e : EventHandle) (g m : ℕ) → is_listed (events ++ e ∷ []) g m ≡ (is_listed events g m || (eqb g e.sender && eqb m e.serial))
listed_last [] e g m = by (eqb g e.sender && eqb m e.serial)
  where
    by : (b : Bool) → (b || false) ≡ b
    by true = refl
    by false = refl
listed_last (x ∷ events) e g m = by (eqb g x.sender && eqb m x.serial) (listed_last events e g m)
  where
    by : (b : Bool) → is_listed (events ++ e ∷ []) g m ≡ (is_listed events g m || (eqb g e.sender && eqb m e.serial)) → (b || is_listed (events ++ e ∷ []) g m) ≡ ((b || is_listed events g m) || (eqb g e.sender && eqb m e.serial))
    by true rest = refl
    by false rest = rest

pub names_added : (s r : BTreeSet Name) (events more : List EventHandle) (e : EventHandle) (k : Name) → HasNamesOf s events → k ≡ record { sender = e.sender; serial = e.serial } → sorted.Updates waiting_name_cmp s r k true → more ≡ events ++ e ∷ [] → HasNamesOf r more
names_added s r events more e k has is now grown n =
    (subst (λ x. sorted.Updates waiting_name_cmp s r x true) is now).0 n
    ∙ ap (λ b. cond b true (sorted.contains waiting_name_cmp s n)) (is_eq-waiting_name_cmp (record { sender = e.sender; serial = e.serial }) n)
    ∙ ap (cond (eqb e.sender n.sender && eqb e.serial n.serial) true) (has n)
    ∙ by (eqb e.sender n.sender && eqb e.serial n.serial) (eqb n.sender e.sender && eqb n.serial e.serial) (is_listed events n.sender n.serial) turned
    ∙ sym (ap (λ es. is_listed es n.sender n.serial) grown ∙ listed_last events e n.sender n.serial)
  where
    turned : (eqb e.sender n.sender && eqb e.serial n.serial) ≡ (eqb n.sender e.sender && eqb n.serial e.serial)
    turned = grind (arith, nat_tests)

    by : (a b l : Bool) → a ≡ b → cond a true l ≡ (l || b)
    by true b l same = or_true l
      where
        or_true : (l : Bool) → true ≡ (l || b)
        or_true true = refl
        or_true false = same
    by false b l same = or_false l ∙ ap (λ c. l || c) same
      where
        or_false : (l : Bool) → l ≡ (l || false)
        or_false true = refl
        or_false false = refl
