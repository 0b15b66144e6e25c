-- Names of objects
use Rattle.std.proofs.Common.{◌≡◌, ◌≢◌, ℕ, zero, suc, ◌+◌, ◌-◌, ◌<◌, ◌≤◌, List, [], ◌∷◌, ◌++◌, length, get_or, cond, not, eqb, ◌&&◌, true, false, Bool, Option, Some, None, is_some, refl, sym, ap, subst, ◌∙◌, arith, ne_eqb, ⊎_elim, true≢false, position}
use Rattle.std.specs.List.{IsDistinct}
use Rattle.std.specs.Map.{lookup, keys_of}
use Rattle.std.specs.Str.{bytes_eq}
use Rattle.std.specs.declared.vec.Vec.{Vec}
use Rattle.std.specs.declared.alloc.Global.{Global}
use Rattle.std.proofs.lemmas.Bool.{cases_Bool, cases_lt, cases_eq}
use Rattle.std.proofs.lemmas.Bool.Decides.{same_from_decides, Decides-like}
use Rattle.std.proofs.lemmas.List.Quantifiers.{position-Some}
use Rattle.std.proofs.lemmas.Map.Entries.{length-keys_of}
use Rattle.std.proofs.lemmas.Map.Keys.{apart_from_distinct}
use Rattle.std.proofs.lemmas.Slice.Eq.{bytes_eq-Decides}
use Rattle.indexmap.specs.IndexMap.{insert_entry}
use Rattle.hla_object_registry.specs.declared.entry.Entry.{Entry}
use Rattle.hla_machine.specs.Registered.{Registered, unregistered_object, item_at, registry_of}
use Rattle.hla_object_registry.specs.Queries.{is_name_used_in, is_known_in, object_found}
use Rattle.hla_object_registry.specs.Entries.{registered_objects, name_at, IsUnused, IsNumberOf}
use Rattle.hla_object_registry.proofs.Items.{item-suc}
use Rattle.hla_object_registry.proofs.Numbers.{any_none, any_at, any_each, find_none, find_only}
use Rattle.hla_object_registry.proofs.EntryLemmas.{Entries, length-registered}

abbrev pub is_named_key : List ℕ → Vec ℕ Global → Bool
is_named_key name k = bytes_eq name k.items

abbrev pub same_key : Vec ℕ Global → Vec ℕ Global → Bool
same_key a b = bytes_eq a.items b.items

bytes_eq-comm : (a b : List ℕ) → bytes_eq a b ≡ bytes_eq b a
bytes_eq-comm a b = same_from_decides (bytes_eq a b) (bytes_eq b a) (bytes_eq-Decides a b) (Decides-like (bytes_eq b a) sym sym (bytes_eq-Decides b a))

same_bytes : (a b : List ℕ) → bytes_eq a b ≡ true → a ≡ b
same_bytes a b = (bytes_eq-Decides a b).0

-- ---- the keys of the entries are the names
key_name : (es : Entries) (k : ℕ) (d : Vec ℕ Global) → k < length es → name_at (registered_objects es) k ≡ (get_or (keys_of es) k d).items
key_name [] k d below = absurd (omega arith)
key_name (e ∷ es) zero d below = refl
key_name (e ∷ es) (suc k) d below = key_name es k d (omega arith)

pub missing : (es : Entries) (name : List ℕ) → lookup (is_named_key name) es ≡ None → IsUnused (registered_objects es) name
missing [] name h k below = absurd (omega arith)
missing (e ∷ es) name h k below = by k below (bytes_eq name e.0.items) refl h (missing es name)
  where
    by : (k : ℕ) → k < length (registered_objects (e ∷ es)) → (b : Bool) → bytes_eq name e.0.items ≡ b → cond b (Some e.1) (lookup (is_named_key name) es) ≡ None
        → (lookup (is_named_key name) es ≡ None → IsUnused (registered_objects es) name) → bytes_eq (name_at (registered_objects (e ∷ es)) k) name ≡ false
    by k l true y bad rest = cc
    by zero l false n later rest = bytes_eq-comm e.0.items name ∙ n
    by (suc k) l false n later rest = rest later k (omega arith)

pub not_looked_up : (es : Entries) (name : List ℕ) → IsUnused (registered_objects es) name → lookup (is_named_key name) es ≡ None
not_looked_up [] name unused = refl
not_looked_up (e ∷ es) name unused =
    let here : bytes_eq name e.0.items ≡ false = bytes_eq-comm name e.0.items ∙ unused 0 (omega arith) in
    rw here (not_looked_up es name (λ k below. unused (suc k) (omega arith)))

pub none_from : {X : Type 0} (o : Option X) → false ≡ is_some o → o ≡ None
none_from None h = refl
none_from (Some x) h = absurd (true≢false (sym h))

-- the place of a key is that of the one object of the name
pub found_at : (es : Entries) (name : List ℕ) (i : ℕ) → Some i ≡ position (is_named_key name) (keys_of es) → IsDistinct same_key (keys_of es) → IsNumberOf (registered_objects es) name (i + 1)
found_at [] name i h distinct = cc
found_at (e ∷ es) name i h distinct =
    let rs = registered_objects (e ∷ es) in
    let ks = keys_of (e ∷ es) in
    let p = position-Some (is_named_key name) ks i e.0 (sym h) in
    let same_length : length rs ≡ length (e ∷ es) = length-registered (e ∷ es) in
    let keys : length ks ≡ length (e ∷ es) = length-keys_of (e ∷ es) in
    let within : i < length rs = omega (arith, p.0, same_length, keys) in
    let here : name ≡ (get_or ks i e.0).items = same_bytes name _ p.1 in
    let back : i + 1 - 1 ≡ i = omega arith in
    record {
      some = omega arith;
      within = omega (arith, within);
      named = ap (λ n. bytes_eq (name_at rs n) name) back ∙ ap (λ n. bytes_eq n name) (key_name (e ∷ es) i e.0 (omega (arith, within, same_length))) ∙ bytes_eq-comm _ name ∙ p.1;
      only = λ k below passes.
          let there : name_at rs k ≡ (get_or ks k e.0).items = key_name (e ∷ es) k e.0 (omega (arith, below, same_length)) in
          let same : (get_or ks k e.0).items ≡ name = sym there ∙ same_bytes _ name passes in
          let both : bytes_eq (get_or ks k e.0).items (get_or ks i e.0).items ≡ true = ap (λ n. bytes_eq n (get_or ks i e.0).items) same ∙ p.1 in
          ⊎_elim
          (λ (eq : k ≡ i). ap (λ n. n + 1) eq)
          (λ (ne : k ≢ i). absurd (⊎_elim
          (λ (l : k < i). true≢false (sym both ∙ apart_from_distinct same_key ks k i e.0 distinct l p.0))
          (λ (g : i ≤ k). true≢false (sym (bytes_eq-comm (get_or ks i e.0).items (get_or ks k e.0).items ∙ both) ∙ apart_from_distinct same_key ks i k e.0 distinct (omega arith) (omega (arith, below, same_length, keys))))
          (cases_lt k i)))
          (cases_eq k i);
    }

-- ---- names among the numbers
and_false : (a b : Bool) → b ≡ false → (a && b) ≡ false
and_false true b h = h
and_false false b h = refl

and_true : (a b : Bool) → a ≡ true → b ≡ true → (a && b) ≡ true
and_true true b h g = g
and_true false b h g = absurd (true≢false (sym h))

and_first : (a b : Bool) → (a && b) ≡ true → a ≡ true
and_first true b h = refl
and_first false b h = h

and_second : (a b : Bool) → (a && b) ≡ true → b ≡ true
and_second true b h = h
and_second false b h = absurd (true≢false (sym h))

module _ (rs : List Registered) (name : List ℕ) where
  name_of : (k : ℕ) → (item_at unregistered_object rs (suc k)).object.name ≡ name_at rs k
  name_of k = ap (λ (r : Registered). r.object.name) (item-suc unregistered_object rs k)

  is_named : (h : ℕ) → 0 < h → bytes_eq (item_at unregistered_object rs h).object.name name ≡ bytes_eq (name_at rs (h - 1)) name
  is_named zero some = absurd (omega arith)
  is_named (suc k) some = let back : suc k - 1 ≡ k = omega arith in ap (λ n. bytes_eq n name) (name_of k) ∙ ap (λ n. bytes_eq (name_at rs n) name) (sym back)

  test_unused : IsUnused rs name → (a : ℕ → Bool) → a 0 ≡ false → (j : ℕ) → j < length rs + 1 → (a j && bytes_eq (item_at unregistered_object rs j).object.name name) ≡ false
  test_unused unused a first zero below = ap (λ b. b && bytes_eq (item_at unregistered_object rs 0).object.name name) first
  test_unused unused a first (suc k) below = and_false (a (suc k)) _ (ap (λ n. bytes_eq n name) (name_of k) ∙ unused k (omega arith))

  test_only : (h : ℕ) → IsNumberOf rs name h → (a : ℕ → Bool) → a 0 ≡ false → (j : ℕ) → j < length rs + 1 → (a j && bytes_eq (item_at unregistered_object rs j).object.name name) ≡ true → j ≡ h
  test_only h only a first zero below passes = absurd (true≢false (sym passes ∙ ap (λ b. b && bytes_eq (item_at unregistered_object rs 0).object.name name) first))
  test_only h only a first (suc k) below passes = let next : k + 1 ≡ h = only.only k (omega arith) (ap (λ n. bytes_eq n name) (sym (name_of k)) ∙ and_second (a (suc k)) _ passes) in omega arith

  test_at : (h : ℕ) → IsNumberOf rs name h → (a : ℕ → Bool) → a h ≡ true → (a h && bytes_eq (item_at unregistered_object rs h).object.name name) ≡ true
  test_at h only a passes = and_true (a h) _ passes (is_named h only.some ∙ only.named)

  nonzero : (h : ℕ) → 0 < h → not (eqb h 0) ≡ true
  nonzero h some = let e : eqb h 0 ≡ false = ne_eqb h 0 (λ z. absurd (omega arith)) in rw e refl

  pub not_used : IsUnused rs name → is_name_used_in (registry_of rs) name ≡ false
  not_used unused = any_none _ _ (test_unused unused (λ h. not (eqb h 0)) refl)

  pub used : (h : ℕ) → IsNumberOf rs name h → is_name_used_in (registry_of rs) name ≡ true
  used h only = any_at _ _ h (test_at h only (λ h. not (eqb h 0)) (nonzero h only.some)) (let within : h ≤ length rs = only.within in omega arith)

  pub unused_from : is_name_used_in (registry_of rs) name ≡ false → IsUnused rs name
  unused_from none k below =
      let each = any_each (λ h. not (eqb h 0) && bytes_eq (item_at unregistered_object rs h).object.name name) (length rs + 1) none (suc k) (omega arith) in
      ⊎_elim
      (λ (named : bytes_eq (name_at rs k) name ≡ true). absurd (true≢false (sym (and_true (not (eqb (suc k) 0)) _ (nonzero (suc k) (omega arith)) (ap (λ n. bytes_eq n name) (name_of k) ∙ named)) ∙ each)))
      (λ (other : bytes_eq (name_at rs k) name ≡ false). other)
      (cases_Bool (bytes_eq (name_at rs k) name))

  module _ (f : ℕ) where
    pub named_none : IsUnused rs name → object_found (registry_of rs) f name ≡ None
    named_none unused = find_none _ _ (test_unused unused (λ h. is_known_in (registry_of rs) f h) refl)

    pub named_known : (h : ℕ) → IsNumberOf rs name h → is_known_in (registry_of rs) f h ≡ true → object_found (registry_of rs) f name ≡ Some h
    named_known h only passes =
        find_only _ _ h (test_at h only (λ h. is_known_in (registry_of rs) f h) passes) (let within : h ≤ length rs = only.within in omega arith) (test_only h only (λ h. is_known_in (registry_of rs) f h) refl)

    pub named_unknown : (h : ℕ) → IsNumberOf rs name h → is_known_in (registry_of rs) f h ≡ false → object_found (registry_of rs) f name ≡ None
    named_unknown h only fails = find_none _ _ (λ j below. ⊎_elim
        (λ (passes : (is_known_in (registry_of rs) f j && bytes_eq (item_at unregistered_object rs j).object.name name) ≡ true).
        let same : j ≡ h = test_only h only (λ h. is_known_in (registry_of rs) f h) refl j below passes in
        absurd (true≢false (sym (and_first (is_known_in (registry_of rs) f j) _ passes) ∙ ap (λ n. is_known_in (registry_of rs) f n) same ∙ fails)))
        (λ (other : (is_known_in (registry_of rs) f j && bytes_eq (item_at unregistered_object rs j).object.name name) ≡ false). other)
        (cases_Bool (is_known_in (registry_of rs) f j && bytes_eq (item_at unregistered_object rs j).object.name name)))

-- a name that no object has is entered last
pub entry_inserted_last : (es : Entries) (rs : List Registered) (name : List ℕ) (k : Vec ℕ Global) (v : Entry) → registered_objects es ≡ rs → k.items ≡ name → is_name_used_in (registry_of rs) name ≡ false
    → insert_entry same_key es k v ≡ es ++ (k, v) ∷ []
entry_inserted_last es rs name k v view same unused = absent_inserted es k v (ap (λ n. lookup (is_named_key n) es) same ∙ not_looked_up es name (let P : List Registered → Type 0 = λ l. IsUnused l name in subst P (sym view) (unused_from rs name unused)))
  where
    absent_inserted : (all : Entries) (k : Vec ℕ Global) (v : Entry) → lookup (is_named_key k.items) all ≡ None → insert_entry same_key all k v ≡ all ++ (k, v) ∷ []
    absent_inserted [] k v h = refl
    absent_inserted (e ∷ all) k v h = elim (bytes_eq k.items e.0.items) as (λ b. cond b (Some e.1) (lookup (is_named_key k.items) all) ≡ None → cond b ((e.0, v) ∷ all) (e ∷ insert_entry same_key all k v) ≡ e ∷ (all ++ (k, v) ∷ [])) [
      | true ↦ λ bad. cc
      | false ↦ λ none. ap (λ (r : Entries). e ∷ r) (absent_inserted all k v none)
    ] h
