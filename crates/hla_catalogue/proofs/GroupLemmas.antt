-- Where names are declared.
use Rattle.std.proofs.Common.{◌≡◌, ℕ, suc, ◌+◌, ◌-◌, ◌==◌, Bool, true, false, cond, nat_eq, List, [], ◌∷◌, ◌++◌, length, slice_get, Option, None, Some, unwrap_or, refl, sym, ap, ◌∙◌, arith, ◌&&◌, Result, Ok, Err, OnOk, OnErr}
use Rattle.std.specs.Map.{lookup, set_value}
use Rattle.std.specs.Str.{bytes_eq}
use Rattle.std.specs.List.{find, position, position_from}
use Rattle.std.specs.Option.{option_map, option_map_or}
use Rattle.std.proofs.lemmas.Bool.Decides.{Decides-eqb, Decides-like, same_from_decides, nat_tests}
use Rattle.std.proofs.lemmas.Slice.Eq.{bytes_eq-Decides}
use Rattle.std.proofs.lemmas.Iterator.Adapters.{position_from-zero}
use Rattle.indexmap.specs.IndexMap.{insert_entry}
use Rattle.hla_catalogue.specs.Lookup.{item_numbered, number_at, contains_number}
use Rattle.hla_catalogue.specs.Groups.{GroupsValue, name_hash, group_in, IsNoted, is_declaration, declarations_with_hash, declared_number}
use Rattle.hla_catalogue.specs.declared.groups.Declared.{Declared}

nat_eq-comm : (a b : ℕ) → nat_eq a b ≡ nat_eq b a
nat_eq-comm a b = same_from_decides (nat_eq a b) (nat_eq b a) (Decides-eqb a b) (Decides-like (nat_eq b a) sym sym (Decides-eqb b a))

pub group_found : (es : GroupsValue) (hash : ℕ) → group_in es hash ≡ unwrap_or (lookup (nat_eq hash) es) []
group_found [] hash = refl
group_found (e ∷ es) hash = elim (nat_eq hash e.0) as (λ b. cond b e.1 (group_in es hash) ≡ unwrap_or (cond b (Some e.1) (lookup (nat_eq hash) es)) []) [ true ↦ refl | false ↦ group_found es hash ]

same_hash : (a b : ℕ) → nat_eq a b ≡ true → a ≡ b
same_hash a b e = (Decides-eqb a b).0 e

-- two names that differ are looked up in any order
swapped_tests : (hash other k : ℕ) (x y z : List Declared) (a b : Bool) → nat_eq other k ≡ a → nat_eq hash other ≡ b → nat_eq hash k ≡ false → cond a x (cond b y z) ≡ cond b y (cond a x z)
swapped_tests hash other k x y z true true ea eb differ =
    let same : nat_eq hash k ≡ true = ap (nat_eq hash) (sym (same_hash other k ea)) ∙ eb in
    absurd (let bad : ⊥ = cc in bad)
swapped_tests hash other k x y z true false ea eb differ = refl
swapped_tests hash other k x y z false b ea eb differ = refl

nested_choice : (b : Bool) (x y z : List Declared) → cond b x z ≡ cond b x (cond b y z)
nested_choice true x y z = refl
nested_choice false x y z = refl

-- the key is that of the hash
key_is_hash : (hash other k : ℕ) → nat_eq hash k ≡ true → nat_eq other k ≡ nat_eq hash other
key_is_hash hash other k e = ap (nat_eq other) (sym (same_hash hash k e)) ∙ nat_eq-comm other hash

-- a value is replaced
group_set : (es : GroupsValue) (hash other : ℕ) (g g' : List Declared) → lookup (nat_eq hash) es ≡ Some g → group_in (set_value (nat_eq hash) es g') other ≡ cond (nat_eq hash other) g' (group_in es other)
group_set [] hash other g g' h = cc
group_set (e ∷ es) hash other g g' h = by_key (nat_eq hash e.0) refl h (λ rest. group_set es hash other g g' rest)
  where
    by_key : (b : Bool) → nat_eq hash e.0 ≡ b → cond b (Some e.1) (lookup (nat_eq hash) es) ≡ Some g
        → (lookup (nat_eq hash) es ≡ Some g → group_in (set_value (nat_eq hash) es g') other ≡ cond (nat_eq hash other) g' (group_in es other))
        → group_in (cond b ((e.0, g') ∷ es) (e ∷ set_value (nat_eq hash) es g')) other ≡ cond (nat_eq hash other) g' (cond (nat_eq other e.0) e.1 (group_in es other))
    by_key true k found later = rw (key_is_hash hash other e.0 k) (nested_choice (nat_eq hash other) g' e.1 (group_in es other))
    by_key false k found later = rw (later found) (swapped_tests hash other e.0 e.1 g' (group_in es other) (nat_eq other e.0) (nat_eq hash other) refl refl k)

-- a new hash is added
group_inserted : (es : GroupsValue) (k : ℕ) (g : List Declared) (other : ℕ) → lookup (nat_eq k) es ≡ None → group_in (insert_entry nat_eq es k g) other ≡ cond (nat_eq k other) g (group_in es other)
group_inserted [] k g other h = ap (λ b. cond b g []) (nat_eq-comm other k)
group_inserted (e ∷ es) k g other h = by_key (nat_eq k e.0) refl h (λ rest. group_inserted es k g other rest)
  where
    by_key : (b : Bool) → nat_eq k e.0 ≡ b → cond b (Some e.1) (lookup (nat_eq k) es) ≡ None
        → (lookup (nat_eq k) es ≡ None → group_in (insert_entry nat_eq es k g) other ≡ cond (nat_eq k other) g (group_in es other))
        → group_in (cond b ((e.0, g) ∷ es) (e ∷ insert_entry nat_eq es k g)) other ≡ cond (nat_eq k other) g (cond (nat_eq other e.0) e.1 (group_in es other))
    by_key true e' found later = cc
    by_key false e' found later = rw (later found) (swapped_tests k other e.0 e.1 g (group_in es other) (nat_eq other e.0) (nat_eq k other) refl refl e')

-- a hash that has declarations has one more
pub noted_more : (es es' : GroupsValue) (hash : ℕ) (g g' : List Declared) (p : Declared) → Some g ≡ lookup (nat_eq hash) es → es' ≡ set_value (nat_eq hash) es g' → g' ≡ g ++ p ∷ [] → IsNoted es es' hash p
noted_more es es' hash g g' p found e more other =
    ap (λ all. group_in all other) e ∙ group_set es hash other g g' (sym found) ∙ by_name (nat_eq hash other) refl
  where
    by_name : (b : Bool) → nat_eq hash other ≡ b → cond b g' (group_in es other) ≡ cond b (group_in es other ++ p ∷ []) (group_in es other)
    by_name true same =
        let before : group_in es other ≡ g = ap (group_in es) (sym (same_hash hash other same)) ∙ group_found es hash ∙ ap (λ all. unwrap_or all []) (sym found) in
        rw before more
    by_name false same = refl

-- a hash that has none has its first
pub noted_first : (es es' : GroupsValue) (k : ℕ) (g : List Declared) (p : Declared) → None ≡ lookup (nat_eq k) es → es' ≡ insert_entry nat_eq es k g → g ≡ [] ++ p ∷ [] → IsNoted es es' k p
noted_first es es' k g p found e first other =
    ap (λ all. group_in all other) e ∙ group_inserted es k g other (sym found) ∙ by_name (nat_eq k other) refl
  where
    by_name : (b : Bool) → nat_eq k other ≡ b → cond b g (group_in es other) ≡ cond b (group_in es other ++ p ∷ []) (group_in es other)
    by_name true same =
        let before : group_in es other ≡ [] = ap (group_in es) (sym (same_hash k other same)) ∙ group_found es k ∙ ap (λ all. unwrap_or all []) (sym found) in
        rw before first
    by_name false same = refl

-- a value that is replaced by itself
pub set_same : (es es' : GroupsValue) (hash : ℕ) (g g' : List Declared) → Some g ≡ lookup (nat_eq hash) es → es' ≡ set_value (nat_eq hash) es g' → g' ≡ g → es' ≡ es
set_same es es' hash g g' found e same = e ∙ ap (set_value (nat_eq hash) es) same ∙ unset es (sym found)
  where
    unset : (all : GroupsValue) → lookup (nat_eq hash) all ≡ Some g → set_value (nat_eq hash) all g ≡ all
    unset [] h = refl
    unset (x ∷ xs) h = elim (nat_eq hash x.0) as (λ b. cond b (Some x.1) (lookup (nat_eq hash) xs) ≡ Some g → cond b ((x.0, g) ∷ xs) (x ∷ set_value (nat_eq hash) xs g) ≡ x ∷ xs) [
      | true ↦ λ at. let same : x.1 ≡ g = cc in ap (λ (v : List Declared). (x.0, v) ∷ xs) (sym same)
      | false ↦ λ later. ap (λ (r : GroupsValue). x ∷ r) (unset xs later)
    ] h

-- one more item of a list is declared
pub declared_as-append : {X : Type 0} (class_of : X → ℕ) (name_of : X → List ℕ) (n : ℕ) (xs : List X) (x : X) (hash : ℕ)
    → declarations_with_hash class_of name_of n (xs ++ x ∷ []) hash ≡ cond (nat_eq (name_hash (name_of x)) hash) (declarations_with_hash class_of name_of n xs hash ++ record { class = class_of x; number = n + length xs } ∷ []) (declarations_with_hash class_of name_of n xs hash)
declared_as-append class_of name_of n [] x hash = let e : n + 0 ≡ n = omega arith in rw e refl
declared_as-append class_of name_of n (y ∷ xs) x hash =
    let e : n + length (y ∷ xs) ≡ n + 1 + length xs = omega arith in
    let later = declared_as-append class_of name_of (n + 1) xs x hash in
    elim (nat_eq (name_hash (name_of y)) hash) as (λ b. cond b (record { class = class_of y; number = n } ∷ declarations_with_hash class_of name_of (n + 1) (xs ++ x ∷ []) hash) (declarations_with_hash class_of name_of (n + 1) (xs ++ x ∷ []) hash)
    ≡ cond (nat_eq (name_hash (name_of x)) hash) (cond b (record { class = class_of y; number = n } ∷ declarations_with_hash class_of name_of (n + 1) xs hash) (declarations_with_hash class_of name_of (n + 1) xs hash) ++ record { class = class_of x; number = n + length (y ∷ xs) } ∷ [])
    (cond b (record { class = class_of y; number = n } ∷ declarations_with_hash class_of name_of (n + 1) xs hash) (declarations_with_hash class_of name_of (n + 1) xs hash))) [
      | true ↦ rw (e, later) (either (nat_eq (name_hash (name_of x)) hash) _ _)
      | false ↦ rw (e, later) refl
    ]
  where
    either : (b : Bool) (u v : List Declared) → record { class = class_of y; number = n } ∷ cond b u v ≡ cond b (record { class = class_of y; number = n } ∷ u) (record { class = class_of y; number = n } ∷ v)
    either true u v = refl
    either false u v = refl

item_next : {X : Type 0} (all : List X) (n : ℕ) → item_numbered all (n + 1) ≡ slice_get all n
item_next all n =
    let positive : (n + 1 == 0) ≡ false = grind (arith, nat_tests) in
    let place : n + 1 - 1 ≡ n = omega arith in
    ap (λ b. cond b None (slice_get all (n + 1 - 1))) positive ∙ ap (slice_get all) place

not_both : (b : Bool) → b ≡ true → b ≡ false → ⊥
not_both true h bad = cc
not_both false bad h = cc

second_holds : (a b : Bool) → (a && b) ≡ true → b ≡ true
second_holds true b h = h
second_holds false b h = cc

module _ {X : Type 0} (class_of : X → ℕ) (name_of : X → List ℕ) (all : List X) (classes name : List ℕ) where
  abbrev is_wanted : X → Bool
  is_wanted x = contains_number (class_of x) classes && bytes_eq (name_of x) name

  abbrev first_wanted : List Declared → Option ℕ
  first_wanted ds = option_map declared_number (find (is_declaration name_of all name classes) ds)

  abbrev own : X → ℕ → Declared
  own x n = record { class = class_of x; number = n + 1 }

  wanted_itself : (x : X) (n : ℕ) → slice_get all n ≡ Some x → is_declaration name_of all name classes (own x n) ≡ is_wanted x
  wanted_itself x n at = ap (λ (o : Option X). contains_number (class_of x) classes && option_map_or (λ y. bytes_eq (name_of y) name) o false) (item_next all n ∙ at)

  by_hash : (x : X) (n : ℕ) (ds : List Declared) (place : Option ℕ) (b v : Bool) → nat_eq (name_hash (name_of x)) (name_hash name) ≡ b → is_declaration name_of all name classes (own x n) ≡ v → is_wanted x ≡ v
      → first_wanted ds ≡ number_at place → first_wanted (cond b (own x n ∷ ds) ds) ≡ number_at (cond v (Some n) place)
  by_hash x n ds place true true e d w later = ap (λ t. option_map declared_number (cond t (Some (own x n)) (find (is_declaration name_of all name classes) ds))) d
  by_hash x n ds place true false e d w later = ap (λ t. option_map declared_number (cond t (Some (own x n)) (find (is_declaration name_of all name classes) ds))) d ∙ later
  by_hash x n ds place false true e d w later =
      let same : name_of x ≡ name = (bytes_eq-Decides (name_of x) name).0 (second_holds _ _ w) in
      let equal : nat_eq (name_hash (name_of x)) (name_hash name) ≡ true = (Decides-eqb (name_hash (name_of x)) (name_hash name)).1 (ap name_hash same) in
      absurd (not_both _ equal e)
  by_hash x n ds place false false e d w later = later

  -- the first declaration of a name in some classes is the first item of the list with that name in one of them
  first_declared : (n : ℕ) (xs : List X) → ((k : ℕ) → slice_get all (n + k) ≡ slice_get xs k) → first_wanted (declarations_with_hash class_of name_of (n + 1) xs (name_hash name)) ≡ number_at (position_from is_wanted n xs)
  first_declared n [] h = refl
  first_declared n (x ∷ xs) h =
      let place : n ≡ n + 0 = omega arith in
      let behind = λ (k : ℕ). let e : n + 1 + k ≡ n + suc k = omega arith in ap (slice_get all) e ∙ h (suc k) in
      by_hash x n _ (position_from is_wanted (n + 1) xs) (nat_eq (name_hash (name_of x)) (name_hash name)) (is_wanted x) refl (wanted_itself x n (ap (slice_get all) place ∙ h 0)) refl (first_declared (n + 1) xs behind)

pub first_numbered : {X : Type 0} (class_of : X → ℕ) (name_of : X → List ℕ) (classes name : List ℕ) (xs : List X)
    → option_map declared_number (find (is_declaration name_of xs name classes) (declarations_with_hash class_of name_of 1 xs (name_hash name))) ≡ number_at (position (λ x. contains_number (class_of x) classes && bytes_eq (name_of x) name) xs)
first_numbered class_of name_of classes name xs =
    first_declared class_of name_of xs classes name 0 xs (λ k. let e : 0 + k ≡ k = omega arith in ap (slice_get xs) e) ∙ ap number_at (sym (position_from-zero (λ x. contains_number (class_of x) classes && bytes_eq (name_of x) name) xs))

-- a fact for `Ok` gives another
pub on_ok : {A E : Type 0} {P Q : Type 0} (r : Result A E) → (P → Q) → OnOk r P → OnOk r Q
on_ok (Ok x) f h = f h
on_ok (Err e) f h = h

pub on_err : {A E : Type 0} {P Q : Type 0} (r : Result A E) → (P → Q) → OnErr r P → OnErr r Q
on_err (Ok x) f h = h
on_err (Err e) f h = f h

-- the index of one more declaration
pub declared_added : {X : Type 0} (class_of : X → ℕ) (name_of : X → List ℕ) (old new : GroupsValue) (xs : List X) (x : X) → ((hash : ℕ) → group_in old hash ≡ declarations_with_hash class_of name_of 1 xs hash)
    → IsNoted old new (name_hash (name_of x)) (record { class = class_of x; number = length xs + 1 }) → (hash : ℕ) → group_in new hash ≡ declarations_with_hash class_of name_of 1 (xs ++ x ∷ []) hash
declared_added class_of name_of old new xs x h noted hash =
    let e : length xs + 1 ≡ 1 + length xs = omega arith in
    noted hash
    ∙ ap (λ ds. cond (nat_eq (name_hash (name_of x)) hash) (ds ++ record { class = class_of x; number = length xs + 1 } ∷ []) ds) (h hash)
    ∙ ap (λ n. cond (nat_eq (name_hash (name_of x)) hash) (declarations_with_hash class_of name_of 1 xs hash ++ record { class = class_of x; number = n } ∷ []) (declarations_with_hash class_of name_of 1 xs hash)) e
    ∙ sym (declared_as-append class_of name_of 1 xs x hash)
