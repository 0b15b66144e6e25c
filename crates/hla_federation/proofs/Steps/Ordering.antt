-- Whose order may change has a number
use Rattle.std.proofs.Common.{◌≡◌, ⊎_elim, ℕ, zero, suc, ◌<◌, ◌≤◌, ◌==◌, ltb, not, ◌&&◌, ◌||◌, is_some, Bool, true, false, Option, None, Some, List, [], ◌∷◌, length, refl, sym, ap, ◌∙◌, arith}
use Rattle.std.specs.List.{list_any}
use Rattle.std.specs.Option.{option_map_or}
use Rattle.std.proofs.lemmas.Bool.{cases_Bool}
use Rattle.std.proofs.lemmas.Bool.Decides.{nat_tests}
use Rattle.hla_catalogue.specs.CatalogueValue.{CatalogueValue}
use Rattle.hla_catalogue.specs.declared.declared.Attribute.{Attribute}
use Rattle.hla_catalogue.specs.Lookup.{item_numbered, contains_number, object_lineage, has_attribute}
use Rattle.hla_catalogue.proofs.ItemLemmas.{item_numbered_past}
use Rattle.hla_object_registry.specs.Queries.{is_known_in}
use Rattle.hla_machine.specs.Registered.{Registered, registry_of}

-- an item that is there has a number from 1 to how many there are
pub item_numbered_within : {X : Type 0} (xs : List X) (n : ℕ) → is_some (item_numbered xs n) ≡ true → (0 < n) × (n ≤ length xs)
item_numbered_within xs zero is = absurd (cc)
item_numbered_within xs (suc k) is = (
  omega arith,
  ⊎_elim
      (λ (y : ltb (length xs) (suc k) ≡ true).
      let past : length xs < suc k = grind (arith, nat_tests) in
      let none = item_numbered_past xs (suc k) past in
      let no : false ≡ true = sym (ap is_some none) ∙ is in absurd (cc))
      (λ (n : ltb (length xs) (suc k) ≡ false). grind (arith, nat_tests))
      (cases_Bool (ltb (length xs) (suc k))),
)

there_if : {X : Type 0} (p : X → Bool) (o : Option X) → option_map_or p o false ≡ true → is_some o ≡ true
there_if p None is = absurd (cc)
there_if p (Some x) is = refl

had : (b rest : Bool) → not b || rest ≡ false → (b ≡ true) × (rest ≡ false)
had true rest is = (refl, is)
had false rest is = absurd (cc)

-- so has each attribute that a class has
pub attributes_numbered : (c : CatalogueValue) (class : ℕ) (attributes : List ℕ) → list_any (λ a. not (has_attribute c class a)) attributes ≡ false → (n : ℕ) → contains_number n attributes ≡ true → (0 < n) × (n ≤ length c.attributes)
attributes_numbered c class [] none n is = absurd (cc)
attributes_numbered c class (a ∷ rest) none n is =
    let parts = had (has_attribute c class a) (list_any (λ a. not (has_attribute c class a)) rest) none in
    ⊎_elim
    (λ (y : (a == n) ≡ true).
    let same : a ≡ n = grind (arith, nat_tests) in
    let within = item_numbered_within c.attributes a (there_if (λ (x : Attribute). contains_number x.class (object_lineage c class)) (item_numbered c.attributes a) parts.0) in
    (omega (arith, same, within.0), omega (arith, same, within.1)))
    (λ (other : (a == n) ≡ false). attributes_numbered c class rest parts.1 n (rw other at is))
    (cases_Bool (a == n))

-- and each object that a federate knows
pub known_numbered : (rs : List Registered) (h f : ℕ) → is_known_in (registry_of rs) f h ≡ true → 0 < h
known_numbered rs zero f known = absurd (cc)
known_numbered rs (suc k) f known = omega arith

pub known_there : (exists known : Bool) → exists && known ≡ true → exists ≡ true
known_there true known is = refl
known_there false known is = absurd (cc)

pub not_false : (b : Bool) → not b ≡ false → b ≡ true
not_false true is = refl
not_false false is = absurd (cc)
