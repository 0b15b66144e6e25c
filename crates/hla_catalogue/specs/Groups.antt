-- Where names are declared, in the order of the numbers. Declarations are kept by the hashes of their names
use Rattle.std.specs.Prelude.{◌≡◌, ℕ, ◌+◌, ◌==◌, ◌&&◌, Bool, false, List, [], ◌∷◌, ◌++◌, if◌then◌else◌}
use Rattle.std.specs.Hash.FoldHasher.{initial, write, finish}
use Rattle.std.specs.Option.{option_map_or}
use Rattle.std.specs.Str.{bytes_eq}
use Rattle.hla_catalogue.specs.Lookup.{item_numbered, contains_number}
use Rattle.hla_catalogue.specs.declared.groups.Declared.{Declared}

unfoldable pub name_hash : List ℕ → ℕ
name_hash name = finish (write initial name)

-- each hash, and the declarations of the names that have it
abbrev pub GroupsValue : Type 0
GroupsValue = List (ℕ × List Declared)

abbrev pub declared_number : Declared → ℕ
declared_number d = d.number

-- the declarations of the names of a hash
abbrev pub group_in : GroupsValue → ℕ → List Declared
group_in [] hash = []
group_in (e ∷ es) hash = if hash == e.0 then e.1 else group_in es hash

-- the hash has one more declaration, and every other hash has the same
abbrev pub IsNoted : GroupsValue → GroupsValue → ℕ → Declared → Type 0
IsNoted old new hash place = (other : ℕ) → group_in new other ≡ (if hash == other then group_in old other ++ place ∷ [] else group_in old other)

-- the item with this number has the name
abbrev pub is_named : {X : Type 0} → (X → List ℕ) → List X → ℕ → List ℕ → Bool
is_named name_of items number name = option_map_or (λ x. bytes_eq (name_of x) name) (item_numbered items number) false

-- the declaration is of the name, in one of the classes
abbrev pub is_declaration : {X : Type 0} → (X → List ℕ) → List X → List ℕ → List ℕ → Declared → Bool
is_declaration name_of items name classes d = contains_number d.class classes && is_named name_of items d.number name

-- the declarations of the names of a hash in a list whose first item has the number
abbrev pub declarations_with_hash : {X : Type 0} → (X → ℕ) → (X → List ℕ) → ℕ → List X → ℕ → List Declared
declarations_with_hash class_of name_of number [] hash = []
declarations_with_hash class_of name_of number (x ∷ xs) hash =
    if name_hash (name_of x) == hash then record { class = class_of x; number = number } ∷ declarations_with_hash class_of name_of (number + 1) xs hash
    else declarations_with_hash class_of name_of (number + 1) xs hash
