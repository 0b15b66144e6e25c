-- Names and their numbers, in the order in which they came
use Rattle.std.specs.Prelude.{ℕ, List, [], ◌∷◌, ◌++◌, Option, None, Some, is_some, if◌then◌else◌}
use Rattle.std.specs.Str.{bytes_eq}
use Rattle.std.specs.declared.vec.Vec.{Vec}
use Rattle.std.specs.declared.alloc.Global.{Global}

abbrev pub Numbered : Type 0
Numbered = List (List ℕ × ℕ)

-- the entries of a map from bytes, with the bytes alone
abbrev pub numbers_of_names : List (Vec ℕ Global × ℕ) → Numbered
numbers_of_names [] = []
numbers_of_names (e ∷ es) = (e.0.items, e.1) ∷ numbers_of_names es

-- the number of the first of this name
abbrev pub number_named : Numbered → List ℕ → Option ℕ
number_named [] name = None
number_named (e ∷ es) name = if bytes_eq name e.0 then Some e.1 else number_named es name

-- a name that has no number takes this one
abbrev pub with_number : Numbered → List ℕ → ℕ → Numbered
with_number names name number = if is_some (number_named names name) then names else names ++ (name, number) ∷ []
