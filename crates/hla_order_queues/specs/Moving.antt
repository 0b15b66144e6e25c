-- What leaves the time-stamp order
use Rattle.std.specs.Prelude.{ℕ, ◌≤◌, eqb, ltb, ◌||◌, Bool, List, [], ◌∷◌}
use Rattle.std.specs.List.{AllByRecursion}
use Rattle.hla_base.specs.declared.content.Event.{Event}
use Rattle.hla_base.specs.Tables.{forever}

-- the stamp is below the bound, or all are to move
abbrev pub is_moved : ℕ → Event → Bool
is_moved bound e = ltb e.stamp bound || eqb bound forever

-- no stamp is below an earlier one
unfoldable pub IsRising : List Event → Type 0
IsRising [] = Unit {0}
IsRising (x ∷ xs) = AllByRecursion (λ y. x.stamp ≤ y.stamp) xs × IsRising xs
