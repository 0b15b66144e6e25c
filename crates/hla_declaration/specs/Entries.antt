-- The entries of a list, by number
use Rattle.std.specs.Prelude.{ℕ, List}
use Rattle.std.specs.Option.{option_map_or}
use Rattle.hla_catalogue.specs.Lookup.{item_numbered}

-- the entry with a number, counted from 1; this where there is none
abbrev pub entry_at : {X : Type 0} → X → List X → ℕ → X
entry_at absent xs n = option_map_or (λ x. x) (item_numbered xs n) absent
