-- Orders that were changed, by number
use Rattle.std.specs.Prelude.{◌≡◌, ℕ, ◌<◌, ◌≤◌, cond, true, Option, None, Some, List}
use Rattle.std.specs.Option.{option_map_or}
use Rattle.hla_catalogue.specs.declared.declared.Order.{Order}
use Rattle.hla_catalogue.specs.Lookup.{item_numbered, contains_number}

-- the order that a number was given, counted from 1; none where it has no place
abbrev pub order_at : List (Option Order) → ℕ → Option Order
order_at orders n = option_map_or (λ o. o) (item_numbered orders n) None

-- these numbers are given an order, and the others keep theirs
abbrev pub orders_given : (ℕ → Option Order) → List ℕ → Order → ℕ → Option Order
orders_given orders numbers order = λ n. cond (contains_number n numbers) (Some order) (orders n)

-- each of these numbers is one from 1 to another
abbrev pub AreUpTo : ℕ → List ℕ → Type 0
AreUpTo count numbers = (n : ℕ) → contains_number n numbers ≡ true → (0 < n) × (n ≤ count)
