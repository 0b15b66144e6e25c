-- Sets of federates, by their numbers
use Rattle.std.specs.Prelude.{◌≡◌, ℕ, ◌+◌, ◌<◌, ◌^◌, ◌==◌, Bool}
use Rattle.std.specs.Int.{bit_at}
use Rattle.hla_base.specs.Limits.{max_joins}

-- which numbers are in the set that the bits of a number stand for
abbrev pub federate_set : ℕ → ℕ → Bool
federate_set bits = λ f. bit_at bits f == 1

-- a bit for each number that a federate may have, and one for 0, which is not in the set
pub record AreFederateBits (bits : ℕ) : Type 0 where
  pub below : bits < 2 ^ (max_joins + 1)
  pub none_at_zero : bit_at bits 0 ≡ 0
