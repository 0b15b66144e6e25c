-- What contracts see of a floor
use Rattle.std.specs.Prelude.{ℕ}

pub record FloorValue : Type 0 where
  pub floor : ℕ  -- what the federate sends in time-stamp order is at or above it
  pub lookahead : ℕ
