-- What is seen of an ear
use Rattle.std.specs.Prelude.{ℕ, List, Bool}
use Rattle.hla_callbacks.specs.declared.callback.Callback.{Callback}

-- the callbacks that its ambassador has heard, in order, whether there is room for one more, and which ambassador it is
pub record Hearing : Type 0 where
  pub heard : List Callback
  pub room : Bool
  pub tag : ℕ
