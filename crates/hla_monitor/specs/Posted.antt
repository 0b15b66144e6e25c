-- What is seen of the board
use Rattle.std.specs.Prelude.{ℕ, Bool, List}
use Rattle.hla_machine.specs.declared.step.Record.{Record}

pub record Posted : Type 0 where
  pub whole : Bool  -- all records that were noted are shown
  pub shown : List Record
  pub published : List Record  -- what monitors read
  pub monitors : ℕ  -- how many were handed out
