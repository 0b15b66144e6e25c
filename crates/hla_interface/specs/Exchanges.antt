-- What couriers do: they have federates announce their promises, and carry what is on the wires
use Rattle.std.specs.Prelude.{◌≡◌, ◌⊎◌, ℕ}
use Rattle.hla_machine.specs.declared.step.Act.{Act}
use Rattle.hla_machine.specs.declared.step.Act.TheVariants as act
use Rattle.hla_machine.specs.declared.step.Record.{Record}
use Rattle.hla_machine.specs.declared.step.Step.TheVariants as step

-- an act by which federates exchange what they have for each other: an announcement or a carry
abbrev pub IsExchangeAct : Act → Type 0
IsExchangeAct a = ((f : ℕ) × (a ≡ act.Step (step.Announce f))) ⊎ ((from : ℕ) × (to : ℕ) × (a ≡ act.Step (step.Carry from to)))

-- a record of such an act
abbrev pub IsExchange : Record → Type 0
IsExchange r = IsExchangeAct r.act
