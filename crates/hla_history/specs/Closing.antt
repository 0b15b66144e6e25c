-- A whole history, and each caller's part of it
use Rattle.std.specs.Prelude.{ℕ, ◌==◌, List, map, filter}
use Rattle.hla_machine.specs.declared.step.Record.{Record}
use Rattle.hla_components.specs.Executions.{Federations, no_federations, AreNext}
use Rattle.hla_history.specs.Heard.{given_record}

-- an actor's records, in order
abbrev pub records_by : ℕ → List Record → List Record
records_by actor rs = filter (λ (r : Record). r.actor == actor) rs

-- the records replay: from no executions the outcome and the choice of each are those of the next-state function
abbrev pub Replays : List Record → Type 0
Replays rs = (x : Federations) × AreNext no_federations (map given_record rs) x
