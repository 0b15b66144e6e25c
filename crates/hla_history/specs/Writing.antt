-- The record of a step, as it is written into its place
use Rattle.std.specs.Prelude.{ℕ, List, Option, None, Some}
use Rattle.hla_machine.specs.declared.step.Step.{Step}
use Rattle.hla_machine.specs.declared.step.Act.TheVariants as act
use Rattle.hla_machine.specs.declared.step.Outcome.{Outcome}
use Rattle.hla_machine.specs.declared.step.Choice.{Choice}
use Rattle.hla_machine.specs.declared.step.Choice.TheVariants as choice
use Rattle.hla_machine.specs.declared.step.Record.{Record}
use Rattle.hla_components.specs.Next.{next}
use Rattle.hla_history.specs.Hosts.{Host}

-- the record of a step that ended and chose so
abbrev pub step_record : ℕ → List ℕ → Step → Outcome → Choice → Record
step_record actor name step out chosen = record { actor = actor; execution = name; act = act.Step step; outcome = out; choice = chosen }

-- what a step of an execution chooses; nothing where there is none
abbrev pub chosen_in : Option Host → Step → Choice
chosen_in None step = choice.None
chosen_in (Some h) step = (next h.components step).choice

-- a record with another outcome
abbrev pub with_outcome : Record → Outcome → Record
with_outcome r out = record { actor = r.actor; execution = r.execution; act = r.act; outcome = out; choice = r.choice }
