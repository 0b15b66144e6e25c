-- All executions by name, over the components: how each act ends, what it chooses, and the executions after it
use Rattle.std.specs.Prelude.{ℕ, ◌+◌, ◌≡◌, ◌-◌, cond, Option, Some, None, option_map, List, [], ◌∷◌}
use Rattle.std.specs.Str.{bytes_eq}
use Rattle.hla_base.specs.declared.fault.Fault.{Fault}
use Rattle.hla_base.specs.declared.fault.Fault.TheVariants as fault
use Rattle.hla_catalogue.specs.CatalogueValue.{CatalogueValue}
use Rattle.hla_machine.specs.declared.step.Act.{Act}
use Rattle.hla_machine.specs.declared.step.Act.TheVariants as act
use Rattle.hla_machine.specs.declared.step.Answer.TheVariants as answer
use Rattle.hla_machine.specs.declared.step.Outcome.{Outcome}
use Rattle.hla_machine.specs.declared.step.Outcome.TheVariants as outcome
use Rattle.hla_machine.specs.declared.step.Choice.{Choice}
use Rattle.hla_machine.specs.declared.step.Choice.TheVariants as choice
use Rattle.hla_machine.specs.declared.step.Step.{Step}
use Rattle.hla_machine.specs.declared.step.Record.{Record}
use Rattle.hla_machine.specs.Runs as machine
use Rattle.hla_machine.specs.Runs.{create_fault, destroy_fault, AreRun}
use Rattle.hla_machine.specs.Histories.{AreDiscoveredInTurn}
use Rattle.hla_components.specs.Components.{Components, new_components}
use Rattle.hla_components.specs.CentralOf.{central}
use Rattle.hla_components.specs.Next.{next}

pub record Federations : Type 0 where
  pub creates : ℕ  -- how many were ever created
  pub present : ℕ  -- how many there are now
  pub execution : List ℕ → Option Components

abbrev pub no_federations : Federations
no_federations = record { creates = 0; present = 0; execution = λ _. None }

-- the machine's executions that they stand for
abbrev pub central_executions : Federations → machine.Executions
central_executions x = record { creates = x.creates; present = x.present; execution = λ name. option_map central (x.execution name) }

abbrev pub set_federation : Federations → List ℕ → Option Components → List ℕ → Option Components
set_federation x name s = λ other. cond (bytes_eq name other) s (x.execution other)

-- ---- what an act makes of the executions, where it is not refused
abbrev pub with_created : Federations → List ℕ → Option CatalogueValue → Federations
with_created x name None = x
with_created x name (Some catalogue) = record { creates = x.creates + 1; present = x.present + 1; execution = set_federation x name (Some (new_components catalogue)) }

abbrev pub with_destroyed : Federations → List ℕ → Federations
with_destroyed x name = record { creates = x.creates; present = x.present - 1; execution = set_federation x name None }

-- ---- the next-state function
pub record Ending : Type 0 where
  pub outcome : Outcome
  pub choice : Choice
  pub executions : Federations

-- an act that answers nothing ends with the fault that the machine gives, or is done
abbrev pub ending_unless : Option Fault → Federations → Federations → Ending
ending_unless None x y = record { outcome = outcome.Done answer.Done; choice = choice.None; executions = y }
ending_unless (Some e) x y = record { outcome = outcome.Refused e; choice = choice.None; executions = x }

-- a step ends as the components' next-state function says; without an execution it is refused
abbrev pub step_in : Federations → List ℕ → Option Components → Step → Ending
step_in x name None step = record { outcome = outcome.Refused fault.FederationExecutionDoesNotExist; choice = choice.None; executions = x }
step_in x name (Some s) step = record {
  outcome = (next s step).outcome;
  choice = (next s step).choice;
  executions = record { creates = x.creates; present = x.present; execution = set_federation x name (Some (next s step).state) };
}

abbrev pub next_act : Federations → List ℕ → Act → Ending
next_act x name (act.Create catalogue) = ending_unless (create_fault (central_executions x) name catalogue) x (with_created x name catalogue)
next_act x name act.Destroy = ending_unless (destroy_fault (option_map central (x.execution name))) x (with_destroyed x name)
next_act x name (act.Step step) = step_in x name (x.execution name) step

abbrev pub after_record : Federations → Record → Federations
after_record x r = (next_act x r.execution r.act).executions

-- ---- records
-- a record says how its act ends and what it chooses
pub record IsNext (x : Federations) (r : Record) : Type 0 where
  pub outcome : r.outcome ≡ (next_act x r.execution r.act).outcome
  pub choice : r.choice ≡ (next_act x r.execution r.act).choice

-- one after another the records say what the next-state function says, and lead from x to y
abbrev pub AreNext : Federations → List Record → Federations → Type 0
AreNext x [] y = x ≡ y
AreNext x (r ∷ rs) y = IsNext x r × AreNext (after_record x r) rs y

-- such records from no executions are a run of the machine
abbrev pub EachNextIsARun : Type 0
EachNextIsARun = (records : List Record) (x : Federations) → AreNext no_federations records x → AreRun machine.no_executions records (central_executions x)

-- and in each execution each object is discovered first, and once
abbrev pub EachHistoryDiscoversInTurn : Type 0
EachHistoryDiscoversInTurn = (records : List Record) (x : Federations) → AreNext no_federations records x → AreDiscoveredInTurn records
