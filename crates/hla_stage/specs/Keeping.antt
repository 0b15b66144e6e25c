-- The execution named `play`, and the history that leads to it
use Rattle.std.specs.Prelude.{◌≡◌, ◌≢◌, ℕ, List, Option, None, Some, option_map, codes}
use Rattle.hla_base.specs.declared.fault.Fault.TheVariants as fault
use Rattle.hla_components.specs.CentralOf.{central}
use Rattle.hla_components.specs.Components.{Components}
use Rattle.hla_components.specs.Next.{next}
use Rattle.hla_execution.specs.FederationValue.{FederationValue}
use Rattle.hla_execution.specs.StateOf.{state_of}
use Rattle.hla_machine.specs.Runs.{EndsAs, destroy_fault}
use Rattle.hla_machine.specs.declared.step.Step.{Step}
use Rattle.hla_machine.specs.declared.step.Act.{Act}
use Rattle.hla_machine.specs.declared.step.Outcome.{Outcome}
use Rattle.hla_machine.specs.declared.step.Outcome.TheVariants as outcome
use Rattle.hla_machine.specs.declared.step.Choice.{Choice}
use Rattle.hla_machine.specs.declared.step.Choice.TheVariants as choice
use Rattle.hla_machine.specs.declared.step.Record.{Record}
use Rattle.hla_requests.specs.declared.members.NamedFederate.{NamedFederate}
use Rattle.hla_components.specs.Executions.{Federations, no_federations, IsNext, AreNext, after_record}
use Rattle.hla_requests.specs.Members.{members, member_after}

-- the components and wires that a federation stands for
unfoldable pub components_of : FederationValue → Components
components_of f = state_of f

-- how many executions there are
abbrev pub count_of : Option Components → ℕ
count_of None = 0
count_of (Some c) = 1

-- how many executions were created so far, and the state of the one that is there
pub record Standing : Type 0 where
  pub creates : ℕ
  pub here : Option Components

abbrev pub standing : ℕ → Option FederationValue → Standing
standing creates federation = record { creates = creates; here = option_map components_of federation }

-- of all executions there is at most the one named `play`, in this state
pub record Holds (x : Federations) (s : Standing) : Type 0 where
  pub creates : x.creates ≡ s.creates
  pub present : x.present ≡ count_of s.here
  pub execution : x.execution (codes "play") ≡ s.here

-- a step in the execution ends and chooses as the next-state function says, and leads from one state to another
abbrev pub DoesNext : Option Components → Step → Outcome → Choice → Option Components → Type 0
DoesNext None s out chosen new = (out ≡ outcome.Refused fault.FederationExecutionDoesNotExist) × (chosen ≡ choice.None) × (new ≡ None)
DoesNext (Some c) s out chosen new = (out ≡ (next c s).outcome) × (chosen ≡ (next c s).choice) × (new ≡ Some (next c s).state)

-- the same, and memory was not wanting
pub record IsStepped (old : Option Components) (s : Step) (out : Outcome) (chosen : Choice) (new : Option Components) : Type 0 where
  pub remembered : out ≢ outcome.Refused fault.OutOfMemory
  pub does : DoesNext old s out chosen new

abbrev pub execution_after_destroy : Option Components → Outcome → Option Components
execution_after_destroy here (outcome.Done a) = None
execution_after_destroy here out = here

-- the execution is destroyed where it may be, and left as it is otherwise
pub record IsDestroyed (old : Option Components) (out : Outcome) (new : Option Components) : Type 0 where
  pub ends : EndsAs (destroy_fault (option_map central old)) out
  pub follows : new ≡ execution_after_destroy old out

-- a record says what the next-state function says, which leads from one state of the execution to another
pub record Leads (r : Record) (old new : Standing) : Type 0 where
  pub next : (x : Federations) → Holds x old → IsNext x r
  pub follows : (x : Federations) → Holds x old → Holds (after_record x r) new

-- a record of an act leads from one state and its members to others
pub record IsActed (act : Act) (old : Standing) (joined : List NamedFederate) (r : Record) (new : Standing) (joined_then : List NamedFederate) : Type 0 where
  pub same : r ≡ record { actor = 0; execution = codes "play"; act = act; outcome = r.outcome; choice = r.choice }
  pub remembered : r.outcome ≢ outcome.Refused fault.OutOfMemory
  pub members : joined_then ≡ member_after joined act r.outcome
  pub leads : Leads r old new

-- the records are, one after another, those of the next-state function from no executions, and they lead to this state and these members
pub record IsKept (records : List Record) (now : Standing) (joined : List NamedFederate) : Type 0 where
  pub executions : Federations
  pub next : AreNext no_federations records executions
  pub holds : Holds executions now
  pub joins : joined ≡ members records
