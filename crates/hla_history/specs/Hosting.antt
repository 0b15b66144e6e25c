-- One execution under the lock, as its code keeps it
use Rattle.std.specs.Prelude.{◌≡◌, ℕ, true, List, Option, None, Some, find, get_or, slice_get, option_map, map}
use Rattle.std.specs.Str.{bytes_eq}
use Rattle.hla_base.specs.declared.fault.Fault.TheVariants as fault
use Rattle.hla_callbacks.specs.declared.callback.Callback.{Callback}
use Rattle.hla_callbacks.specs.Hearing.{Hearing}
use Rattle.hla_machine.specs.declared.step.Step.{Step}
use Rattle.hla_machine.specs.declared.step.Step.TheVariants.{Tick}
use Rattle.hla_machine.specs.declared.step.Act.{Act}
use Rattle.hla_machine.specs.declared.step.Act.TheVariants as act
use Rattle.hla_machine.specs.declared.step.Outcome.{Outcome}
use Rattle.hla_machine.specs.declared.step.Outcome.TheVariants as outcome
use Rattle.hla_machine.specs.declared.step.Choice.{Choice}
use Rattle.hla_machine.specs.declared.step.Choice.TheVariants as choice
use Rattle.hla_components.specs.Components.{Components}
use Rattle.hla_components.specs.Next.{next}
use Rattle.hla_execution.specs.FederationValue.{FederationValue}
use Rattle.hla_execution.specs.StateOf.{state_of}
use Rattle.hla_history.specs.Heard.{given_outcome}
use Rattle.hla_machine.specs.declared.step.Record.{Record}
use Rattle.hla_history.specs.Hosts.{Host, Hosts, Held, HostTable, HeardTable, with_callback}

-- the components and wires that a federation under the lock stands for
unfoldable pub components_hosted : FederationValue → Components
components_hosted f = state_of f

-- what an ear has heard
abbrev pub heard_in : Option Hearing → Option (List Callback)
heard_in None = None
heard_in (Some e) = Some e.heard

abbrev pub heard_of : List (Option Hearing) → List (Option (List Callback))
heard_of ears = map heard_in ears

-- which ambassador an ear has
abbrev pub tag_in : Option Hearing → Option ℕ
tag_in None = None
tag_in (Some e) = Some e.tag

abbrev pub tags_of : List (Option Hearing) → List (Option ℕ)
tags_of ears = map tag_in ears

-- what is heard by ears that stand by number
abbrev pub heard_table : List (Option (List Callback)) → HeardTable
heard_table heard = λ f. get_or heard f None

-- an execution as contracts see it
pub record HostedValue : Type 0 where
  pub name : List ℕ
  pub federation : FederationValue
  pub heard : List (Option (List Callback))
  pub tags : List (Option ℕ)

abbrev pub host_of : HostedValue → Host
host_of h = record { components = components_hosted h.federation; heard = heard_table h.heard }

-- which execution a name means
abbrev pub table_of : List HostedValue → HostTable
table_of hs = λ name. option_map host_of (find (λ (h : HostedValue). bytes_eq name h.name) hs)

-- ---- a callback, and the ear that takes it
-- the act is a tick of a federate whose ear has room
abbrev pub HasReadyEar : Act → List (Option Hearing) → Type 0
HasReadyEar (act.Step (Tick f)) ears = (e : Hearing) × (slice_get ears f ≡ Some (Some e)) × (e.room ≡ true)
HasReadyEar a ears = ⊥

-- where the step is a tick of a federate with an ear, the ear has room
abbrev pub IsReady : Step → List (Option Hearing) → Type 0
IsReady (Tick f) ears = (e : Hearing) → slice_get ears f ≡ Some (Some e) → e.room ≡ true
IsReady step ears = Unit {0}

-- the callback, if there is one, can be delivered
abbrev pub CanDeliver : Option Callback → Act → List (Option Hearing) → Type 0
CanDeliver None a ears = Unit {0}
CanDeliver (Some k) a ears = HasReadyEar a ears

-- what is heard after an act that gives this callback, if it gives any
abbrev pub heard_then_of : HeardTable → Act → Option Callback → HeardTable
heard_then_of t a None = t
heard_then_of t (act.Step (Tick f)) (Some k) = with_callback t f (Some k)
heard_then_of t a (Some k) = t

-- ---- an act of one execution
-- the components after it
abbrev pub components_after : Components → Act → Components
components_after c (act.Step step) = (next c step).state
components_after c a = c

-- an outcome is how the step of an act ends
abbrev pub IsEndOfAct : Components → Act → Outcome → Type 0
IsEndOfAct c (act.Step step) out = out ≡ (next c step).outcome
IsEndOfAct c a out = ⊥

abbrev pub IsStepAct : Act → Type 0
IsStepAct (act.Step step) = Unit {0}
IsStepAct a = ⊥

-- ---- an act of one of several executions
-- a step ends and chooses as the next-state function says; without an execution it is refused
abbrev pub EndsIn : Option Host → Step → Outcome → Choice → Type 0
EndsIn None step out chosen = (out ≡ outcome.Refused fault.FederationExecutionDoesNotExist) × (chosen ≡ choice.None)
EndsIn (Some h) step out chosen = (given_outcome out ≡ (next h.components step).outcome) × (chosen ≡ (next h.components step).choice)

-- the value under the lock as contracts see it
pub record HeldValue : Type 0 where
  pub history : List Record
  pub limit : ℕ
  pub creates : ℕ
  pub present : ℕ
  pub executions : List HostedValue

abbrev pub hosts_of : ℕ → ℕ → List HostedValue → Hosts
hosts_of creates present executions = record { creates = creates; present = present; host = table_of executions }

abbrev pub held_of : HeldValue → Held
held_of v = record { history = v.history; limit = v.limit; hosts = hosts_of v.creates v.present v.executions }
