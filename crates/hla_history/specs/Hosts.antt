-- The executions under the lock, their federates' ambassadors, and the history that leads to them
use Rattle.std.specs.Prelude.{ℕ, ◌+◌, ◌-◌, ◌≡◌, cond, List, [], ◌∷◌, ◌++◌, Option, None, Some, option_map, is_some, map, length}
use Rattle.std.specs.Str.{bytes_eq}
use Rattle.hla_base.specs.Tables.{upd}
use Rattle.hla_catalogue.specs.CatalogueValue.{CatalogueValue}
use Rattle.hla_callbacks.specs.declared.callback.Callback.{Callback}
use Rattle.hla_machine.specs.declared.service.Service.TheVariants as service
use Rattle.hla_machine.specs.declared.step.Step.{Step}
use Rattle.hla_machine.specs.declared.step.Step.TheVariants.{Join, Call, Tick}
use Rattle.hla_machine.specs.declared.step.Act.{Act}
use Rattle.hla_machine.specs.declared.step.Act.TheVariants as act
use Rattle.hla_machine.specs.declared.step.Answer.TheVariants as answer
use Rattle.hla_machine.specs.declared.step.Outcome.{Outcome}
use Rattle.hla_machine.specs.declared.step.Outcome.TheVariants as outcome
use Rattle.hla_machine.specs.declared.step.Record.{Record}
use Rattle.hla_components.specs.Components.{Components, new_components}
use Rattle.hla_components.specs.Next.{next}
use Rattle.hla_components.specs.Executions.{Federations, no_federations, AreNext}
use Rattle.hla_history.specs.Heard.{given_record, callback_in, heard_by}

-- what the ambassador of each federate has heard that has one, by number
abbrev pub HeardTable : Type 0
HeardTable = ℕ → Option (List Callback)

-- one execution: its components, and what the ambassadors have heard
pub record Host : Type 0 where
  pub components : Components
  pub heard : HeardTable

-- executions by name
abbrev pub HostTable : Type 0
HostTable = List ℕ → Option Host

pub record Hosts : Type 0 where
  pub creates : ℕ  -- how many were ever created
  pub present : ℕ  -- how many there are now
  pub host : HostTable

-- the value under the lock
pub record Held : Type 0 where
  pub history : List Record
  pub limit : ℕ  -- how many records the history may hold
  pub hosts : Hosts

abbrev pub no_hosts : Hosts
no_hosts = record { creates = 0; present = 0; host = λ _. None }

abbrev pub new_host : CatalogueValue → Host
new_host catalogue = record { components = new_components catalogue; heard = λ _. None }

-- no joining and no resigning
abbrev pub IsPlain : Step → Type 0
IsPlain (Join name) = ⊥
IsPlain (Call f (service.Resign way)) = ⊥
IsPlain step = Unit {0}

-- ---- what a record makes of them
abbrev pub with_callback : HeardTable → ℕ → Option Callback → HeardTable
with_callback t f None = t
with_callback t f (Some k) = upd t f (option_map (λ (ks : List Callback). ks ++ k ∷ []) (t f))

-- a federate that joins has heard nothing, one that resigns takes its ambassador along, and a tick may give a callback
abbrev pub table_after : HeardTable → Step → Outcome → HeardTable
table_after t (Join name) (outcome.Done (answer.Federate n)) = upd t n (Some [])
table_after t (Call f (service.Resign way)) (outcome.Done a) = upd t f None
table_after t (Tick f) out = with_callback t f (callback_in out)
table_after t step out = t

abbrev pub host_after : Host → Step → Outcome → Host
host_after h step out = record { components = (next h.components step).state; heard = table_after h.heard step out }

abbrev pub set_host : HostTable → List ℕ → Option Host → HostTable
set_host t name h = λ other. cond (bytes_eq name other) h (t other)

abbrev pub hosts_after_step : HostTable → List ℕ → Option Host → Step → Outcome → HostTable
hosts_after_step t name None step out = t
hosts_after_step t name (Some h) step out = set_host t name (Some (host_after h step out))

abbrev pub hosts_after : Hosts → List ℕ → Act → Outcome → Hosts
hosts_after x name (act.Create (Some catalogue)) (outcome.Done a) = record { creates = x.creates + 1; present = x.present + 1; host = set_host x.host name (Some (new_host catalogue)) }
hosts_after x name act.Destroy (outcome.Done a) = record { creates = x.creates; present = x.present - 1; host = set_host x.host name None }
hosts_after x name (act.Step step) out = record { creates = x.creates; present = x.present; host = hosts_after_step x.host name (x.host name) step out }
hosts_after x name a out = x

abbrev pub with_record : Held → Record → Held
with_record v r = record { history = v.history ++ r ∷ []; limit = v.limit; hosts = hosts_after v.hosts r.execution r.act r.outcome }

-- ---- what the lock keeps
abbrev pub federations_of : Hosts → Federations
federations_of x = record { creates = x.creates; present = x.present; execution = λ name. option_map (λ (h : Host). h.components) (x.host name) }

-- the joined federates have an ambassador, and no others
abbrev pub HasAmbassadors : Host → Type 0
HasAmbassadors h = (f : ℕ) → is_some (h.heard f) ≡ h.components.directory.joined f

-- the ambassador of each joined federate has heard just the callbacks of its ticks since it joined, in order
abbrev pub HearsAll : List Record → List ℕ → Host → Type 0
HearsAll history name h = (f : ℕ) (ks : List Callback) → h.heard f ≡ Some ks → ks ≡ heard_by name f history

pub record IsLockKept (history : List Record) (hosts : Hosts) (total : ℕ) : Type 0 where
  -- the history replays: the outcome and the choice of each record are those of the next-state function, from no executions to
  -- these; where the ambassador failed the record holds the callback that the function gives
  pub replays : AreNext no_federations (map given_record history) (federations_of hosts)
  pub ambassadors : (name : List ℕ) (h : Host) → hosts.host name ≡ Some h → HasAmbassadors h
  pub hears : (name : List ℕ) (h : Host) → hosts.host name ≡ Some h → HearsAll history name h
  pub counted : length history ≡ total
