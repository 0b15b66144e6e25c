-- Creating and destroying executions, and the ambassadors that come back
use Rattle.std.specs.Prelude.{ℕ, Bool, true, false, List, Option, None, Some, option_map}
use Rattle.std.specs.Result.{result_ok}
use Rattle.hla_base.specs.declared.fault.Fault.{Fault}
use Rattle.hla_callbacks.specs.declared.callback.Callback.{Callback}
use Rattle.hla_catalogue.specs.CatalogueValue.{CatalogueValue}
use Rattle.hla_fed_file.specs.Reading.{reading_of}
use Rattle.hla_machine.specs.Runs.{create_fault, destroy_fault}
use Rattle.hla_machine.specs.declared.step.Outcome.{Outcome}
use Rattle.hla_machine.specs.declared.step.Outcome.TheVariants as outcome
use Rattle.hla_components.specs.CentralOf.{central}
use Rattle.hla_components.specs.Executions.{central_executions}
use Rattle.hla_history.specs.Hosts.{Host, Hosts, federations_of}

-- what a FED file says; nothing where it is refused
abbrev pub catalogue_from : List ℕ → Option CatalogueValue
catalogue_from fed = result_ok (reading_of fed)

-- why an execution is not created, if it is not
unfoldable pub creation_fault : Hosts → List ℕ → Option CatalogueValue → Option Fault
creation_fault x name catalogue = create_fault (central_executions (federations_of x)) name catalogue

-- why an execution is not destroyed, if it is not
unfoldable pub destruction_fault : Option Host → Option Fault
destruction_fault o = destroy_fault (option_map central (option_map (λ (h : Host). h.components) o))

-- an act was done, and not refused
abbrev pub is_accepted : Outcome → Bool
is_accepted (outcome.Done a) = true
is_accepted (outcome.Refused e) = false
is_accepted (outcome.Failed k) = false

-- what the ambassador of a federate has heard, if it has one
abbrev pub heard_from : Option Host → ℕ → Option (List Callback)
heard_from None f = None
heard_from (Some h) f = h.heard f
