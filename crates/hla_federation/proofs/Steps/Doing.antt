-- What is not refused is done
use Rattle.std.proofs.Common.{◌≡◌, Option, None, Result, Ok, Err, ap}
use Rattle.hla_base.specs.declared.fault.Fault.{Fault}
use Rattle.hla_machine.specs.declared.step.Step.{Step}
use Rattle.hla_machine.specs.Refusals.{refusal}
use Rattle.hla_components.specs.Components.{Components}
use Rattle.hla_machine.specs.declared.step.Answer.{Answer}
use Rattle.hla_federation.specs.FederationValue.{FederationValue}
use Rattle.hla_federation.specs.Steps.State.{Ends, EndsChosen}
use Rattle.hla_components.specs.Next.{Outcomes, next, components_seen, unless_refused}
use Rattle.hla_components.specs.Next as components

pub does_next : (s : Components) (step : Step) → refusal (components_seen s) step ≡ None → next s step ≡ components.step_outcome s step
does_next s step none = ap (λ (o : Option Fault). unless_refused o s (components.step_outcome s step)) none

-- what ends with no choice ends so
pub ends_chosen : (old : FederationValue) (step : Step) (r : Result Answer Fault) (new : FederationValue) → Ends old step r new → EndsChosen old step r new
ends_chosen old step (Ok a) new ends = (ap (λ (o : Outcomes). o.outcome) ends, ap (λ (o : Outcomes). o.state) ends)
ends_chosen old step (Err e) new ends = ends
