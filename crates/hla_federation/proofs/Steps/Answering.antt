-- A call that ends as its step does that step
use Rattle.std.proofs.Common.{Result}
use Rattle.hla_base.specs.declared.fault.Fault.{Fault}
use Rattle.hla_machine.specs.declared.step.Step.{Step}
use Rattle.hla_machine.specs.declared.step.Answer.{Answer}
use Rattle.hla_federation.specs.FederationValue.{FederationValue}
use Rattle.hla_federation.specs.Steps.Answering.{DoesStep}
use Rattle.hla_federation.specs.Steps.Soundness.{IsSound}
use Rattle.hla_federation.specs.Steps.State.{EndsChosen}
use Rattle.hla_federation.proofs.Steps.Sound.{ends_outcome, ends_state, ends_machine, ends_refused, ends_unchanged}

pub does_step : (old : FederationValue) (step : Step) → IsSound old → (r : Result Answer Fault) (new : FederationValue) → EndsChosen old step r new → DoesStep old step r new
does_step old step is r new ends = record {
  outcome = ends_outcome old step is r new ends;
  state = ends_state old step is r new ends;
  machine = ends_machine old step is r new ends;
  refused = ends_refused old step is r new ends;
  unchanged = ends_unchanged old step is r new ends;
}
