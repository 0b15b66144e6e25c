-- One step, answered in its own form
use Rattle.std.specs.Prelude.{◌≡◌, Result, Ok, Err, IfOk, IfErr, OnOk, OnErr}
use Rattle.hla_base.specs.declared.fault.Fault.{Fault}
use Rattle.hla_machine.specs.declared.step.Step.{Step}
use Rattle.hla_machine.specs.declared.step.Answer.{Answer}
use Rattle.hla_machine.specs.declared.step.Outcome.TheVariants as outcome
use Rattle.hla_machine.specs.Runs.{IsMachineStep}
use Rattle.hla_components.specs.CentralOf.{central}
use Rattle.hla_components.specs.Headline.{happening}
use Rattle.hla_components.specs.Next.{next}
use Rattle.hla_federation.specs.FederationValue.{FederationValue}
use Rattle.hla_federation.specs.Steps.Memory.{IsRefusedWith}
use Rattle.hla_federation.specs.Steps.State.{state_of}

-- the answer of a step whose answers all have this form
abbrev pub answered_as : {A : Type 0} → (A → Answer) → Result A Fault → Result Answer Fault
answered_as form (Ok a) = Ok (form a)
answered_as form (Err e) = Err e

-- its answer and the state after it are the next-state function's, and it is a step of the machine; refused, it changes nothing
pub record DoesStep (old : FederationValue) (step : Step) (result : Result Answer Fault) (new : FederationValue) : Type 0 where
  pub outcome : IfOk result (λ a. (next (state_of old) step).outcome ≡ outcome.Done a)
  pub state : OnOk result (state_of new ≡ (next (state_of old) step).state)
  pub machine : OnOk result (IsMachineStep (central (state_of old)) (happening step (next (state_of old) step)) (central (state_of new)))
  pub refused : IfErr result (IsRefusedWith (state_of old) step)
  pub unchanged : OnErr result (new ≡ old)
