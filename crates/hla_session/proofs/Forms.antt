-- What the federation's step makes of a session's call
use Rattle.std.proofs.Common.{◌≡◌, None, Some, sym, refl, Result, Ok, Err}
use Rattle.hla_base.specs.declared.fault.Fault.{Fault}
use Rattle.hla_machine.specs.declared.step.Step.{Step}
use Rattle.hla_machine.specs.declared.step.Answer.{Answer}
use Rattle.hla_machine.specs.declared.step.Outcome.TheVariants as outcome
use Rattle.hla_components.specs.Components.{Components}
use Rattle.hla_components.specs.Next.{next}
use Rattle.hla_federation.specs.FederationValue.{FederationValue}
use Rattle.hla_federation.specs.Steps.Answering.{DoesStep}
use Rattle.hla_history.specs.Forms.{IsOfForm, step_form}
use Rattle.hla_shared.proofs.Steps.FormLaws.{ends_in_form}
use Rattle.hla_session.specs.Calls.{IsCalled}
use Rattle.hla_session.specs.declared.session.Session.{Session}

-- each answer is of the form of its step
pub answer_form : (s : Components) (step : Step) (a : Answer) → (next s step).outcome ≡ outcome.Done a → IsOfForm (step_form step) a
answer_form s step a is = ends_in_form (Some (record { components = s; heard = λ f. None })) step (outcome.Done a) (outcome.Done a) (next s step).choice (sym is, refl) refl

-- a step of the federation is a call
pub called : (old : Session) (new : FederationValue) (step : Step) (result : Result Answer Fault) → DoesStep old.federation step result new → IsCalled old step result (record old { federation = new })
called old new step (Ok a) does = ((does.outcome, does.state, refl, does.machine), refl)
called old new step (Err e) does = (does.refused, λ i. record old { federation = does.unchanged i })
