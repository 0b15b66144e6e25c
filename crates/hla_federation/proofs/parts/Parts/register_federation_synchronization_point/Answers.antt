-- What is registered is what the next-state function says, under a label that is shared.
use Rattle.std.proofs.Common.{◌≡◌, None, Result, List, ℕ, inr, refl, sym, ap, ◌∙◌}
use Rattle.hla_base.specs.declared.fault.Fault.{Fault}
use Rattle.hla_machine.specs.Refusals.{refusal}
use Rattle.hla_machine.specs.declared.service.Service.TheVariants as service
use Rattle.hla_machine.specs.declared.step.Answer.{Answer}
use Rattle.hla_machine.specs.declared.step.Answer.TheVariants as answer
use Rattle.hla_machine.specs.declared.step.Step.TheVariants.{Call}
use Rattle.hla_components.specs.Components.{Components}
use Rattle.hla_components.specs.Next.{answer_outcome, components_seen, with_point_opened}
use Rattle.hla_federation.specs.Steps.State.{Ends, state_of}
use Rattle.hla_federation.proofs.Steps.Changing.{handed_on}
use Rattle.hla_federation.proofs.Steps.Doing.{does_next}
use Rattle.hla_federation.proofs.parts.Parts.register_federation_synchronization_point.Goals as goal

pub returns-in_err-register_point-clause-done : goal.returns-in_err-register_point-clause-done
returns-in_err-register_point-clause-done c =
    let now = c.args.self.now in
    let x = Call c.args.federate (service.RegisterFederationSynchronizationPoint c.args.label.now) in
    let none : refusal (components_seen (state_of now)) x ≡ None = sym c.register_point_fault.ensures ∙ c.in_default.is in
    handed_on c.in_err-register_point.field-0.0 c.from_residual-in_err-register_point.result (λ (r : Result Answer Fault). Ends now x r c.register_point.new.self) c.from_residual-in_err-register_point.ensures
    (inr (none, c.in_err-register_point.ensures.err, refl), c.in_err-register_point.ensures.unchanged)

pub returns-clause-done : goal.returns-clause-done
returns-clause-done c =
    let now = c.args.self.now in
    let x = Call c.args.federate (service.RegisterFederationSynchronizationPoint c.args.label.now) in
    let none : refusal (components_seen (state_of now)) x ≡ None = sym c.register_point_fault.ensures ∙ c.in_default.is in
    does_next (state_of now) x none
    ∙ ap (λ (s : Components). answer_outcome answer.Done s) (sym (c.in_ok-register_point.ensures.ok ∙ ap (λ (label : List ℕ). with_point_opened (state_of now) c.args.federate label) c.in_ok-shared.ensures.ok))
