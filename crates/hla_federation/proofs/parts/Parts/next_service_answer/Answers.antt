use Rattle.std.proofs.Common.{◌≡◌, ◌≤◌, ◌+◌, List, length, None, Option, sym, ap, subst, ◌∙◌}
use Rattle.hla_base.specs.declared.content.HandleValuePair.{HandleValuePair}
use Rattle.hla_base.specs.declared.number.EventHandle.{EventHandle}
use Rattle.hla_machine.specs.declared.service.Service.{Service}
use Rattle.hla_machine.specs.declared.service.Service.TheVariants as service
use Rattle.hla_machine.specs.declared.step.Answer.TheVariants as answer
use Rattle.hla_machine.specs.declared.step.Outcome.TheVariants as outcome
use Rattle.hla_machine.specs.declared.step.Step.TheVariants.{Call}
use Rattle.hla_machine.specs.Directory.{update_sent}
use Rattle.hla_machine.specs.Refusals.{refusal}
use Rattle.hla_machine.specs.Sends.{sent_handle}
use Rattle.hla_machine.proofs.Basics.Tests.{clear_call}
use Rattle.hla_components.specs.Next.{call_outcome, components_seen}
use Rattle.hla_federation.specs.Steps.State.{state_of}
use Rattle.hla_federation.proofs.Steps.Foreseeing.{few_serials}
use Rattle.hla_federation.proofs.parts.Parts.next_service_answer.Goals as goal

pub next_update_handle-requires-clause-serials : goal.next_update_handle-requires-clause-serials
next_update_handle-requires-clause-serials c =
    let s = state_of c.args.self.now in
    let object = c.in-UpdateAttributeValues.object in
    let x = service.UpdateAttributeValues object c.in-UpdateAttributeValues.values c.in-UpdateAttributeValues.stamp in
    let none = subst (λ (y : Service). refusal (components_seen s) (Call c.args.federate y) ≡ None) c.in-UpdateAttributeValues.is c.requires.allowed in
    let within = few_serials s.directory (s.serial c.args.federate) object c.in-UpdateAttributeValues.values (clear_call (components_seen s) c.args.federate x none).1.1.1.1.1.0 in
    subst (λ (vs : List HandleValuePair). s.serial c.args.federate + length (update_sent s.directory object vs) ≤ 1000000000000000001) (sym c.as_slice.ensures) within

pub returns-in-UpdateAttributeValues-clause-ok : goal.returns-in-UpdateAttributeValues-clause-ok
returns-in-UpdateAttributeValues-clause-ok c =
    let s = state_of c.args.self.now in
    let f = c.args.federate in
    let object = c.in-UpdateAttributeValues.object in
    ap (λ (y : Service). (call_outcome s f y).outcome) c.in-UpdateAttributeValues.is
    ∙ ap (λ (h : Option EventHandle). outcome.Done (answer.Sent h)) (sym (c.next_update_handle.ensures
    ∙ ap (λ (vs : List HandleValuePair). sent_handle f (s.row f) c.in-UpdateAttributeValues.stamp (s.serial f) (update_sent s.directory object vs)) c.as_slice.ensures))

pub returns-in-SendInteraction-clause-ok : goal.returns-in-SendInteraction-clause-ok
returns-in-SendInteraction-clause-ok c =
    let s = state_of c.args.self.now in
    ap (λ (y : Service). (call_outcome s c.args.federate y).outcome) c.in-SendInteraction.is
    ∙ ap (λ (h : Option EventHandle). outcome.Done (answer.Sent h)) (sym (c.next_interaction_handle.ensures c.in-SendInteraction.values))
