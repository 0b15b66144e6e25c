use Rattle.std.proofs.Common.{ℕ, List, [], ◌∷◌, sym, ap, ◌∙◌}
use Rattle.hla_base.specs.declared.content.HandleValuePair.{HandleValuePair}
use Rattle.hla_base.specs.RowRefusals.{first_fault}
use Rattle.hla_machine.specs.declared.service.Service.{Service}
use Rattle.hla_machine.specs.declared.service.Service.TheVariants as service
use Rattle.hla_machine.specs.declared.step.Step.TheVariants.{Call}
use Rattle.hla_machine.specs.Refusals.{refusal, no_object_class, no_attribute}
use Rattle.hla_components.specs.Next.{components_seen}
use Rattle.hla_federation.specs.Steps.State.{state_of}
use Rattle.hla_federation.proofs.Steps.Foreseeing.{called}
use Rattle.hla_federation.proofs.parts.Parts.service_fault.Goals as goal

pub returns-in-PublishObjectClass : goal.returns-in-PublishObjectClass
returns-in-PublishObjectClass c =
    let d = (state_of c.args.self.now).directory in
    let x = service.PublishObjectClass c.in-PublishObjectClass.class c.in-PublishObjectClass.attributes in
    c.attributes_fault.ensures ∙ ap (λ (xs : List ℕ). first_fault (no_object_class d c.in-PublishObjectClass.class ∷ no_attribute d c.in-PublishObjectClass.class xs ∷ [])) c.as_slice.ensures
    ∙ sym (called c.args.self.now c.args.federate x c.requires) ∙ ap (λ (y : Service). refusal (components_seen (state_of c.args.self.now)) (Call c.args.federate y)) (sym c.in-PublishObjectClass.is)

pub returns-in-SubscribeObjectClassAttributes : goal.returns-in-SubscribeObjectClassAttributes
returns-in-SubscribeObjectClassAttributes c =
    let d = (state_of c.args.self.now).directory in
    let x = service.SubscribeObjectClassAttributes c.in-SubscribeObjectClassAttributes.class c.in-SubscribeObjectClassAttributes.attributes in
    c.attributes_fault-in-SubscribeObjectClassAttributes.ensures ∙ ap (λ (xs : List ℕ). first_fault (no_object_class d c.in-SubscribeObjectClassAttributes.class ∷ no_attribute d c.in-SubscribeObjectClassAttributes.class xs ∷ [])) c.as_slice-in-SubscribeObjectClassAttributes.ensures
    ∙ sym (called c.args.self.now c.args.federate x c.requires) ∙ ap (λ (y : Service). refusal (components_seen (state_of c.args.self.now)) (Call c.args.federate y)) (sym c.in-SubscribeObjectClassAttributes.is)

pub returns-in-RegisterObjectInstance : goal.returns-in-RegisterObjectInstance
returns-in-RegisterObjectInstance c = c.register_fault.ensures ∙ ap (λ (y : Service). refusal (components_seen (state_of c.args.self.now)) (Call c.args.federate y)) (sym c.in-RegisterObjectInstance.is)

pub returns-in-UpdateAttributeValues : goal.returns-in-UpdateAttributeValues
returns-in-UpdateAttributeValues c =
    let s = components_seen (state_of c.args.self.now) in
    c.update_fault.ensures ∙ ap (λ (vs : List HandleValuePair). refusal s (Call c.args.federate (service.UpdateAttributeValues c.in-UpdateAttributeValues.object vs c.in-UpdateAttributeValues.stamp))) c.as_slice-in-UpdateAttributeValues.ensures
    ∙ ap (λ (y : Service). refusal s (Call c.args.federate y)) (sym c.in-UpdateAttributeValues.is)

pub returns-in-SendInteraction : goal.returns-in-SendInteraction
returns-in-SendInteraction c =
    let s = components_seen (state_of c.args.self.now) in
    c.send_fault.ensures ∙ ap (λ (vs : List HandleValuePair). refusal s (Call c.args.federate (service.SendInteraction c.in-SendInteraction.class vs c.in-SendInteraction.stamp))) c.as_slice-in-SendInteraction.ensures
    ∙ ap (λ (y : Service). refusal s (Call c.args.federate y)) (sym c.in-SendInteraction.is)

pub returns-in-ChangeAttributeOrderType : goal.returns-in-ChangeAttributeOrderType
returns-in-ChangeAttributeOrderType c =
    let s = components_seen (state_of c.args.self.now) in
    let x = c.in-ChangeAttributeOrderType in
    c.attribute_order_fault.ensures x.order ∙ ap (λ (xs : List ℕ). refusal s (Call c.args.federate (service.ChangeAttributeOrderType x.object xs x.order))) c.as_slice-in-ChangeAttributeOrderType.ensures
    ∙ ap (λ (y : Service). refusal s (Call c.args.federate y)) (sym x.is)

pub returns-in-ChangeInteractionOrderType : goal.returns-in-ChangeInteractionOrderType
returns-in-ChangeInteractionOrderType c =
    c.interaction_order_fault.ensures c.in-ChangeInteractionOrderType.order ∙ ap (λ (y : Service). refusal (components_seen (state_of c.args.self.now)) (Call c.args.federate y)) (sym c.in-ChangeInteractionOrderType.is)

pub returns-in-RegisterFederationSynchronizationPoint : goal.returns-in-RegisterFederationSynchronizationPoint
returns-in-RegisterFederationSynchronizationPoint c =
    let s = components_seen (state_of c.args.self.now) in
    c.register_point_fault.ensures ∙ ap (λ (xs : List ℕ). refusal s (Call c.args.federate (service.RegisterFederationSynchronizationPoint xs))) c.as_slice-in-RegisterFederationSynchronizationPoint.ensures
    ∙ ap (λ (y : Service). refusal s (Call c.args.federate y)) (sym c.in-RegisterFederationSynchronizationPoint.is)

pub returns-in-SynchronizationPointAchieved : goal.returns-in-SynchronizationPointAchieved
returns-in-SynchronizationPointAchieved c =
    let s = components_seen (state_of c.args.self.now) in
    c.achieve_fault.ensures ∙ ap (λ (xs : List ℕ). refusal s (Call c.args.federate (service.SynchronizationPointAchieved xs))) c.as_slice-in-SynchronizationPointAchieved.ensures
    ∙ ap (λ (y : Service). refusal s (Call c.args.federate y)) (sym c.in-SynchronizationPointAchieved.is)
