use Rattle.hla_machine.specs.declared.service.Service.TheVariants as services
use Rattle.hla_verdicts.specs.Kept.{KeptValue}
use Rattle.hla_verdicts.proofs.Steps.Outcomes.{called_as, called_changed}
use Rattle.hla_checker.proofs.kept.KeptExecution.judge_other_call.Goals as goal

pub returns-in-Retract-clause-ok : goal.returns-in-Retract-clause-ok
returns-in-Retract-clause-ok c =
    let v : KeptValue = record { catalogue = c.self.inside.catalogue; declarations = c.self.inside.declarations; objects = c.self.inside.registry; accounts = c.self.inside.accounts; points = c.self.inside.points } in
    called_changed v c.args.self.now c.judge_moving_call.new.accounts c.args.federate c.args.service.now c.args.outcome.now c.args.choice.now c.judge_moving_call.result c.self.view_is c.requires.consistent
    c.judge_moving_call.ensures.ok c.judge_moving_call.ensures.size

pub returns-in-Resign-clause-ok : goal.returns-in-Resign-clause-ok
returns-in-Resign-clause-ok c =
    called_as c.args.self.now c.judge_resign.new.self c.args.federate (services.Resign c.in-Resign.action) c.args.service.now c.args.outcome.now c.args.choice.now c.judge_resign.result c.in-Resign.is c.judge_resign.ensures.ok

pub returns-in-PublishObjectClass-clause-ok : goal.returns-in-PublishObjectClass-clause-ok
returns-in-PublishObjectClass-clause-ok c =
    called_as c.args.self.now c.judge_publishing.new.self c.args.federate (services.PublishObjectClass c.in-PublishObjectClass.class c.in-PublishObjectClass.attributes) c.args.service.now c.args.outcome.now c.args.choice.now c.judge_publishing.result c.in-PublishObjectClass.is c.judge_publishing.ensures.ok

pub returns-in-SubscribeObjectClassAttributes-clause-ok : goal.returns-in-SubscribeObjectClassAttributes-clause-ok
returns-in-SubscribeObjectClassAttributes-clause-ok c =
    called_as c.args.self.now c.judge_subscription.new.self c.args.federate (services.SubscribeObjectClassAttributes c.in-SubscribeObjectClassAttributes.class c.in-SubscribeObjectClassAttributes.attributes) c.args.service.now c.args.outcome.now c.args.choice.now c.judge_subscription.result c.in-SubscribeObjectClassAttributes.is c.judge_subscription.ensures.ok

pub returns-in-RegisterObjectInstance-clause-ok : goal.returns-in-RegisterObjectInstance-clause-ok
returns-in-RegisterObjectInstance-clause-ok c =
    called_as c.args.self.now c.judge_registration.new.self c.args.federate (services.RegisterObjectInstance c.in-RegisterObjectInstance.class c.in-RegisterObjectInstance.name) c.args.service.now c.args.outcome.now c.args.choice.now c.judge_registration.result c.in-RegisterObjectInstance.is c.judge_registration.ensures.ok

pub returns-in-UpdateAttributeValues-clause-ok : goal.returns-in-UpdateAttributeValues-clause-ok
returns-in-UpdateAttributeValues-clause-ok c =
    called_as c.args.self.now c.judge_update_attribute_values.new.self c.args.federate (services.UpdateAttributeValues c.in-UpdateAttributeValues.object c.in-UpdateAttributeValues.values c.in-UpdateAttributeValues.stamp) c.args.service.now c.args.outcome.now c.args.choice.now c.judge_update_attribute_values.result c.in-UpdateAttributeValues.is c.judge_update_attribute_values.ensures.ok

pub returns-in-SendInteraction-clause-ok : goal.returns-in-SendInteraction-clause-ok
returns-in-SendInteraction-clause-ok c =
    called_as c.args.self.now c.judge_send_interaction.new.self c.args.federate (services.SendInteraction c.in-SendInteraction.class c.in-SendInteraction.values c.in-SendInteraction.stamp) c.args.service.now c.args.outcome.now c.args.choice.now c.judge_send_interaction.result c.in-SendInteraction.is c.judge_send_interaction.ensures.ok

pub returns-in-DeleteObjectInstance-clause-ok : goal.returns-in-DeleteObjectInstance-clause-ok
returns-in-DeleteObjectInstance-clause-ok c =
    called_as c.args.self.now c.judge_delete_object_instance.new.self c.args.federate (services.DeleteObjectInstance c.in-DeleteObjectInstance.object c.in-DeleteObjectInstance.stamp) c.args.service.now c.args.outcome.now c.args.choice.now c.judge_delete_object_instance.result c.in-DeleteObjectInstance.is c.judge_delete_object_instance.ensures.ok
