use Rattle.hla_machine.specs.declared.service.Service.TheVariants as services
use Rattle.hla_verdicts.proofs.Steps.Outcomes.{called_as}
use Rattle.hla_checker.proofs.kept.KeptExecution.judge_order_change.Goals as goal

pub returns-in-ChangeAttributeOrderType-clause-ok : goal.returns-in-ChangeAttributeOrderType-clause-ok
returns-in-ChangeAttributeOrderType-clause-ok c =
    called_as c.args.self.now c.judge_attribute_order.new.self c.args.federate (services.ChangeAttributeOrderType c.in-ChangeAttributeOrderType.object c.in-ChangeAttributeOrderType.attributes c.in-ChangeAttributeOrderType.order) c.args.service.now c.args.outcome.now c.args.choice.now c.judge_attribute_order.result c.in-ChangeAttributeOrderType.is c.judge_attribute_order.ensures.ok

pub returns-in-ChangeInteractionOrderType-clause-ok : goal.returns-in-ChangeInteractionOrderType-clause-ok
returns-in-ChangeInteractionOrderType-clause-ok c =
    called_as c.args.self.now c.judge_interaction_order.new.self c.args.federate (services.ChangeInteractionOrderType c.in-ChangeInteractionOrderType.class c.in-ChangeInteractionOrderType.order) c.args.service.now c.args.outcome.now c.args.choice.now c.judge_interaction_order.result c.in-ChangeInteractionOrderType.is c.judge_interaction_order.ensures.ok
