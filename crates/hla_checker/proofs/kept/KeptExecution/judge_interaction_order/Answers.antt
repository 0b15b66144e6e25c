use Rattle.std.proofs.Common.{refl}
use Rattle.hla_machine.specs.declared.service.Service.TheVariants as services
use Rattle.hla_verdicts.specs.Kept.{central_of}
use Rattle.hla_checker.proofs.Verdicts.LookUps.{called_unchanged}
use Rattle.hla_checker.proofs.Verdicts.Orderings.{interaction_order_only}
use Rattle.hla_checker.proofs.kept.KeptExecution.judge_interaction_order.Goals as goal

pub returns-in-Some-clause-ok : goal.returns-in-Some-clause-ok
returns-in-Some-clause-ok c =
    let now = c.args.self.now in
    let x = services.ChangeInteractionOrderType c.args.class c.args.order in
    called_unchanged now now c.args.federate x c.interaction_order_fault-fault.result c.args.outcome.now c.args.choice.now c.in-Some.verdict refl c.requires.consistent c.requires.joined c.interaction_order_fault-fault.ensures
    (c.in-Some.ensures (central_of now) c.args.federate x (λ o. (λ e. e, λ e. e)) (interaction_order_only c.args.class c.args.order))
