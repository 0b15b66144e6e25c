use Rattle.hla_machine.specs.declared.service.Service.TheVariants as services
use Rattle.hla_verdicts.proofs.Steps.Outcomes.{called_as}
use Rattle.hla_checker.proofs.kept.KeptExecution.judge_point_call.Goals as goal

pub returns-in-RegisterFederationSynchronizationPoint-clause-ok : goal.returns-in-RegisterFederationSynchronizationPoint-clause-ok
returns-in-RegisterFederationSynchronizationPoint-clause-ok c =
    called_as c.args.self.now c.judge_point_registration.new.self c.args.federate (services.RegisterFederationSynchronizationPoint c.in-RegisterFederationSynchronizationPoint.label) c.args.service.now c.args.outcome.now c.args.choice.now c.judge_point_registration.result c.in-RegisterFederationSynchronizationPoint.is c.judge_point_registration.ensures.ok

pub returns-in-SynchronizationPointAchieved-clause-ok : goal.returns-in-SynchronizationPointAchieved-clause-ok
returns-in-SynchronizationPointAchieved-clause-ok c =
    called_as c.args.self.now c.judge_point_achievement.new.self c.args.federate (services.SynchronizationPointAchieved c.in-SynchronizationPointAchieved.label) c.args.service.now c.args.outcome.now c.args.choice.now c.judge_point_achievement.result c.in-SynchronizationPointAchieved.is c.judge_point_achievement.ensures.ok
