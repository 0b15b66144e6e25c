use Rattle.std.proofs.Common.{rules, ◌∙◌}
use Rattle.hla_machine.specs.declared.service.Service.TheVariants as services
use Rattle.hla_machine.specs.declared.step.Step.TheVariants as steps
use Rattle.hla_accounts.specs.Accounts.{central_with}
use Rattle.hla_verdicts.proofs.Steps.Outcomes.{refused_told, done_wrong}
use Rattle.hla_verdicts.proofs.Time.Constraints.{ceased_told, unconstrain_refusal}
use Rattle.hla_verdicts.proofs.unconstraining.judge_unconstraining.Goals as goal

pub returns-else-not-is_nothing-clause-judged : goal.returns-else-not-is_nothing-clause-judged
returns-else-not-is_nothing-clause-judged c d =
    refused_told (central_with d c.args.accounts.now) (steps.Call c.args.federate services.DisableTimeConstrained) c.unconstrain_fault-fault.result c.in-Refused.given c.args.outcome.now c.args.choice.now c.eq.result c.of.result
    (c.unconstrain_fault-fault.ensures ∙ unconstrain_refusal (central_with d c.args.accounts.now) c.args.federate c.requires)
    c.in-Refused.is (search rules) (c.is_nothing.ensures.0 c.if-not-is_nothing.false) c.of.ensures

pub returns-in-Some-clause-judged : goal.returns-in-Some-clause-judged
returns-in-Some-clause-judged c d =
    done_wrong (central_with d c.args.accounts.now) (central_with d c.args.accounts.now) (steps.Call c.args.federate services.DisableTimeConstrained) c.unconstrain_fault-fault.result c.in-Some.field-0 c.args.outcome.now c.in-Done.answer c.args.choice.now
    (c.unconstrain_fault-fault.ensures ∙ unconstrain_refusal (central_with d c.args.accounts.now) c.args.federate c.requires) c.in-Some.is c.in-Done.is

pub returns-in-None-clause-judged : goal.returns-in-None-clause-judged
returns-in-None-clause-judged c d =
    ceased_told (central_with d c.args.accounts.now) (central_with d c.judge_cessation.new.accounts) c.args.federate c.unconstrain_fault-fault.result c.args.outcome.now c.in-Done.answer c.args.choice.now c.judge_cessation.result
    (c.unconstrain_fault-fault.ensures ∙ unconstrain_refusal (central_with d c.args.accounts.now) c.args.federate c.requires) c.in-None.is c.in-Done.is (c.judge_cessation.ensures.judged d)
