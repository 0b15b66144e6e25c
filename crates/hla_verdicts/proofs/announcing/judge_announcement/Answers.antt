use Rattle.std.proofs.Common.{rules}
use Rattle.hla_accounts.specs.Accounts.{central_with}
use Rattle.hla_machine.specs.declared.step.Step.TheVariants as steps
use Rattle.hla_verdicts.proofs.Steps.Outcomes.{refused_told, done_wrong, announcement_told}
use Rattle.hla_verdicts.proofs.announcing.judge_announcement.Goals as goal

pub returns-in-Refused : goal.returns-in-Refused
returns-in-Refused c d =
    refused_told (central_with d c.args.accounts.now) (steps.Announce c.args.federate) c.caller_fault-fault.result c.in-Refused.given c.args.outcome.now c.args.choice.now c.eq.result c.of.result
    (c.caller_fault-fault.ensures d) c.in-Refused.is (search rules) (c.is_nothing.ensures.0 c.if-not-is_nothing.false) c.of.ensures

pub returns-in-Some : goal.returns-in-Some
returns-in-Some c d =
    done_wrong (central_with d c.args.accounts.now) (central_with d c.args.accounts.now) (steps.Announce c.args.federate) c.caller_fault-fault.result c.in-Some.field-0 c.args.outcome.now c.in-Done.answer c.args.choice.now
    (c.caller_fault-fault.ensures d) c.in-Some.is c.in-Done.is

pub returns-in-None : goal.returns-in-None
returns-in-None c d =
    announcement_told (central_with d c.args.accounts.now) c.args.federate c.caller_fault-fault.result c.in-Done.answer c.args.outcome.now c.args.choice.now c.may_answer_announcement.result c.of-in-None.result
    (c.caller_fault-fault.ensures d) c.in-None.is c.in-Done.is (c.may_answer_announcement.ensures d) (c.is_nothing.ensures.0 c.if-not-is_nothing.false) c.of-in-None.ensures
