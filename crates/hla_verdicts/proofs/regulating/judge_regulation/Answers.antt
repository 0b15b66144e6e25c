use Rattle.std.proofs.Common.{rules, sym, ◌∙◌}
use Rattle.hla_machine.specs.declared.service.Service.TheVariants as services
use Rattle.hla_machine.specs.declared.step.Step.TheVariants as steps
use Rattle.hla_accounts.specs.Accounts.{central_with}
use Rattle.hla_verdicts.proofs.Steps.Outcomes.{refused_told, done_wrong}
use Rattle.hla_verdicts.proofs.Steps.Services.{joined_refusal, done_told}
use Rattle.hla_verdicts.proofs.regulating.judge_regulation.Goals as goal

pub judge_asking-requires-clause-free : goal.judge_asking-requires-clause-free
judge_asking-requires-clause-free c d = sym (c.regulation_fault-fault.ensures d) ∙ c.in-None.is

pub returns-else-not-is_nothing-clause-judged : goal.returns-else-not-is_nothing-clause-judged
returns-else-not-is_nothing-clause-judged c d = let x = services.EnableTimeRegulation c.args.time c.args.lookahead in
    refused_told (central_with d c.args.accounts.now) (steps.Call c.args.federate x) c.regulation_fault-fault.result c.in-Refused.given c.args.outcome.now c.args.choice.now c.eq.result c.of.result
    (c.regulation_fault-fault.ensures d ∙ joined_refusal (central_with d c.args.accounts.now) c.args.federate x c.requires)
    c.in-Refused.is (search rules) (c.is_nothing.ensures.0 c.if-not-is_nothing.false) c.of.ensures

pub returns-in-Some-clause-judged : goal.returns-in-Some-clause-judged
returns-in-Some-clause-judged c d = let x = services.EnableTimeRegulation c.args.time c.args.lookahead in
    done_wrong (central_with d c.args.accounts.now) (central_with d c.args.accounts.now) (steps.Call c.args.federate x) c.regulation_fault-fault.result c.in-Some.field-0 c.args.outcome.now c.in-Done.answer c.args.choice.now
    (c.regulation_fault-fault.ensures d ∙ joined_refusal (central_with d c.args.accounts.now) c.args.federate x c.requires) c.in-Some.is c.in-Done.is

pub returns-in-None-clause-judged : goal.returns-in-None-clause-judged
returns-in-None-clause-judged c d = let x = services.EnableTimeRegulation c.args.time c.args.lookahead in
    done_told (central_with d c.args.accounts.now) (central_with d c.judge_asking.new.accounts) c.args.federate x c.regulation_fault-fault.result c.args.outcome.now c.in-Done.answer c.args.choice.now c.judge_asking.result
    (c.regulation_fault-fault.ensures d ∙ joined_refusal (central_with d c.args.accounts.now) c.args.federate x c.requires) c.in-None.is c.in-Done.is (c.judge_asking.ensures.judged d)
