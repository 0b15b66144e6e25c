use Rattle.hla_machine.specs.declared.service.Service.TheVariants as services
use Rattle.hla_accounts.specs.Accounts.{central_with}
use Rattle.hla_verdicts.proofs.Time.Constraints.{moving_called}
use Rattle.hla_checker.proofs.judging.judge_moving_call.Goals as goal

pub returns-in_ok-verdict-in-Retract-clause-ok : goal.returns-in_ok-verdict-in-Retract-clause-ok
returns-in_ok-verdict-in-Retract-clause-ok c d =
    moving_called (central_with d c.args.accounts.now) (central_with d c.judge_retraction.new.accounts) c.args.federate (services.Retract c.in-Retract.event) c.args.service.now c.args.outcome.now c.args.choice.now c.in_ok-verdict-in-Retract.verdict
    c.in-Retract.is (c.in_ok-verdict-in-Retract.ensures.ok d)

pub returns-in-EnableTimeRegulation-clause-ok : goal.returns-in-EnableTimeRegulation-clause-ok
returns-in-EnableTimeRegulation-clause-ok c d =
    moving_called (central_with d c.args.accounts.now) (central_with d c.judge_regulation.new.accounts) c.args.federate (services.EnableTimeRegulation c.in-EnableTimeRegulation.time c.in-EnableTimeRegulation.lookahead) c.args.service.now c.args.outcome.now c.args.choice.now c.judge_regulation.result
    c.in-EnableTimeRegulation.is (c.judge_regulation.ensures.judged d)

pub returns-in-DisableTimeConstrained-clause-ok : goal.returns-in-DisableTimeConstrained-clause-ok
returns-in-DisableTimeConstrained-clause-ok c d =
    moving_called (central_with d c.args.accounts.now) (central_with d c.judge_unconstraining.new.accounts) c.args.federate services.DisableTimeConstrained c.args.service.now c.args.outcome.now c.args.choice.now c.judge_unconstraining.result
    c.in-DisableTimeConstrained.is (c.judge_unconstraining.ensures.judged d)
