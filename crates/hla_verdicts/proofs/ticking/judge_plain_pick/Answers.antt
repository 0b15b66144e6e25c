use Rattle.hla_callbacks.specs.declared.callback.Callback.TheVariants as callbacks
use Rattle.hla_accounts.specs.Accounts.{central_with}
use Rattle.hla_verdicts.proofs.Picks.Ticks.{picked_as}
use Rattle.hla_verdicts.proofs.ticking.judge_plain_pick.Goals as goal

pub returns-in-TimeRegulationEnabled-clause-judged : goal.returns-in-TimeRegulationEnabled-clause-judged
returns-in-TimeRegulationEnabled-clause-judged c d =
    picked_as (central_with d c.args.accounts.now) (central_with d c.judge_entry.new.accounts) c.args.federate (callbacks.TimeRegulationEnabled c.in-TimeRegulationEnabled.time) c.args.callback.now c.args.choice.now c.judge_entry.result
    c.in-TimeRegulationEnabled.is (c.judge_entry.ensures.judged d)

pub returns-in-TimeAdvanceGrant-clause-judged : goal.returns-in-TimeAdvanceGrant-clause-judged
returns-in-TimeAdvanceGrant-clause-judged c d =
    picked_as (central_with d c.args.accounts.now) (central_with d c.judge_grant.new.accounts) c.args.federate (callbacks.TimeAdvanceGrant c.in-TimeAdvanceGrant.time) c.args.callback.now c.args.choice.now c.judge_grant.result
    c.in-TimeAdvanceGrant.is (c.judge_grant.ensures.judged d)

pub returns-in-RequestRetraction-clause-judged : goal.returns-in-RequestRetraction-clause-judged
returns-in-RequestRetraction-clause-judged c d =
    picked_as (central_with d c.args.accounts.now) (central_with d c.judge_request.new.accounts) c.args.federate (callbacks.RequestRetraction c.in-RequestRetraction.event) c.args.callback.now c.args.choice.now c.judge_request.result
    c.in-RequestRetraction.is (c.judge_request.ensures.judged d)

pub returns-in-RemoveObjectInstance-clause-judged : goal.returns-in-RemoveObjectInstance-clause-judged
returns-in-RemoveObjectInstance-clause-judged c d =
    picked_as (central_with d c.args.accounts.now) (central_with d c.judge_removal.new.accounts) c.args.federate (callbacks.RemoveObjectInstance c.in-RemoveObjectInstance.object c.in-RemoveObjectInstance.event c.in-RemoveObjectInstance.delivery) c.args.callback.now c.args.choice.now c.judge_removal.result
    c.in-RemoveObjectInstance.is (c.judge_removal.ensures.judged d)

pub returns-in-TimeConstrainedEnabled-clause-judged : goal.returns-in-TimeConstrainedEnabled-clause-judged
returns-in-TimeConstrainedEnabled-clause-judged c d =
    picked_as (central_with d c.args.accounts.now) (central_with d c.judge_constraint.new.accounts) c.args.federate (callbacks.TimeConstrainedEnabled c.in-TimeConstrainedEnabled.time) c.args.callback.now c.args.choice.now c.judge_constraint.result
    c.in-TimeConstrainedEnabled.is (c.judge_constraint.ensures.judged d)
