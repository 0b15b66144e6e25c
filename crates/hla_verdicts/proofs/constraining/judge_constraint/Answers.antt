use Rattle.hla_accounts.specs.Accounts.{central_with}
use Rattle.hla_verdicts.proofs.Time.Constraints.{constrained_as}
use Rattle.hla_verdicts.proofs.constraining.judge_constraint.Goals as goal

pub returns-in-Moved-clause-judged : goal.returns-in-Moved-clause-judged
returns-in-Moved-clause-judged c d =
    constrained_as (central_with d c.args.accounts.now) (central_with d c.judge_moving.new.accounts) c.args.federate c.args.time c.in-Moved.events c.as_slice.result.now c.args.choice.now c.judge_moving.result
    c.in-Moved.is c.as_slice.ensures (c.judge_moving.ensures.judged d)
