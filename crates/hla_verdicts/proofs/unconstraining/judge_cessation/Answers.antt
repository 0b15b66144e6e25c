use Rattle.hla_accounts.specs.Accounts.{central_with}
use Rattle.hla_verdicts.proofs.Time.Constraints.{cease_as, cease_not_done}
use Rattle.hla_verdicts.proofs.unconstraining.judge_cessation.Goals as goal

pub returns-then-not-is_done-clause-judged : goal.returns-then-not-is_done-clause-judged
returns-then-not-is_done-clause-judged c d =
    cease_not_done (central_with d c.args.accounts.now) (central_with d c.args.accounts.now) c.args.federate c.args.answer.now c.args.choice.now c.is_done.result c.is_done.ensures c.if-not-is_done.true

pub returns-in-Moved-clause-judged : goal.returns-in-Moved-clause-judged
returns-in-Moved-clause-judged c d =
    cease_as (central_with d c.args.accounts.now) (central_with d c.judge_ceasing.new.accounts) c.args.federate c.args.answer.now c.in-Moved.events c.as_slice.result.now c.args.choice.now c.judge_ceasing.result
    (c.is_done.ensures.0 c.if-not-is_done.false) c.in-Moved.is c.as_slice.ensures (c.judge_ceasing.ensures.judged d)
