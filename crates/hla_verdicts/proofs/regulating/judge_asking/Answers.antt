use Rattle.hla_accounts.specs.Accounts.{central_with}
use Rattle.hla_verdicts.proofs.Time.Regulations.{asking_not_done, asking_as}
use Rattle.hla_verdicts.proofs.regulating.judge_asking.Goals as goal

pub returns-then-not-is_done-clause-judged : goal.returns-then-not-is_done-clause-judged
returns-then-not-is_done-clause-judged c d =
    asking_not_done (central_with d c.args.accounts.now) (central_with d c.args.accounts.now) c.args.federate c.args.time c.args.lookahead c.args.answer.now c.args.choice.now c.is_done.result c.is_done.ensures c.if-not-is_done.true

pub returns-in-Entry-clause-judged : goal.returns-in-Entry-clause-judged
returns-in-Entry-clause-judged c d =
    asking_as (central_with d c.args.accounts.now) (central_with d c.judge_sending_from.new.accounts) c.args.federate c.args.time c.args.lookahead c.in-Entry.entry c.args.answer.now c.args.choice.now c.judge_sending_from.result
    (c.is_done.ensures.0 c.if-not-is_done.false) c.in-Entry.is (c.judge_sending_from.ensures.judged d)
