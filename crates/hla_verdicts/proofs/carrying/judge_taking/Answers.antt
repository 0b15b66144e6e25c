use Rattle.std.proofs.Common.{sym, ◌∙◌}
use Rattle.hla_accounts.specs.Accounts.{central_with}
use Rattle.hla_verdicts.proofs.Steps.Calls.{joined_within, carry_else, carry_wrong, carry_taken}
use Rattle.hla_verdicts.proofs.carrying.judge_taking.Goals as goal

pub returns-in-None-clause-ok : goal.returns-in-None-clause-ok
returns-in-None-clause-ok c d =
    carry_else (central_with d c.args.accounts.now) (central_with d c.args.accounts.now) c.args.from c.args.to c.args.answer.now (sym c.carried_in.ensures ∙ c.in-None.is)

pub returns-then-not-may_take-clause-ok : goal.returns-then-not-may_take-clause-ok
returns-then-not-may_take-clause-ok c d =
    carry_wrong (central_with d c.args.accounts.now) (central_with d c.args.accounts.now) c.args.from c.args.to c.args.answer.now c.in-Some.carried c.may_take.result (sym c.carried_in.ensures ∙ c.in-Some.is)
    (c.may_take.ensures d) c.if-not-may_take.true

pub take-requires-clause-some : goal.take-requires-clause-some
take-requires-clause-some c = (joined_within c.args.accounts.now c.args.to c.requires).0

pub take-requires-clause-within : goal.take-requires-clause-within
take-requires-clause-within c = (joined_within c.args.accounts.now c.args.to c.requires).1

pub take-requires-clause-may : goal.take-requires-clause-may
take-requires-clause-may c d = (c.may_take.ensures d).0 c.if-not-may_take.false

pub returns-in_ok-take-in-Some-clause-ok : goal.returns-in_ok-take-in-Some-clause-ok
returns-in_ok-take-in-Some-clause-ok c d =
    carry_taken (central_with d c.args.accounts.now) (central_with d c.take.new.accounts) c.args.from c.args.to c.args.answer.now c.in-Some.carried (sym c.carried_in.ensures ∙ c.in-Some.is)
    ((c.may_take.ensures d).0 c.if-not-may_take.false) (c.in_ok-take-in-Some.ensures.ok d)
