use Rattle.std.proofs.Common.{sym, ◌∙◌}
use Rattle.hla_accounts.specs.Accounts.{central_with}
use Rattle.hla_verdicts.proofs.Time.Queries.{query_is, query_chose, query_refused, query_else, query_told}
use Rattle.hla_verdicts.proofs.queries.judge_query.Goals as goal

pub returns-then-not-is_nothing : goal.returns-then-not-is_nothing
returns-then-not-is_nothing c d =
    query_chose (central_with d c.args.accounts.now) c.args.federate c.args.service.now c.args.query (query_is c.args.service.now c.args.query c.requires.query) c.requires.joined
    c.args.outcome.now c.args.choice.now c.is_nothing.result c.is_nothing.ensures c.if-not-is_nothing.true

pub returns-in-Refused : goal.returns-in-Refused
returns-in-Refused c d =
    query_refused (central_with d c.args.accounts.now) c.args.federate c.args.service.now c.args.query (query_is c.args.service.now c.args.query c.requires.query) c.requires.joined
    c.args.outcome.now c.in-Refused.field-0 c.args.choice.now c.in-Refused.is

pub returns-in-None : goal.returns-in-None
returns-in-None c d =
    query_else (central_with d c.args.accounts.now) c.args.federate c.args.service.now c.args.query (query_is c.args.service.now c.args.query c.requires.query) c.requires.joined
    c.args.outcome.now c.in-Done.answer c.args.choice.now c.in-Done.is (sym c.time_in.ensures ∙ c.in-None.is)

pub returns-in-Some : goal.returns-in-Some
returns-in-Some c d =
    query_told (central_with d c.args.accounts.now) c.args.federate c.args.service.now c.args.query (query_is c.args.service.now c.args.query c.requires.query) c.requires.joined
    c.args.outcome.now c.in-Done.answer c.in-Some.time c.args.choice.now c.may_tell.result c.of.result c.in-Done.is (sym c.time_in.ensures ∙ c.in-Some.is) (c.may_tell.ensures d) (c.is_nothing.ensures.0 c.if-not-is_nothing.false) c.of.ensures
