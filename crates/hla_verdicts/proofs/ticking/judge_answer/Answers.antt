use Rattle.hla_synchronization.specs.OpenPoints.{points_of}
use Rattle.hla_machine.specs.Directory.{with_points}
use Rattle.hla_accounts.specs.Accounts.{central_with}
use Rattle.hla_verdicts.proofs.Picks.Ticks.{given_one, nothing_among}
use Rattle.hla_verdicts.proofs.ticking.judge_answer.Goals as goal

pub returns-in_ok-verdict-in-Some-clause-ok : goal.returns-in_ok-verdict-in-Some-clause-ok
returns-in_ok-verdict-in-Some-clause-ok c d same at =
    given_one (central_with d c.args.accounts.now) (central_with (with_points d (points_of c.judge_callback.new.points)) c.judge_callback.new.accounts) c.args.federate c.args.answer.now c.in-Ticked.told c.in-Some.callback c.args.choice.now c.in_ok-verdict-in-Some.verdict
    c.in-Ticked.is c.in-Some.is (c.in_ok-verdict-in-Some.ensures.ok d same at)

pub returns-in-None-clause-ok : goal.returns-in-None-clause-ok
returns-in-None-clause-ok c d same at =
    nothing_among d c.args.accounts.now (points_of c.args.points.now) c.args.federate c.args.answer.now c.in-Ticked.told c.args.choice.now c.may_give_nothing.result c.of.result at
    c.in-Ticked.is c.in-None.is (c.may_give_nothing.ensures d) c.of.ensures
