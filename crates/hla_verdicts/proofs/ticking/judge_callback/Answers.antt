use Rattle.std.proofs.Common.{sym, ◌∙◌}
use mathlib.Core.Bool.{false≢true}
use Rattle.hla_synchronization.specs.OpenPoints.{points_of}
use Rattle.hla_machine.specs.Directory.{with_points}
use Rattle.hla_accounts.specs.Accounts.{central_with}
use Rattle.hla_verdicts.proofs.Picks.Notices.{notice_told, untold_among}
use Rattle.hla_verdicts.proofs.Picks.Ticks.{in_turn}
use Rattle.hla_verdicts.proofs.ticking.judge_callback.Goals as goal

pub judge_pick-requires-clause-untold : goal.judge_pick-requires-clause-untold
judge_pick-requires-clause-untold c = sym c.in_ok-told.ensures.ok ∙ c.in-None.is

pub returns-then-not-is_in_turn-clause-ok : goal.returns-then-not-is_in_turn-clause-ok
returns-then-not-is_in_turn-clause-ok c d same at = λ may. false≢true (sym c.if-not-is_in_turn.true ∙ (c.is_in_turn.ensures d).1 may.0.1)

pub returns-in-Some-clause-ok : goal.returns-in-Some-clause-ok
returns-in-Some-clause-ok c d same at =
    let before = central_with d c.args.accounts.now in
    let after = central_with (with_points d (points_of c.judge_notice.new.points)) c.judge_notice.new.accounts in
    in_turn before after c.args.federate c.args.callback.now c.args.choice.now c.judge_notice.result ((c.is_in_turn.ensures d).0 c.if-not-is_in_turn.false)
    (notice_told before after c.args.federate c.args.callback.now c.in-Some.notice c.in_ok-told.told c.args.choice.now c.judge_notice.result c.in_ok-told.ensures.ok c.in-Some.is (c.judge_notice.ensures.judged d at))

pub returns-in_ok-verdict-in-None-clause-ok : goal.returns-in_ok-verdict-in-None-clause-ok
returns-in_ok-verdict-in-None-clause-ok c d same at =
    let points = points_of c.args.points.now in
    in_turn (central_with d c.args.accounts.now) (central_with (with_points d points) c.judge_pick.new.accounts) c.args.federate c.args.callback.now c.args.choice.now c.in_ok-verdict-in-None.verdict ((c.is_in_turn.ensures d).0 c.if-not-is_in_turn.false)
    (untold_among d c.args.accounts.now c.judge_pick.new.accounts points c.args.federate c.args.callback.now c.args.choice.now c.in_ok-verdict-in-None.verdict at (c.in_ok-verdict-in-None.ensures.ok d same))
