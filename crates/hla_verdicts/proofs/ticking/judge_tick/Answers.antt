use Rattle.std.proofs.Common.{rules, sym, ◌∙◌}
use Rattle.hla_catalogue.specs.CatalogueValue.{empty_catalogue}
use Rattle.hla_synchronization.specs.OpenPoints.{points_of}
use Rattle.hla_machine.specs.Directory.{new_directory, with_points}
use Rattle.hla_machine.specs.declared.step.Step.TheVariants as steps
use Rattle.hla_accounts.specs.Accounts.{central_with}
use Rattle.hla_verdicts.proofs.Steps.Outcomes.{among, refused_told, done_wrong}
use Rattle.hla_verdicts.proofs.Picks.Ticks.{caller_room, failed_told, failed_wrong, ticked_told}
use Rattle.hla_verdicts.proofs.ticking.judge_tick.Goals as goal

pub judge_callback-requires : goal.judge_callback-requires
judge_callback-requires c = caller_room _ (sym (c.caller_fault-fault.ensures (new_directory empty_catalogue)) ∙ c.in-None.is)

pub judge_answer-requires : goal.judge_answer-requires
judge_answer-requires c = caller_room _ (sym (c.caller_fault-fault.ensures (new_directory empty_catalogue)) ∙ c.in-None-fault.is)

pub returns-else-not-is_nothing-clause-ok : goal.returns-else-not-is_nothing-clause-ok
returns-else-not-is_nothing-clause-ok c d same at =
    among d c.args.accounts.now (points_of c.args.points.now) (steps.Tick c.args.federate) c.args.outcome.now c.args.choice.now c.of.result at
    (refused_told (central_with d c.args.accounts.now) (steps.Tick c.args.federate) c.caller_fault-fault.result c.in-Refused.given c.args.outcome.now c.args.choice.now c.eq.result c.of.result
    (c.caller_fault-fault.ensures d) c.in-Refused.is (search rules) (c.is_nothing.ensures.0 c.if-not-is_nothing.false) c.of.ensures)

pub returns-in-Some-clause-ok : goal.returns-in-Some-clause-ok
returns-in-Some-clause-ok c d same at =
    failed_wrong (central_with d c.args.accounts.now) (central_with (with_points d (points_of c.args.points.now)) c.args.accounts.now) c.args.federate c.caller_fault-fault.result c.in-Some.field-0 c.args.outcome.now c.in-Failed.callback c.args.choice.now
    (c.caller_fault-fault.ensures d) c.in-Some.is c.in-Failed.is

pub returns-in_ok-verdict-in-None-clause-ok : goal.returns-in_ok-verdict-in-None-clause-ok
returns-in_ok-verdict-in-None-clause-ok c d same at =
    failed_told (central_with d c.args.accounts.now) (central_with (with_points d (points_of c.judge_callback.new.points)) c.judge_callback.new.accounts) c.args.federate c.caller_fault-fault.result c.args.outcome.now c.in-Failed.callback c.args.choice.now c.in_ok-verdict-in-None.verdict
    (c.caller_fault-fault.ensures d) c.in-None.is c.in-Failed.is (c.in_ok-verdict-in-None.ensures.ok d same at)

pub returns-in-Some-fault-clause-ok : goal.returns-in-Some-fault-clause-ok
returns-in-Some-fault-clause-ok c d same at =
    done_wrong (central_with d c.args.accounts.now) (central_with (with_points d (points_of c.args.points.now)) c.args.accounts.now) (steps.Tick c.args.federate) c.caller_fault-fault.result c.in-Some-fault.field-0 c.args.outcome.now c.in-Done.answer c.args.choice.now
    (c.caller_fault-fault.ensures d) c.in-Some-fault.is c.in-Done.is

pub returns-in_ok-verdict-in-None-fault-clause-ok : goal.returns-in_ok-verdict-in-None-fault-clause-ok
returns-in_ok-verdict-in-None-fault-clause-ok c d same at =
    ticked_told (central_with d c.args.accounts.now) (central_with (with_points d (points_of c.judge_answer.new.points)) c.judge_answer.new.accounts) c.args.federate c.caller_fault-fault.result c.args.outcome.now c.in-Done.answer c.args.choice.now c.in_ok-verdict-in-None-fault.verdict
    (c.caller_fault-fault.ensures d) c.in-None-fault.is c.in-Done.is (c.in_ok-verdict-in-None-fault.ensures.ok d same at)
