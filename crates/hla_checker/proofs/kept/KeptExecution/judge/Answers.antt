use Rattle.std.proofs.Common.{refl}
use Rattle.hla_machine.specs.declared.step.Step.TheVariants as steps
use Rattle.hla_verdicts.specs.Kept.{KeptValue, directory_of}
use Rattle.hla_verdicts.proofs.Steps.Outcomes.{kept_among, kept_changed, kept_unchanged, step_as}
use Rattle.hla_verdicts.proofs.Steps.Calls.{size_carried}
use Rattle.hla_checker.proofs.kept.KeptExecution.judge.Goals as goal

pub returns-in_ok-verdict-in-Call-clause-ok : goal.returns-in_ok-verdict-in-Call-clause-ok
returns-in_ok-verdict-in-Call-clause-ok c =
    step_as c.args.self.now c.judge_call.new.self (steps.Call c.in-Call.federate c.in-Call.service) c.args.step.now c.args.outcome.now c.args.choice.now c.in_ok-verdict-in-Call.verdict c.in-Call.is c.in_ok-verdict-in-Call.ensures.ok

pub returns-in_ok-verdict-in-Carry-clause-ok : goal.returns-in_ok-verdict-in-Carry-clause-ok
returns-in_ok-verdict-in-Carry-clause-ok c =
    let v : KeptValue = record { catalogue = c.self.inside.catalogue; declarations = c.self.inside.declarations; objects = c.self.inside.registry; accounts = c.self.inside.accounts; points = c.self.inside.points } in
    let judged = c.in_ok-verdict-in-Carry.ensures.ok (directory_of v) in
    kept_changed v c.args.self.now c.judge_carry.new.accounts (steps.Carry c.in-Carry.from c.in-Carry.to) c.args.step.now c.args.outcome.now c.args.choice.now c.in_ok-verdict-in-Carry.verdict c.self.view_is c.in-Carry.is c.requires
    judged (size_carried (directory_of v) v.accounts c.judge_carry.new.accounts c.in-Carry.from c.in-Carry.to c.args.outcome.now c.args.choice.now c.in_ok-verdict-in-Carry.verdict judged)

pub returns-in-Announce-clause-ok : goal.returns-in-Announce-clause-ok
returns-in-Announce-clause-ok c =
    let v : KeptValue = record { catalogue = c.self-in-Announce.inside.catalogue; declarations = c.self-in-Announce.inside.declarations; objects = c.self-in-Announce.inside.registry; accounts = c.self-in-Announce.inside.accounts; points = c.self-in-Announce.inside.points } in
    kept_unchanged v c.args.self.now (steps.Announce c.in-Announce.federate) c.args.step.now c.args.outcome.now c.args.choice.now c.judge_announcement-verdict.result c.self-in-Announce.view_is c.in-Announce.is c.requires
    (c.judge_announcement-verdict.ensures (directory_of v))

pub returns-in_ok-verdict-in-Tick-clause-ok : goal.returns-in_ok-verdict-in-Tick-clause-ok
returns-in_ok-verdict-in-Tick-clause-ok c =
    let v : KeptValue = record { catalogue = c.self-in-Tick.inside.catalogue; declarations = c.self-in-Tick.inside.declarations; objects = c.self-in-Tick.inside.registry; accounts = c.self-in-Tick.inside.accounts; points = c.self-in-Tick.inside.points } in
    kept_among v c.args.self.now c.judge_tick.new.accounts c.judge_tick.new.points (steps.Tick c.in-Tick.federate) c.args.step.now c.args.outcome.now c.args.choice.now c.in_ok-verdict-in-Tick.verdict c.self-in-Tick.view_is c.in-Tick.is c.requires
    (c.in_ok-verdict-in-Tick.ensures.ok (directory_of v) refl refl) c.judge_tick.ensures.size

pub returns-in_ok-verdict-in-Join-clause-ok : goal.returns-in_ok-verdict-in-Join-clause-ok
returns-in_ok-verdict-in-Join-clause-ok c =
    step_as c.args.self.now c.judge_join.new.self (steps.Join c.in-Join.name) c.args.step.now c.args.outcome.now c.args.choice.now c.in_ok-verdict-in-Join.verdict c.in-Join.is c.in_ok-verdict-in-Join.ensures.ok
