use Rattle.std.proofs.Common.{refl}
use Rattle.hla_machine.specs.declared.step.Step.TheVariants as steps
use Rattle.hla_verdicts.specs.Kept.{KeptValue, directory_of}
use Rattle.hla_verdicts.proofs.Steps.Outcomes.{kept_changed, kept_unchanged}
use Rattle.hla_checker.proofs.kept.KeptExecution.judge_member_call.Goals as goal

pub returns-in-Some-clause-ok : goal.returns-in-Some-clause-ok
returns-in-Some-clause-ok c =
    let v : KeptValue = record { catalogue = c.self.inside.catalogue; declarations = c.self.inside.declarations; objects = c.self.inside.registry; accounts = c.self.inside.accounts; points = c.self.inside.points } in
    kept_changed v c.args.self.now c.judge_row_service.new.accounts (steps.Call c.args.federate c.args.service.now) (steps.Call c.args.federate c.args.service.now) c.args.outcome.now c.args.choice.now c.judge_row_service.result c.self.view_is refl c.requires.consistent
    (c.judge_row_service.ensures.judged (directory_of v)) (λ _. c.judge_row_service.ensures.size)

pub returns-in-Some-time_query_of-clause-ok : goal.returns-in-Some-time_query_of-clause-ok
returns-in-Some-time_query_of-clause-ok c =
    let v : KeptValue = record { catalogue = c.self.inside.catalogue; declarations = c.self.inside.declarations; objects = c.self.inside.registry; accounts = c.self.inside.accounts; points = c.self.inside.points } in
    kept_unchanged v c.args.self.now (steps.Call c.args.federate c.args.service.now) (steps.Call c.args.federate c.args.service.now) c.args.outcome.now c.args.choice.now c.judge_query.result c.self.view_is refl c.requires.consistent
    (c.judge_query.ensures (directory_of v))
