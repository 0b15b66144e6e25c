use Rattle.std.proofs.Common.{refl, sym, ◌∙◌}
use Rattle.hla_machine.specs.Machine.{central_seen}
use Rattle.hla_machine.specs.declared.service.Service.TheVariants as services
use Rattle.hla_machine.specs.declared.step.Step.TheVariants as steps
use Rattle.hla_verdicts.specs.Kept.{central_of}
use Rattle.hla_verdicts.proofs.Steps.Outcomes.{kept_unchanged}
use Rattle.hla_verdicts.proofs.Steps.Services.{joined_refusal, plain_not_done, plain_done}
use Rattle.hla_checker.proofs.Verdicts.Deletions.{resign_plain, resign_room, resign_ways}
use Rattle.hla_checker.proofs.kept.KeptExecution.judge_resign.Goals as goal

pub returns-then-not-is_done-clause-ok : goal.returns-then-not-is_done-clause-ok
returns-then-not-is_done-clause-ok c =
    let now = central_of c.args.self.now in
    let x = services.Resign c.args.action in
    plain_not_done now c.args.federate x (resign_plain c.args.action) now c.args.outcome.now c.in-Ok.answer.now c.args.choice.now c.is_done.result c.in-Ok.ensures.answered.1 c.is_done.ensures c.if-not-is_done.true

pub resign-requires-clause-room : goal.resign-requires-clause-room
resign-requires-clause-room c = resign_room (central_seen (central_of c.args.self.now)) c.args.federate c.args.action (sym c.resign_fault-fault.ensures ∙ c.in-Ok.ensures.answered.0)

pub returns-in-Err-clause-ok : goal.returns-in-Err-clause-ok
returns-in-Err-clause-ok c =
    let now = central_of c.args.self.now in
    let x = services.Resign c.args.action in
    kept_unchanged c.args.self.now c.args.self.now (steps.Call c.args.federate x) (steps.Call c.args.federate x) c.args.outcome.now c.args.choice.now c.in-Err.verdict refl refl c.requires.consistent
    (c.in-Err.ensures.told now c.args.federate x (λ o. (λ e. e, λ e. e)) (c.resign_fault-fault.ensures ∙ joined_refusal now c.args.federate x c.requires.joined))

pub returns-in_ok-resign-in-Ok-clause-ok : goal.returns-in_ok-resign-in-Ok-clause-ok
returns-in_ok-resign-in-Ok-clause-ok c =
    let now = central_of c.args.self.now in
    let x = services.Resign c.args.action in
    let done = plain_done now c.args.federate x (resign_plain c.args.action) (central_of c.resign.new.self) c.args.outcome.now c.in-Ok.answer.now c.args.choice.now c.resign_fault-fault.result
    (c.resign_fault-fault.ensures ∙ joined_refusal now c.args.federate x c.requires.joined) c.in-Ok.ensures.answered.0 c.in-Ok.ensures.answered.1 (c.is_done.ensures.0 c.if-not-is_done.false) c.in-Ok.ensures.answered.2
    (c.in_ok-resign-in-Ok.ensures.resigned ∙ resign_ways now c.args.federate c.args.action (sym c.resign_fault-fault.ensures ∙ c.in-Ok.ensures.answered.0)) in
    (done.0, (done.1, c.in_ok-resign-in-Ok.ensures.consistent))
