use Rattle.std.proofs.Common.{refl, sym, ◌∙◌}
use Rattle.hla_machine.specs.Machine.{central_seen}
use Rattle.hla_machine.specs.declared.service.Service.TheVariants as services
use Rattle.hla_machine.specs.declared.step.Step.TheVariants as steps
use Rattle.hla_verdicts.specs.Kept.{central_of}
use Rattle.hla_verdicts.proofs.Steps.Outcomes.{kept_unchanged}
use Rattle.hla_verdicts.proofs.Steps.Services.{joined_refusal, plain_not_done, plain_done}
use Rattle.hla_checker.proofs.Verdicts.Deletions.{deletion_plain, deletion_exists, deletion_room}
use Rattle.hla_checker.proofs.kept.KeptExecution.judge_delete_object_instance.Goals as goal

pub returns-then-not-is_done-clause-ok : goal.returns-then-not-is_done-clause-ok
returns-then-not-is_done-clause-ok c =
    let now = central_of c.args.self.now in
    let x = services.DeleteObjectInstance c.args.object c.args.stamp in
    plain_not_done now c.args.federate x (deletion_plain c.args.object c.args.stamp) now c.args.outcome.now c.in-Ok.answer.now c.args.choice.now c.is_done.result c.in-Ok.ensures.answered.1 c.is_done.ensures c.if-not-is_done.true

pub delete_object-requires-clause-room : goal.delete_object-requires-clause-room
delete_object-requires-clause-room c = deletion_room (central_seen (central_of c.args.self.now)) c.args.federate c.args.object c.args.stamp (sym c.deletion_fault-fault.ensures ∙ c.in-Ok.ensures.answered.0)

pub delete_object-requires-clause-exists : goal.delete_object-requires-clause-exists
delete_object-requires-clause-exists c = deletion_exists (central_seen (central_of c.args.self.now)) c.args.federate c.args.object c.args.stamp (sym c.deletion_fault-fault.ensures ∙ c.in-Ok.ensures.answered.0)

pub returns-in-Err-clause-ok : goal.returns-in-Err-clause-ok
returns-in-Err-clause-ok c =
    let now = central_of c.args.self.now in
    let x = services.DeleteObjectInstance c.args.object c.args.stamp in
    kept_unchanged c.args.self.now c.args.self.now (steps.Call c.args.federate x) (steps.Call c.args.federate x) c.args.outcome.now c.args.choice.now c.in-Err.verdict refl refl c.requires.consistent
    (c.in-Err.ensures.told now c.args.federate x (λ o. (λ e. e, λ e. e)) (c.deletion_fault-fault.ensures ∙ joined_refusal now c.args.federate x c.requires.joined))

pub returns-in_ok-delete_object-in-Ok-clause-ok : goal.returns-in_ok-delete_object-in-Ok-clause-ok
returns-in_ok-delete_object-in-Ok-clause-ok c =
    let now = central_of c.args.self.now in
    let x = services.DeleteObjectInstance c.args.object c.args.stamp in
    let done = plain_done now c.args.federate x (deletion_plain c.args.object c.args.stamp) (central_of c.delete_object.new.self) c.args.outcome.now c.in-Ok.answer.now c.args.choice.now c.deletion_fault-fault.result
    (c.deletion_fault-fault.ensures ∙ joined_refusal now c.args.federate x c.requires.joined) c.in-Ok.ensures.answered.0 c.in-Ok.ensures.answered.1 (c.is_done.ensures.0 c.if-not-is_done.false) c.in-Ok.ensures.answered.2
    c.in_ok-delete_object-in-Ok.ensures.deleted in
    (done.0, (done.1, c.in_ok-delete_object-in-Ok.ensures.consistent))
