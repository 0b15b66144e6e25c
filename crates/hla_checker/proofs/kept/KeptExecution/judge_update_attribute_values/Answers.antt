use Rattle.std.proofs.Common.{◌≤◌, ◌+◌, List, length, ap, sym, subst, refl, ◌∙◌, ℕ}
use Rattle.hla_base.specs.Limits.{max_serial}
use Rattle.hla_base.specs.RowRefusals.{first_fault}
use Rattle.hla_base.specs.declared.content.HandleValuePair.{HandleValuePair}
use Rattle.hla_machine.specs.Directory.{Directory, update_sent}
use Rattle.hla_machine.specs.Machine.{central_seen, send_answer}
use Rattle.hla_machine.specs.Refusals.{call_tests}
use Rattle.hla_machine.specs.Sends.{after_messages}
use Rattle.hla_machine.specs.declared.service.Service.TheVariants as services
use Rattle.hla_machine.specs.declared.step.Step.TheVariants as steps
use Rattle.hla_accounts.specs.Accounts.{account_at}
use Rattle.hla_verdicts.specs.Kept.{central_of, directory_of}
use Rattle.hla_verdicts.proofs.Steps.Outcomes.{kept_unchanged}
use Rattle.hla_verdicts.proofs.Steps.Services.{joined_refusal}
use Rattle.hla_checker.proofs.Verdicts.Sends.{update_sending, sending_wrong, sending_done}
use Rattle.hla_checker.proofs.Sends.Updates.{update_room}
use Rattle.hla_checker.proofs.kept.KeptExecution.judge_update_attribute_values.Goals as goal

pub returns-then-not-is_sent-clause-ok : goal.returns-then-not-is_sent-clause-ok
returns-then-not-is_sent-clause-ok c =
    let now = central_of c.args.self.now in
    let x = services.UpdateAttributeValues c.args.object c.args.values.now c.args.stamp in
    let handle = c.update_handle-handle.ensures
    ∙ ap (λ (vs : List HandleValuePair). send_answer now c.args.federate c.args.stamp (update_sent (directory_of c.args.self.now) c.args.object vs)) c.as_slice-in-Ok.ensures in
    sending_wrong now c.args.federate x c.args.stamp (λ (d : Directory) (f : ℕ). update_sent d c.args.object c.args.values.now) (update_sending c.args.object c.args.values.now c.args.stamp)
    c.args.outcome.now c.in-Ok.answer.now c.args.choice.now c.update_handle-handle.result handle c.in-Ok.ensures.answered.1
    now c.is_sent.result c.is_sent.ensures c.if-not-is_sent.true

pub send_update-requires-clause-room : goal.send_update-requires-clause-room
send_update-requires-clause-room c =
    let now = central_of c.args.self.now in
    let found = c.update_fault-fault.ensures
    ∙ ap (λ (vs : List HandleValuePair). first_fault (call_tests (central_seen now) c.args.federate (services.UpdateAttributeValues c.args.object vs c.args.stamp))) c.as_slice.ensures in
    subst (λ (vs : List HandleValuePair). (account_at c.args.self.now.accounts c.args.federate).next_serial + length (update_sent (directory_of c.args.self.now) c.args.object vs) ≤ max_serial + 1) (sym c.as_slice-in-Ok-2.ensures)
    (update_room (central_seen now) c.args.federate c.args.object c.args.values.now c.args.stamp (sym found ∙ c.in-Ok.ensures.answered.0))

pub returns-in-Err-clause-ok : goal.returns-in-Err-clause-ok
returns-in-Err-clause-ok c =
    let now = central_of c.args.self.now in
    let x = services.UpdateAttributeValues c.args.object c.args.values.now c.args.stamp in
    let found = c.update_fault-fault.ensures
    ∙ ap (λ (vs : List HandleValuePair). first_fault (call_tests (central_seen now) c.args.federate (services.UpdateAttributeValues c.args.object vs c.args.stamp))) c.as_slice.ensures
    ∙ joined_refusal now c.args.federate x c.requires.joined in
    kept_unchanged c.args.self.now c.args.self.now (steps.Call c.args.federate x) (steps.Call c.args.federate x) c.args.outcome.now c.args.choice.now c.in-Err.verdict refl refl c.requires.consistent
    (c.in-Err.ensures.told now c.args.federate x (λ o. (λ e. e, λ e. e)) found)

pub returns-in_ok-send_update-in-Ok-clause-ok : goal.returns-in_ok-send_update-in-Ok-clause-ok
returns-in_ok-send_update-in-Ok-clause-ok c =
    let now = central_of c.args.self.now in
    let x = services.UpdateAttributeValues c.args.object c.args.values.now c.args.stamp in
    let found = c.update_fault-fault.ensures
    ∙ ap (λ (vs : List HandleValuePair). first_fault (call_tests (central_seen now) c.args.federate (services.UpdateAttributeValues c.args.object vs c.args.stamp))) c.as_slice.ensures
    ∙ joined_refusal now c.args.federate x c.requires.joined in
    let handle = c.update_handle-handle.ensures
    ∙ ap (λ (vs : List HandleValuePair). send_answer now c.args.federate c.args.stamp (update_sent (directory_of c.args.self.now) c.args.object vs)) c.as_slice-in-Ok.ensures in
    let follows = c.in_ok-send_update-in-Ok.ensures.sent
    ∙ ap (λ (vs : List HandleValuePair). after_messages now c.args.federate c.args.stamp (update_sent (directory_of c.args.self.now) c.args.object vs)) c.as_slice-in-Ok-2.ensures in
    let done = sending_done now c.args.federate x c.args.stamp (λ (d : Directory) (f : ℕ). update_sent d c.args.object c.args.values.now) (update_sending c.args.object c.args.values.now c.args.stamp)
    c.args.outcome.now c.in-Ok.answer.now c.args.choice.now c.update_handle-handle.result handle c.in-Ok.ensures.answered.1
    (central_of c.send_update.new.self) c.update_fault-fault.result found c.in-Ok.ensures.answered.0 (c.is_sent.ensures.0 c.if-not-is_sent.false) c.in-Ok.ensures.answered.2 follows in
    (done.0, (done.1, c.in_ok-send_update-in-Ok.ensures.consistent))
