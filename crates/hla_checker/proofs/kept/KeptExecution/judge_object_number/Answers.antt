use Rattle.std.proofs.Common.{ℕ, List, refl, ap, subst, ◌∙◌}
use Rattle.std.specs.Bool.{Decides}
use Rattle.hla_base.specs.RowRefusals.{first_fault}
use Rattle.hla_machine.specs.declared.service.Service.TheVariants as services
use Rattle.hla_machine.specs.declared.step.Choice.TheVariants as choices
use Rattle.hla_machine.specs.Refusals.{call_tests}
use Rattle.hla_machine.specs.Machine.{MayAnswer, central_seen}
use Rattle.hla_verdicts.specs.Kept.{central_of}
use Rattle.hla_verdicts.proofs.Steps.Endings.{looked_up}
use Rattle.hla_checker.proofs.Verdicts.LookUps.{called_unchanged, object_number_look_up}
use Rattle.hla_checker.proofs.kept.KeptExecution.judge_object_number.Goals as goal

pub returns-in-Err : goal.returns-in-Err
returns-in-Err c =
    let now = c.args.self.now in
    let f = c.args.federate in
    let refused = c.object_named_fault-fault.ensures ∙ ap (λ (n : List ℕ). first_fault (call_tests (central_seen (central_of c.args.self.now)) c.args.federate (services.GetObjectInstanceHandle n))) c.as_slice.ensures in
    called_unchanged now now f (services.GetObjectInstanceHandle c.args.name.now) c.object_named_fault-fault.result c.args.outcome.now c.args.choice.now c.in-Err.verdict refl c.requires.consistent c.requires.joined refused
    (c.in-Err.ensures.told (central_of now) f (services.GetObjectInstanceHandle c.args.name.now) (λ o. (λ e. e, λ e. e)))

pub returns-in-Ok : goal.returns-in-Ok
returns-in-Ok c =
    let now = c.args.self.now in
    let f = c.args.federate in
    let refused = c.object_named_fault-fault.ensures ∙ ap (λ (n : List ℕ). first_fault (call_tests (central_seen (central_of c.args.self.now)) c.args.federate (services.GetObjectInstanceHandle n))) c.as_slice.ensures in
    let tests = subst (λ (n : List ℕ). Decides c.is_object_number.result (MayAnswer (central_of c.args.self.now) c.args.federate (services.GetObjectInstanceHandle n) c.in-Ok.answer.now choices.None)) c.as_slice-in-Ok.ensures c.is_object_number.ensures in
    called_unchanged now now f (services.GetObjectInstanceHandle c.args.name.now) c.object_named_fault-fault.result c.args.outcome.now c.args.choice.now c.of.result refl c.requires.consistent c.requires.joined refused
    (λ is. looked_up (central_of now) f (services.GetObjectInstanceHandle c.args.name.now) (λ a. MayAnswer (central_of now) f (services.GetObjectInstanceHandle c.args.name.now) a choices.None) (object_number_look_up (central_of now) f c.args.name.now)
    c.object_named_fault-fault.result c.args.outcome.now c.in-Ok.answer.now c.args.choice.now c.is_object_number.result c.of.result is c.in-Ok.ensures.answered tests c.of.ensures)
