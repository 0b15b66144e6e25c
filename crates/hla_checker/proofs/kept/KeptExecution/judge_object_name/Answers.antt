use Rattle.std.proofs.Common.{◌≡◌, refl, ap, ◌∙◌}
use Rattle.hla_machine.specs.declared.service.Service.TheVariants as services
use Rattle.hla_machine.specs.declared.step.Answer.TheVariants as answers
use Rattle.hla_machine.specs.Registered.{registry_of}
use Rattle.hla_verdicts.specs.Kept.{KeptValue, central_of}
use Rattle.hla_verdicts.proofs.Steps.Endings.{looked_up}
use Rattle.hla_checker.proofs.Verdicts.LookUps.{called_unchanged, object_name_look_up}
use Rattle.hla_checker.proofs.kept.KeptExecution.judge_object_name.Goals as goal

pub returns-in-Err : goal.returns-in-Err
returns-in-Err c =
    let now = c.args.self.now in
    let x = services.GetObjectInstanceName c.args.object in
    called_unchanged now now c.args.federate x c.object_name_fault-fault.result c.args.outcome.now c.args.choice.now c.in-Err.verdict refl c.requires.consistent c.requires.joined c.object_name_fault-fault.ensures
    (c.in-Err.ensures.told (central_of now) c.args.federate x (λ o. (λ e. e, λ e. e)))

pub returns-in-Ok : goal.returns-in-Ok
returns-in-Ok c =
    let now = c.args.self.now in
    let x = services.GetObjectInstanceName c.args.object in
    let named : c.name_of.result.now ≡ ((registry_of c.args.self.now.objects).object c.args.object).name = c.name_of.ensures ∙ ap (λ (y : KeptValue). ((registry_of y.objects).object c.args.object).name) c.self.view_is in
    called_unchanged now now c.args.federate x c.object_name_fault-fault.result c.args.outcome.now c.args.choice.now c.of.result refl c.requires.consistent c.requires.joined c.object_name_fault-fault.ensures
    (λ is. looked_up (central_of now) c.args.federate x (λ a. a ≡ answers.Name c.name_of.result.now) (object_name_look_up (central_of now) c.args.federate c.args.object c.name_of.result.now named)
    c.object_name_fault-fault.result c.args.outcome.now c.in-Ok.answer.now c.args.choice.now c.is_name.result c.of.result is c.in-Ok.ensures.answered c.is_name.ensures c.of.ensures)
