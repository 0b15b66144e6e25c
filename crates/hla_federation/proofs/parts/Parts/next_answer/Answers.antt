use Rattle.std.proofs.Common.{◌≡◌, true, Option, Result, OnErr, sym, ap, subst, ◌∙◌}
use Rattle.hla_base.specs.declared.fault.Fault.{Fault}
use Rattle.hla_callbacks.specs.declared.callback.Callback.{Callback}
use Rattle.hla_declaration.specs.Declarations as declared
use Rattle.hla_machine.specs.Registered.{registry_of}
use Rattle.hla_machine.specs.declared.step.Answer.{Answer}
use Rattle.hla_machine.specs.declared.step.Answer.TheVariants as answer
use Rattle.hla_machine.specs.declared.step.Outcome.TheVariants as outcome
use Rattle.hla_machine.specs.declared.step.Step.{Step}
use Rattle.hla_components.specs.Next.{Outcomes, step_outcome}
use Rattle.hla_execution.specs.MemberValue.{members_of}
use Rattle.hla_synchronization.specs.OpenPoints.{points_of}
use Rattle.hla_federation.specs.Steps.Memory.{foresight_takes_memory}
use Rattle.hla_federation.specs.Steps.State.{state_of}
use Rattle.hla_federation.proofs.Steps.Changing.{handed_on}
use Rattle.hla_federation.proofs.Steps.Declaring.{picked}
use Rattle.hla_federation.proofs.Steps.Foreseeing.{copied_memory}
use Rattle.hla_federation.proofs.parts.Parts.next_answer.Goals as goal

pub returns-in_err-callback-in-Tick-clause-memory : goal.returns-in_err-callback-in-Tick-clause-memory
returns-in_err-callback-in-Tick-clause-memory c =
    let v = c.args.self.now in
    let takes = copied_memory v.catalogue (points_of v.points) (declared.declarations_of v.declarations) (registry_of v.objects) (members_of v.members) c.in-Tick.federate c.requires.sound.whole.parts c.in_err-callback-in-Tick.ensures.memory in
    handed_on c.in_err-callback-in-Tick.field-0.0 c.from_residual.result (λ (r : Result Answer Fault). OnErr r (foresight_takes_memory (state_of v) c.args.step.now ≡ true)) c.from_residual.ensures
    (subst (λ (x : Step). foresight_takes_memory (state_of v) x ≡ true) (sym c.in-Tick.is) takes)

pub returns-in_ok-callback-in-Tick-clause-ok : goal.returns-in_ok-callback-in-Tick-clause-ok
returns-in_ok-callback-in-Tick-clause-ok c =
    let v = c.args.self.now in
    ap (λ (x : Step). (step_outcome (state_of v) x).outcome) c.in-Tick.is
    ∙ ap (λ (o : Outcomes). o.outcome) (picked v.catalogue (points_of v.points) (declared.declarations_of v.declarations) (registry_of v.objects) (members_of v.members) c.in-Tick.federate c.requires.sound.whole.parts)
    ∙ ap (λ (k : Option Callback). outcome.Done (answer.Ticked k)) (sym c.in_ok-callback-in-Tick.ensures.ok)
