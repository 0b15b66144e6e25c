use Rattle.std.proofs.Common.{sym, ap, ◌∙◌}
use Rattle.hla_execution.specs.MemberValue.{members_of}
use Rattle.hla_synchronization.specs.OpenPoints.{points_of}
use Rattle.hla_federation.proofs.Steps.Doing.{does_next}
use Rattle.hla_federation.proofs.Steps.Wholes.{whole_published}
use Rattle.hla_declaration.specs.Declarations as declared
use Rattle.hla_declaration.specs.Declarations.{DeclarationsValue}
use Rattle.hla_machine.specs.declared.service.Service.TheVariants as service
use Rattle.hla_machine.specs.declared.step.Step.TheVariants.{Call}
use Rattle.hla_machine.specs.declared.step.Answer.TheVariants as answer
use Rattle.hla_machine.specs.Registered.{registry_of}
use Rattle.hla_components.specs.Next.{answer_outcome}
use Rattle.hla_federation.specs.Steps.State.{state_from}
use Rattle.hla_federation.proofs.parts.Parts.publish_object_class.Goals as goal

pub returns-clause-whole : goal.returns-clause-whole
returns-clause-whole c =
    let whole = rw (← c.self.view_is) at c.requires.sound.whole in
    record { parts = rw c.publish_object_class.ensures (whole_published _ _ _ whole.parts _ _); named = whole.named }

pub returns-clause-done : goal.returns-clause-done
returns-clause-done c =
    let fault_is = rw (c.as_slice.ensures, ← c.self.view_is) at c.attributes_fault.ensures in
    let joined = rw (← c.self.view_is) at c.requires.joined in
    let new = rw c.in_ok-attributes.ensures.ok at c.publish_object_class.ensures in
    rw (← c.self.view_is) (does_next (state_from c.self.inside.catalogue (points_of c.self.inside.points) (declared.declarations_of c.self.inside.declarations) (registry_of c.self.inside.registry) (members_of c.self.inside.members.shown)) (Call c.args.federate (service.PublishObjectClass c.args.class c.args.attributes.now)) (rw joined (sym fault_is ∙ c.in_default.is))
    ∙ ap (λ (d : DeclarationsValue). answer_outcome answer.Done (state_from c.self.inside.catalogue (points_of c.self.inside.points) d (registry_of c.self.inside.registry) (members_of c.self.inside.members.shown))) (sym new))
