use Rattle.std.proofs.Common.{ℕ, refl, sym, ap, ◌∙◌, Option}
use Rattle.hla_machine.specs.declared.service.Service.TheVariants as service
use Rattle.hla_machine.specs.declared.step.Step.TheVariants.{Call}
use Rattle.hla_declaration.specs.Declarations as declared
use Rattle.hla_machine.specs.Registered.{registry_of}
use Rattle.hla_execution.specs.MemberValue.{members_of}
use Rattle.hla_components.specs.Next.{handle_outcome}
use Rattle.hla_synchronization.specs.OpenPoints.{points_of}
use Rattle.hla_federation.specs.Steps.State.{state_from}
use Rattle.hla_federation.proofs.Steps.Doing.{does_next}
use Rattle.hla_base.specs.Tables.{numbers_below}
use Rattle.hla_members.proofs.Finding.{any_found, none_found}
use Rattle.hla_federation.proofs.parts.Parts.object_handle.Goals as goal

pub returns-in-Some : goal.returns-in-Some
returns-in-Some c =
    let joined = rw (← c.self.view_is) at c.requires.joined in
    let found = sym c.object_named.ensures ∙ c.in-Some.is in
    let any = any_found _ (numbers_below (registry_of c.self.inside.registry).next_object) c.in-Some.number found in
    rw (← c.self.view_is) (does_next (state_from c.self.inside.catalogue (points_of c.self.inside.points) (declared.declarations_of c.self.inside.declarations) (registry_of c.self.inside.registry) (members_of c.self.inside.members.shown)) (Call c.args.federate (service.GetObjectInstanceHandle c.args.name.now)) (rw (joined, any) refl)
    ∙ ap (λ (n : Option ℕ). handle_outcome n (state_from c.self.inside.catalogue (points_of c.self.inside.points) (declared.declarations_of c.self.inside.declarations) (registry_of c.self.inside.registry) (members_of c.self.inside.members.shown))) found)

pub returns-in-None : goal.returns-in-None
returns-in-None c =
    let joined = rw (← c.self.view_is) at c.requires.joined in
    let none = none_found _ (numbers_below (registry_of c.self.inside.registry).next_object) (sym c.object_named.ensures ∙ c.in-None.is) in
    rw (← c.self.view_is) (rw (joined, none) refl)
