-- The caller is told, and then all; and one more point is open.
use Rattle.std.proofs.Common.{◌≡◌, List, [], ◌∷◌, ◌++◌, ap, subst, ◌∙◌}
use Rattle.hla_synchronization.specs.declared.open_points.OpenPoint.{OpenPoint}
use Rattle.hla_declaration.specs.Declarations as declared
use Rattle.hla_machine.specs.Registered.{registry_of}
use Rattle.hla_base.specs.declared.notice.NoticeKind.TheVariants as kind
use Rattle.hla_synchronization.specs.Points.{notice, new_point}
use Rattle.hla_synchronization.specs.OpenPoints.{points_of}
use Rattle.hla_execution.specs.MemberValue.{members_of}
use Rattle.hla_members.specs.Telling.{with_all_told, with_one_told}
use Rattle.hla_federation.specs.FederationValue.{FederationValue}
use Rattle.hla_federation.specs.Steps.State.{state_of, state_from}
use Rattle.hla_components.specs.Next.{with_point_opened}
use Rattle.hla_federation.proofs.Steps.Notifying.{opened_state, whole_one_told, whole_told, whole_as}
use Rattle.hla_federation.proofs.parts.Parts.open_point.Goals as goal

pub returns-clause-whole : goal.returns-clause-whole
returns-clause-whole c =
    let whole = rw (← c.self.view_is) at c.requires.may.sound.whole in
    let old = members_of c.self.inside.members.shown in
    let v : FederationValue = record { catalogue = c.self.inside.catalogue; points = c.self.inside.points; declarations = c.self.inside.declarations; objects = c.self.inside.registry; members = c.self.inside.members.shown; next_name = c.self.inside.next_name } in
    whole_as v c.tell_one_and_all.new.self.shown c.open.new.self _ c.in_ok-tell_one_and_all.ensures.ok (whole_told _ _ _ (notice kind.Announced c.in_ok-announced.announced ∷ []) (whole_one_told _ _ old c.args.federate (notice kind.RegistrationSucceeded c.in_ok-succeeded.succeeded ∷ []) whole.parts)) (λ g y. y) whole.named

pub returns-clause-ok : goal.returns-clause-ok
returns-clause-ok c =
    let f = c.args.federate in
    let old = members_of c.self.inside.members.shown in
    let free = rw (← c.self.view_is) at c.requires.free in
    let told = c.in_ok-tell_one_and_all.ensures.ok
    ∙ (λ i. with_all_told (notice kind.Announced (c.in_ok-announced.ensures.ok i) ∷ []) (with_one_told f (notice kind.RegistrationSucceeded (c.in_ok-succeeded.ensures.ok i) ∷ []) old)) in
    let opened = c.in_ok-open.ensures.ok ∙ ap (λ (ps : List OpenPoint). points_of ps ++ new_point c.args.label ∷ []) c.in_ok-points.ensures.ok in
    subst (λ (v : FederationValue). state_from c.self.inside.catalogue (points_of c.open.new.self) (declared.declarations_of c.self.inside.declarations) (registry_of c.self.inside.registry) (members_of c.tell_one_and_all.new.self.shown) ≡ with_point_opened (state_of v) f c.args.label) c.self.view_is
    ((λ i. state_from c.self.inside.catalogue (opened i) (declared.declarations_of c.self.inside.declarations) (registry_of c.self.inside.registry) (told i))
    ∙ opened_state c.self.inside.catalogue (points_of c.self.inside.points) (declared.declarations_of c.self.inside.declarations) (registry_of c.self.inside.registry) old f c.args.label free)
