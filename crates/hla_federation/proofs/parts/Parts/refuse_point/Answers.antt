-- The caller alone is told.
use Rattle.std.proofs.Common.{◌≡◌, [], ◌∷◌, ap, subst, ◌∙◌}
use Rattle.hla_declaration.specs.Declarations as declared
use Rattle.hla_machine.specs.Registered.{registry_of}
use Rattle.hla_base.specs.declared.notice.NoticeKind.TheVariants as kind
use Rattle.hla_synchronization.specs.Points.{notice}
use Rattle.hla_synchronization.specs.OpenPoints.{points_of}
use Rattle.hla_execution.specs.MemberValue.{MemberTables, members_of}
use Rattle.hla_members.proofs.Rooms.{on_ok}
use Rattle.hla_federation.specs.FederationValue.{FederationValue}
use Rattle.hla_federation.specs.Steps.State.{state_of, state_from}
use Rattle.hla_components.specs.Next.{with_point_opened}
use Rattle.hla_federation.proofs.Steps.Notifying.{failed_state, whole_one_told, whole_as, either_way}
use Rattle.hla_federation.proofs.parts.Parts.refuse_point.Goals as goal

pub returns-clause-whole : goal.returns-clause-whole
returns-clause-whole c =
    let whole = rw (← c.self.view_is) at c.requires.may.sound.whole in
    let old = members_of c.self.inside.members.shown in
    let v : FederationValue = record { catalogue = c.self.inside.catalogue; points = c.self.inside.points; declarations = c.self.inside.declarations; objects = c.self.inside.registry; members = c.self.inside.members.shown; next_name = c.self.inside.next_name } in
    either_way c.tell_one.result
    (λ told. whole_as v c.tell_one.new.self.shown c.self.inside.points _ told (whole_one_told _ _ old c.args.federate (notice kind.RegistrationFailed c.args.label ∷ []) whole.parts) (λ g y. y) whole.named)
    (λ same. whole_as v c.tell_one.new.self.shown c.self.inside.points old (ap members_of same) whole.parts (λ g y. y) whole.named)
    c.tell_one.ensures.ok c.tell_one.ensures.unchanged

pub returns-clause-ok : goal.returns-clause-ok
returns-clause-ok c =
    let old = members_of c.self.inside.members.shown in
    let taken = rw (← c.self.view_is) at c.requires.taken in
    on_ok c.tell_one.result (λ told.
    subst (λ (v : FederationValue). state_from c.self.inside.catalogue (points_of c.self.inside.points) (declared.declarations_of c.self.inside.declarations) (registry_of c.self.inside.registry) (members_of c.tell_one.new.self.shown) ≡ with_point_opened (state_of v) c.args.federate c.args.label) c.self.view_is
    (ap (λ (t : MemberTables). state_from c.self.inside.catalogue (points_of c.self.inside.points) (declared.declarations_of c.self.inside.declarations) (registry_of c.self.inside.registry) t) told
    ∙ failed_state c.self.inside.catalogue (points_of c.self.inside.points) (declared.declarations_of c.self.inside.declarations) (registry_of c.self.inside.registry) old c.args.federate c.args.label taken))
    c.tell_one.ensures.ok
