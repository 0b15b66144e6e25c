use Rattle.std.proofs.Common.{◌≡◌, ℕ, None, refl, sym, ap, subst, ◌∙◌}
use Rattle.hla_base.specs.declared.row.Role.TheVariants.{Disabled}
use Rattle.hla_base.specs.declared.row.TimeRow.{TimeRow}
use Rattle.hla_base.specs.RowRefusals.{first_fault, unregulate_tests}
use Rattle.hla_base.specs.Tables.{forever}
use Rattle.hla_machine.specs.declared.service.Service.TheVariants as service
use Rattle.hla_machine.specs.declared.step.Step.TheVariants.{Call}
use Rattle.hla_declaration.specs.Declarations as declared
use Rattle.hla_machine.specs.Registered.{registry_of}
use Rattle.hla_component_rules.specs.LocalValue.{LocalValue}
use Rattle.hla_machine.specs.Refusals.{refusal}
use Rattle.hla_machine.specs.declared.step.Answer.TheVariants as answer
use Rattle.hla_components.specs.Components.{Components}
use Rattle.hla_components.specs.Next.{next, answer_outcome, components_seen}
use Rattle.hla_members.specs.declared.change.Change.TheVariants as change
use Rattle.hla_members.specs.Changes.{changed_local}
use Rattle.hla_synchronization.specs.OpenPoints.{points_of}
use Rattle.hla_federation.specs.FederationValue.{FederationValue}
use Rattle.hla_execution.specs.MemberValue.{MemberTables, members_of}
use Rattle.hla_members.specs.Members.{with_component, with_null_sent}
use Rattle.hla_federation.specs.Steps.State.{state_of, state_from, IsWhole}
use Rattle.hla_federation.proofs.Steps.Doing.{does_next}
use Rattle.hla_federation.proofs.parts.Parts.disable_time_regulation.Goals as goal
use Rattle.hla_federation.proofs.Steps.Announcing.{null_state, null_whole}

pub returns-clause-whole : goal.returns-clause-whole
returns-clause-whole c =
    let f = c.args.federate in
    let now = c.args.self.now in
    let ch = change.CeaseRegulation in
    let back = c.self-2.view_is ∙ c.in_ok-send_null.ensures.same in
    let moved : members_of c.change.new.self.shown ≡ with_component (with_null_sent (members_of now.members) f c.epoch-epoch.result forever) f (changed_local ch ((members_of now.members).local f)) =
    c.change.ensures
    ∙ ap (λ (v : FederationValue). with_component (members_of v.members) f (changed_local ch ((members_of v.members).local f))) c.self-2.view_is
    ∙ ap (λ (t : MemberTables). with_component t f (changed_local ch (t.local f))) c.in_ok-send_null.ensures.wires in
    subst (λ (v : FederationValue). IsWhole (record v { members = c.change.new.self.shown })) (sym back)
    (null_whole now f c.epoch-epoch.result forever _ c.change.new.self.shown c.requires.sound.whole moved refl)

pub returns-clause-done : goal.returns-clause-done
returns-clause-done c =
    let step = Call c.args.federate service.DisableTimeRegulation in
    let f = c.args.federate in
    let now = c.args.self.now in
    let ch = change.CeaseRegulation in
    let back = c.self-2.view_is ∙ c.in_ok-send_null.ensures.same in
    let moved : members_of c.change.new.self.shown ≡ with_component (with_null_sent (members_of now.members) f c.epoch-epoch.result forever) f (changed_local ch ((members_of now.members).local f)) =
    c.change.ensures
    ∙ ap (λ (v : FederationValue). with_component (members_of v.members) f (changed_local ch ((members_of v.members).local f))) c.self-2.view_is
    ∙ ap (λ (t : MemberTables). with_component t f (changed_local ch (t.local f))) c.in_ok-send_null.ensures.wires in
    let m = members_of now.members in
    let local = c.local-local.ensures ∙ ap (λ (v : FederationValue). (members_of v.members).local f) c.self.view_is in
    let epoch = c.epoch-epoch.ensures ∙ ap (λ (l : LocalValue). l.epoch) local in
    let after = moved ∙ ap (λ (k : ℕ). with_component (with_null_sent m f k forever) f (changed_local ch (m.local f))) epoch in
    let tests = c.unregulate_fault.ensures ∙ ap (λ (r : TimeRow). first_fault (unregulate_tests r)) (c.state.ensures ∙ ap (λ (l : LocalValue). l.row) local) in
    let none : refusal (components_seen (state_of now)) step ≡ None = rw c.requires.joined (sym tests ∙ c.in_default.is) in
    let state = null_state now.catalogue (points_of now.points) (declared.declarations_of now.declarations) (registry_of now.objects) m f (record (m.local f).row { regulating = Disabled }) forever
    ∙ ap (λ (t : MemberTables). state_from now.catalogue (points_of now.points) (declared.declarations_of now.declarations) (registry_of now.objects) t) (sym after) in
    subst (λ (v : FederationValue). next (state_of now) step ≡ answer_outcome answer.Done (state_of (record v { members = c.change.new.self.shown }))) (sym back)
    (does_next (state_of now) step none ∙ ap (λ (s : Components). answer_outcome answer.Done s) state)
