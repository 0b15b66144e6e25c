-- The caller has achieved the point, and what is complete closes.
use Rattle.std.proofs.Common.{◌≡◌, ◌≤◌, List, map, ℕ, false, sym, ap, ◌∙◌}
use Rattle.hla_base.specs.declared.notice.Notice.{Notice}
use Rattle.hla_synchronization.specs.declared.open_points.OpenPoint.{OpenPoint}
use Rattle.hla_machine.specs.declared.service.Service.TheVariants as service
use Rattle.hla_machine.specs.declared.step.Answer.TheVariants as answer
use Rattle.hla_machine.specs.declared.step.Step.TheVariants.{Call}
use Rattle.hla_execution.specs.MemberValue.{MemberValue, members_of}
use Rattle.hla_members.proofs.MemberTables.{past}
use Rattle.hla_components.specs.Components.{Components}
use Rattle.hla_components.specs.Next.{answer_outcome}
use Rattle.hla_declaration.specs.Declarations as declared
use Rattle.hla_machine.specs.Registered.{registry_of}
use Rattle.hla_synchronization.specs.Points.{Point, with_point, achieved_by, closing, left_open, closing_of}
use Rattle.hla_synchronization.specs.OpenPoints.{points_of, members_in}
use Rattle.hla_members.specs.Telling.{with_all_told}
use Rattle.hla_federation.specs.FederationValue.{FederationValue}
use Rattle.hla_federation.specs.Steps.State.{state_from}
use Rattle.hla_federation.proofs.Steps.Doing.{does_next}
use Rattle.hla_federation.proofs.Steps.Notifying.{closed_state, members_are, whole_told, whole_as}
use Rattle.hla_federation.proofs.parts.Parts.synchronization_point_achieved.Goals as goal

pub returns-clause-whole : goal.returns-clause-whole
returns-clause-whole c =
    let whole = rw (← c.self.view_is) at c.requires.sound.whole in
    let old = members_of c.self.inside.members.shown in
    let v : FederationValue = record { catalogue = c.self.inside.catalogue; points = c.self.inside.points; declarations = c.self.inside.declarations; objects = c.self.inside.registry; members = c.self.inside.members.shown; next_name = c.self.inside.next_name } in
    whole_as v c.tell_all.new.self.shown c.close.new.self _ c.in_ok-tell_all.ensures.ok (whole_told _ _ old c.as_slice.result.now whole.parts) (λ g y. y) whole.named

pub returns-clause-done : goal.returns-clause-done
returns-clause-done c =
    let f = c.args.federate in
    let x = Call f (service.SynchronizationPointAchieved c.args.label.now) in
    let fault_is = rw (← c.self.view_is) at c.achieve_fault.ensures in
    let whole = rw (← c.self.view_is) at c.requires.sound.whole in
    let old = members_of c.self.inside.members.shown in
    let achieved_points : List Point = with_point (achieved_by f) c.args.label.now (points_of c.self.inside.points) in
    let ms = members_in c.joined-members.result in
    let achieved = c.achieve.ensures ∙ ap (λ (ps : List OpenPoint). with_point (achieved_by f) c.args.label.now (points_of ps)) c.in_ok-points.ensures.ok in
    let told = c.in_ok-tell_all.ensures.ok ∙ ap (λ (ns : List Notice). with_all_told ns old) (c.as_slice.ensures.value ∙ c.in_ok-closings.ensures.ok ∙ ap (λ (ps : List Point). map closing_of (closing ms ps)) achieved) in
    let left = c.close.ensures ∙ ap (left_open ms) achieved in
    let away : (g : ℕ) → old.next_federate ≤ g → old.joined g ≡ false = λ g beyond. ap (λ (m : MemberValue). m.joined) (past c.self.inside.members.shown g beyond) in
    let listed = members_are c.self.inside.catalogue achieved_points (declared.declarations_of c.self.inside.declarations) (registry_of c.self.inside.registry) old c.joined-members.result whole.parts.few away c.joined-members.ensures in
    let state = (λ i. state_from c.self.inside.catalogue (left i) (declared.declarations_of c.self.inside.declarations) (registry_of c.self.inside.registry) (told i))
    ∙ closed_state c.self.inside.catalogue achieved_points (declared.declarations_of c.self.inside.declarations) (registry_of c.self.inside.registry) old ms listed in
    rw (← c.self.view_is) (does_next (state_from c.self.inside.catalogue (points_of c.self.inside.points) (declared.declarations_of c.self.inside.declarations) (registry_of c.self.inside.registry) old) x (sym fault_is ∙ c.in_default.is)
    ∙ ap (λ (s : Components). answer_outcome answer.Done s) (sym state))
