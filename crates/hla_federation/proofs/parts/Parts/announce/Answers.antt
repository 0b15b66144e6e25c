use Rattle.std.proofs.Common.{◌≡◌, ℕ, Option, None, Some, Result, inr, refl, sym, ap, subst, ◌∙◌}
use Rattle.hla_base.specs.declared.fault.Fault.{Fault}
use Rattle.hla_machine.specs.declared.step.Step.TheVariants.{Announce}
use Rattle.hla_declaration.specs.Declarations as declared
use Rattle.hla_machine.specs.Registered.{registry_of}
use Rattle.hla_component_rules.specs.LocalValue.{LocalValue}
use Rattle.hla_machine.specs.Refusals.{refusal}
use Rattle.hla_machine.specs.declared.step.Answer.TheVariants as answer
use Rattle.hla_components.specs.Components.{Components}
use Rattle.hla_components.specs.Next.{next, answer_outcome, components_seen}
use Rattle.hla_members.specs.declared.change.Change.TheVariants as change
use Rattle.hla_members.specs.Changes.{changed_local}
use Rattle.hla_synchronization.specs.OpenPoints.{points_of}
use Rattle.hla_federation.specs.FederationValue.{FederationValue}
use Rattle.hla_execution.specs.MemberValue.{MemberTables, members_of}
use Rattle.hla_members.specs.Members.{with_component, with_null_sent}
use Rattle.hla_federation.specs.Steps.State.{state_of, state_from, IsWhole}
use Rattle.hla_federation.proofs.Steps.Doing.{does_next}
use Rattle.hla_federation.proofs.parts.Parts.announce.Goals as goal
use Rattle.hla_federation.specs.Steps.Answering.{answered_as}
use Rattle.hla_federation.specs.Steps.State.{Ends}
use Rattle.hla_federation.proofs.Steps.Announcing.{announces, announcement_takes, announced_state, null_whole}
use Rattle.hla_federation.proofs.Steps.Changing.{handed_on}

pub returns-in_err-send_null-clause-done : goal.returns-in_err-send_null-clause-done
returns-in_err-send_null-clause-done c =
    let f = c.args.federate in
    let now = c.args.self.now in
    let none : refusal (components_seen (state_of now)) (Announce f) ≡ None = sym c.caller_fault.ensures ∙ c.in_default.is in
    let takes = announcement_takes (state_of now) f c.in-Some-announcement.bound (sym c.announcement.ensures ∙ c.in-Some-announcement.is) in
    handed_on c.in_err-send_null.field-0.0 c.from_residual.result (λ (r : Result (Option ℕ) Fault). Ends now (Announce f) (answered_as answer.Announced r) c.send_null.new.self) c.from_residual.ensures
    (inr (none, c.in_err-send_null.ensures.err, takes), c.in_err-send_null.ensures.unchanged)

pub returns-clause-whole : goal.returns-clause-whole
returns-clause-whole c =
    let f = c.args.federate in
    let now = c.args.self.now in
    let ch = change.Announce c.in-Some-announcement.bound in
    let back = c.self-2.view_is ∙ c.in_ok-send_null.ensures.same in
    let moved : members_of c.change.new.self.shown ≡ with_component (with_null_sent (members_of now.members) f c.epoch-epoch.result c.in-Some-announcement.bound) f (changed_local ch ((members_of now.members).local f)) =
    c.change.ensures
    ∙ ap (λ (v : FederationValue). with_component (members_of v.members) f (changed_local ch ((members_of v.members).local f))) c.self-2.view_is
    ∙ ap (λ (t : MemberTables). with_component t f (changed_local ch (t.local f))) c.in_ok-send_null.ensures.wires in
    subst (λ (v : FederationValue). IsWhole (record v { members = c.change.new.self.shown })) (sym back)
    (null_whole now f c.epoch-epoch.result c.in-Some-announcement.bound _ c.change.new.self.shown c.requires.whole moved refl)

pub returns-clause-done : goal.returns-clause-done
returns-clause-done c =
    let p = c.in-Some-announcement.bound in
    let f = c.args.federate in
    let now = c.args.self.now in
    let ch = change.Announce c.in-Some-announcement.bound in
    let back = c.self-2.view_is ∙ c.in_ok-send_null.ensures.same in
    let moved : members_of c.change.new.self.shown ≡ with_component (with_null_sent (members_of now.members) f c.epoch-epoch.result c.in-Some-announcement.bound) f (changed_local ch ((members_of now.members).local f)) =
    c.change.ensures
    ∙ ap (λ (v : FederationValue). with_component (members_of v.members) f (changed_local ch ((members_of v.members).local f))) c.self-2.view_is
    ∙ ap (λ (t : MemberTables). with_component t f (changed_local ch (t.local f))) c.in_ok-send_null.ensures.wires in
    let m = members_of now.members in
    let epoch = c.epoch-epoch.ensures ∙ ap (λ (l : LocalValue). l.epoch) c.local.ensures ∙ ap (λ (v : FederationValue). ((members_of v.members).local f).epoch) c.self.view_is in
    let after = moved ∙ ap (λ (k : ℕ). with_component (with_null_sent m f k p) f (changed_local ch (m.local f))) epoch in
    let none : refusal (components_seen (state_of now)) (Announce f) ≡ None = sym c.caller_fault.ensures ∙ c.in_default.is in
    let state = announced_state now.catalogue (points_of now.points) (declared.declarations_of now.declarations) (registry_of now.objects) m f p
    ∙ ap (λ (t : MemberTables). state_from now.catalogue (points_of now.points) (declared.declarations_of now.declarations) (registry_of now.objects) t) (sym after) in
    subst (λ (v : FederationValue). next (state_of now) (Announce f) ≡ answer_outcome (answer.Announced (Some p)) (state_of (record v { members = c.change.new.self.shown }))) (sym back)
    (does_next (state_of now) (Announce f) none
    ∙ announces (state_of now) f p (sym c.announcement.ensures ∙ c.in-Some-announcement.is)
    ∙ ap (λ (s : Components). answer_outcome (answer.Announced (Some p)) s) state)
