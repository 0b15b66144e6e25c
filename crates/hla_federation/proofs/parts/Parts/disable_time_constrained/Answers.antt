use Rattle.std.proofs.Common.{◌≡◌, None, refl, sym, ap, subst, ◌∙◌}
use Rattle.hla_base.specs.declared.row.TimeRow.{TimeRow}
use Rattle.hla_base.specs.RowRefusals.{first_fault, unconstrain_tests}
use Rattle.hla_declaration.specs.Declarations as declared
use Rattle.hla_machine.specs.Registered.{registry_of}
use Rattle.hla_component_rules.specs.LocalValue.{LocalValue}
use Rattle.hla_machine.specs.Refusals.{refusal}
use Rattle.hla_machine.specs.declared.service.Service.TheVariants as service
use Rattle.hla_machine.specs.declared.step.Answer.TheVariants as answer
use Rattle.hla_machine.specs.declared.step.Outcome.TheVariants as outcome
use Rattle.hla_machine.specs.declared.step.Step.TheVariants.{Call}
use Rattle.hla_components.specs.Next.{Outcomes, next, components_seen}
use Rattle.hla_synchronization.specs.OpenPoints.{points_of}
use Rattle.hla_federation.specs.FederationValue.{FederationValue}
use Rattle.hla_members.specs.Changes.{local_unconstrained}
use Rattle.hla_execution.specs.MemberValue.{members_of}
use Rattle.hla_federation.specs.Steps.State.{state_of}
use Rattle.hla_federation.proofs.Steps.Changing.{component_whole, component_state, queues_changed}
use Rattle.hla_federation.proofs.Steps.Doing.{does_next}
use Rattle.hla_federation.proofs.parts.Parts.disable_time_constrained.Goals as goal

pub returns-clause-whole : goal.returns-clause-whole
returns-clause-whole c =
    let whole = rw (← c.self.view_is) at c.requires.sound.whole in
    component_whole _ c.args.federate _ c.cease_constraint.new.self.shown c.in_ok-cease_constraint.ensures.ok whole refl

pub returns-clause-done : goal.returns-clause-done
returns-clause-done c =
    let f = c.args.federate in
    let joined = rw (← c.self.view_is) at c.requires.joined in
    let old = members_of c.self.inside.members.shown in
    let v : FederationValue = record { catalogue = c.self.inside.catalogue; points = c.self.inside.points; declarations = c.self.inside.declarations; objects = c.self.inside.registry; members = c.self.inside.members.shown; next_name = c.self.inside.next_name } in
    let tests = c.unconstrain_fault.ensures ∙ ap (λ (r : TimeRow). first_fault (unconstrain_tests r)) (c.state.ensures ∙ ap (λ (l : LocalValue). l.row) c.local.ensures) in
    let none : refusal (components_seen (state_of v)) (Call f service.DisableTimeConstrained) ≡ None = rw joined (sym tests ∙ c.in_default.is) in
    let does = does_next (state_of v) (Call f service.DisableTimeConstrained) none in
    let state = component_state v f (local_unconstrained (old.local f)) c.cease_constraint.new.self.shown c.in_ok-cease_constraint.ensures.ok
    ∙ queues_changed c.self.inside.catalogue (points_of c.self.inside.points) (declared.declarations_of c.self.inside.declarations) (registry_of c.self.inside.registry) old f _ _ _ in
    subst (λ (w : FederationValue). ((next (state_of w) (Call f service.DisableTimeConstrained)).outcome ≡ outcome.Done answer.Done) × ((next (state_of w) (Call f service.DisableTimeConstrained)).state ≡ state_of (record v { members = c.cease_constraint.new.self.shown }))) c.self.view_is
    (ap (λ (o : Outcomes). o.outcome) does, ap (λ (o : Outcomes). o.state) does ∙ sym state)
