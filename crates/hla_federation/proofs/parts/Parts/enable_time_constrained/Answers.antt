use Rattle.std.proofs.Common.{◌≡◌, None, refl, sym, ap, subst, ◌∙◌}
use Rattle.hla_base.specs.declared.row.TimeRow.{TimeRow}
use Rattle.hla_base.specs.RowRefusals.{first_fault, constrain_tests}
use Rattle.hla_component_rules.specs.LocalValue.{LocalValue}
use Rattle.hla_machine.specs.Refusals.{refusal}
use Rattle.hla_machine.specs.declared.service.Service.TheVariants as service
use Rattle.hla_machine.specs.declared.step.Answer.TheVariants as answer
use Rattle.hla_machine.specs.declared.step.Step.TheVariants.{Call}
use Rattle.hla_components.specs.Components.{Components}
use Rattle.hla_components.specs.Next.{next, answer_outcome, done_outcome, components_seen}
use Rattle.hla_federation.specs.FederationValue.{FederationValue}
use Rattle.hla_federation.specs.Steps.State.{state_of}
use Rattle.hla_federation.proofs.Steps.Changing.{component_whole, row_state}
use Rattle.hla_federation.proofs.Steps.Doing.{does_next}
use Rattle.hla_federation.proofs.parts.Parts.enable_time_constrained.Goals as goal

pub returns-clause-whole : goal.returns-clause-whole
returns-clause-whole c =
    let whole = rw (← c.self.view_is) at c.requires.sound.whole in
    component_whole _ c.args.federate _ c.change.new.self.shown c.change.ensures whole refl

pub returns-clause-done : goal.returns-clause-done
returns-clause-done c =
    let step = Call c.args.federate (service.EnableTimeConstrained) in
    let joined = rw (← c.self.view_is) at c.requires.joined in
    let v : FederationValue = record { catalogue = c.self.inside.catalogue; points = c.self.inside.points; declarations = c.self.inside.declarations; objects = c.self.inside.registry; members = c.self.inside.members.shown; next_name = c.self.inside.next_name } in
    let tests = c.constrain_fault.ensures ∙ ap (λ (r : TimeRow). first_fault (constrain_tests r)) (c.state.ensures ∙ ap (λ (l : LocalValue). l.row) c.local.ensures) in
    let none : refusal (components_seen (state_of v)) step ≡ None = rw joined (sym tests ∙ c.in_default.is) in
    subst (λ (w : FederationValue). next (state_of w) step ≡ answer_outcome answer.Done (state_of (record v { members = c.change.new.self.shown }))) c.self.view_is
    (does_next (state_of v) step none ∙ ap (λ (s : Components). done_outcome s) (row_state v c.args.federate _ c.change.new.self.shown c.change.ensures))
