use Rattle.std.proofs.Common.{◌≡◌, ℕ, refl, sym, ap, subst, ◌∙◌}
use Rattle.hla_declaration.specs.Declarations as declared
use Rattle.hla_machine.specs.Registered.{registry_of}
use Rattle.hla_component_rules.specs.LocalValue.{LocalValue}
use Rattle.hla_component_rules.specs.Picking.{least_bound}
use Rattle.hla_component_rules.specs.Promising.{least_waiting}
use Rattle.hla_machine.specs.declared.service.Service.TheVariants as service
use Rattle.hla_machine.specs.declared.step.Answer.TheVariants as answer
use Rattle.hla_machine.specs.declared.step.Step.TheVariants.{Call}
use Rattle.hla_components.specs.Next.{next, answer_outcome}
use Rattle.hla_synchronization.specs.OpenPoints.{points_of}
use Rattle.hla_federation.specs.FederationValue.{FederationValue}
use Rattle.hla_execution.specs.MemberValue.{members_of}
use Rattle.hla_federation.specs.Steps.State.{state_of, state_from}
use Rattle.hla_federation.proofs.Steps.Declaring.{bound_of}
use Rattle.hla_federation.proofs.Steps.Doing.{does_next}
use Rattle.hla_federation.proofs.parts.Parts.query_min_next_event_time.Goals as goal

pub returns : goal.returns
returns c =
    let whole = rw (← c.self.view_is) at c.requires.sound.whole in
    let joined = rw (← c.self.view_is) at c.requires.joined in
    let s = state_from c.self.inside.catalogue (points_of c.self.inside.points) (declared.declarations_of c.self.inside.declarations) (registry_of c.self.inside.registry) (members_of c.self.inside.members.shown) in
    let l = (members_of c.self.inside.members.shown).local c.args.federate in
    let bound = bound_of c.self.inside.catalogue (points_of c.self.inside.points) (declared.declarations_of c.self.inside.declarations) (registry_of c.self.inside.registry) (members_of c.self.inside.members.shown) c.args.federate whole.parts in
    let value = c.least_waiting.ensures ∙ ap (λ (x : LocalValue). least_waiting x.row x.tso x.ro (least_bound x)) c.local.ensures ∙ ap (λ (b : ℕ). least_waiting l.row l.tso l.ro b) (sym bound) in
    subst (λ (v : FederationValue). next (state_of v) (Call c.args.federate service.QueryMinNextEventTime) ≡ answer_outcome (answer.Time c.least_waiting.result) (state_of v)) c.self.view_is
    (does_next s (Call c.args.federate service.QueryMinNextEventTime) (rw joined refl) ∙ ap (λ (n : ℕ). answer_outcome (answer.Time n) s) (sym value))
