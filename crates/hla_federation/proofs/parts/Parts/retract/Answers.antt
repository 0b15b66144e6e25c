use Rattle.std.proofs.Common.{◌≡◌, None, sym, ap, subst, ◌∙◌}
use Rattle.hla_declaration.specs.Declarations as declared
use Rattle.hla_machine.specs.Registered.{registry_of}
use Rattle.hla_machine.specs.Refusals.{refusal}
use Rattle.hla_machine.specs.declared.service.Service.TheVariants as service
use Rattle.hla_machine.specs.declared.step.Answer.TheVariants as answer
use Rattle.hla_machine.specs.declared.step.Step.TheVariants.{Call}
use Rattle.hla_components.specs.Components.{Components}
use Rattle.hla_components.specs.Next.{next, answer_outcome, components_seen}
use Rattle.hla_synchronization.specs.OpenPoints.{points_of}
use Rattle.hla_federation.specs.FederationValue.{FederationValue}
use Rattle.hla_execution.specs.MemberValue.{MemberTables, members_of}
use Rattle.hla_members.specs.Noting.{with_retracted}
use Rattle.hla_federation.specs.Steps.State.{state_of, state_from, IsWhole}
use Rattle.hla_federation.proofs.Steps.Doing.{does_next}
use Rattle.hla_federation.proofs.Steps.Retracting.{after_retraction, retracted_whole, retractable_unless_refused}
use Rattle.hla_federation.proofs.parts.Parts.retract.Goals as goal

pub retract-requires-clause-retractable : goal.retract-requires-clause-retractable
retract-requires-clause-retractable c =
    let f = c.args.federate in
    let k = c.args.event.serial in
    let none = sym c.retract_fault.ensures ∙ c.in_default.is in
    ap (λ (v : FederationValue). ((members_of v.members).sent f k).retractable) c.self.view_is
    ∙ ap (λ (t : MemberTables). (t.sent f k).retractable) c.in_ok-send_retraction.ensures.wires
    ∙ retractable_unless_refused (state_of c.args.self.now) f c.args.event none

pub returns-clause-whole : goal.returns-clause-whole
returns-clause-whole c =
    let f = c.args.federate in
    let k = c.args.event.serial in
    let now = c.args.self.now in
    let back = c.self.view_is ∙ c.in_ok-send_retraction.ensures.same in
    let moved : members_of c.retract.new.self.shown ≡ after_retraction (members_of now.members) f k =
    c.retract.ensures
    ∙ ap (λ (v : FederationValue). record (members_of v.members) { sent = with_retracted (members_of v.members).sent f k }) c.self.view_is
    ∙ ap (λ (t : MemberTables). record t { sent = with_retracted t.sent f k }) c.in_ok-send_retraction.ensures.wires in
    subst (λ (v : FederationValue). IsWhole (record v { members = c.retract.new.self.shown })) (sym back)
    (retracted_whole now f k c.retract.new.self.shown c.requires.sound.whole moved)

pub returns-clause-done : goal.returns-clause-done
returns-clause-done c =
    let f = c.args.federate in
    let k = c.args.event.serial in
    let step = Call f (service.Retract c.args.event) in
    let now = c.args.self.now in
    let back = c.self.view_is ∙ c.in_ok-send_retraction.ensures.same in
    let moved : members_of c.retract.new.self.shown ≡ after_retraction (members_of now.members) f k =
    c.retract.ensures
    ∙ ap (λ (v : FederationValue). record (members_of v.members) { sent = with_retracted (members_of v.members).sent f k }) c.self.view_is
    ∙ ap (λ (t : MemberTables). record t { sent = with_retracted t.sent f k }) c.in_ok-send_retraction.ensures.wires in
    let none : refusal (components_seen (state_of now)) step ≡ None = sym c.retract_fault.ensures ∙ c.in_default.is in
    let state = ap (λ (t : MemberTables). state_from now.catalogue (points_of now.points) (declared.declarations_of now.declarations) (registry_of now.objects) t) (sym moved) in
    subst (λ (v : FederationValue). next (state_of now) step ≡ answer_outcome answer.Done (state_of (record v { members = c.retract.new.self.shown }))) (sym back)
    (does_next (state_of now) step none ∙ ap (λ (s : Components). answer_outcome answer.Done s) state)
