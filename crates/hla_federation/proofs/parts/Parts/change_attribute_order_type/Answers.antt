use Rattle.std.proofs.Common.{◌≡◌, None, Result, List, inl, inr, refl, sym, ap, ◌∙◌, length, arith}
use Rattle.hla_base.specs.declared.fault.Fault.{Fault}
use Rattle.hla_declaration.specs.Declarations as declared
use Rattle.hla_object_registry.specs.Queries.{is_known_in}
use Rattle.hla_machine.specs.Registered.{Registered, RegistryValue, registry_of}
use Rattle.hla_machine.specs.Refusals.{refusal, tests}
use Rattle.hla_machine.specs.declared.service.Service.TheVariants as service
use Rattle.hla_machine.specs.declared.step.Answer.{Answer}
use Rattle.hla_machine.specs.declared.step.Answer.TheVariants as answer
use Rattle.hla_machine.specs.declared.step.Step.TheVariants.{Call}
use Rattle.hla_execution.specs.MemberValue.{members_of}
use Rattle.hla_components.specs.Next.{answer_outcome, components_seen}
use Rattle.hla_synchronization.specs.OpenPoints.{points_of}
use Rattle.hla_federation.specs.FederationValue.{FederationValue}
use Rattle.hla_federation.specs.Steps.State.{Ends, state_of, state_from}
use Rattle.hla_federation.proofs.Steps.Changing.{handed_on}
use Rattle.hla_federation.proofs.Steps.Doing.{does_next}
use Rattle.hla_federation.proofs.Steps.Ordering.{attributes_numbered, known_numbered, known_there, not_false}
use Rattle.hla_federation.proofs.Steps.Sent.{none_applies}
use Rattle.hla_federation.proofs.parts.Parts.change_attribute_order_type.Goals as goal

pub returns-in-Some-clause-done : goal.returns-in-Some-clause-done
returns-in-Some-clause-done c = (inl (sym (c.attribute_order_fault.ensures c.args.order) ∙ c.in-Some.is), refl)

pub change_orders-requires-clause-some : goal.change_orders-requires-clause-some
change_orders-requires-clause-some c =
    let now = c.args.self.now in
    let x = Call c.args.federate (service.ChangeAttributeOrderType c.args.object c.args.attributes.now c.args.order) in
    let none : refusal (components_seen (state_of now)) x ≡ None = sym (c.attribute_order_fault.ensures c.args.order) ∙ c.in_default.is in
    let known = (none_applies (tests (components_seen (state_of now)) x) none).1.0 in
    known_numbered now.objects c.args.object c.args.federate (not_false (is_known_in (registry_of now.objects) c.args.federate c.args.object) known)

pub change_orders-requires-clause-registered : goal.change_orders-requires-clause-registered
change_orders-requires-clause-registered c =
    let now = c.args.self.now in
    let x = Call c.args.federate (service.ChangeAttributeOrderType c.args.object c.args.attributes.now c.args.order) in
    let none : refusal (components_seen (state_of now)) x ≡ None = sym (c.attribute_order_fault.ensures c.args.order) ∙ c.in_default.is in
    let known = (none_applies (tests (components_seen (state_of now)) x) none).1.0 in
    let exists = known_there ((registry_of now.objects).object c.args.object).exists ((registry_of now.objects).known c.args.object c.args.federate)
    (not_false (is_known_in (registry_of now.objects) c.args.federate c.args.object) known) in
    let below = (c.requires.sound.kept.kept.directory.owners c.args.object exists).1 in
    let same = ap (λ (v : FederationValue). (registry_of v.objects).next_object) c.self.view_is in
    omega (arith, below, same)

pub change_orders-requires-clause-numbered : goal.change_orders-requires-clause-numbered
change_orders-requires-clause-numbered c =
    let now = c.args.self.now in
    let x = Call c.args.federate (service.ChangeAttributeOrderType c.args.object c.args.attributes.now c.args.order) in
    let none : refusal (components_seen (state_of now)) x ≡ None = sym (c.attribute_order_fault.ensures c.args.order) ∙ c.in_default.is in
    let defined = (none_applies (tests (components_seen (state_of now)) x) none).1.1.0 in
    let count = ap (λ (v : FederationValue). length v.catalogue.attributes) c.self.view_is in
    let items = ap length c.attributes-count.ensures.items in
    λ n is.
    let within = attributes_numbered now.catalogue ((registry_of now.objects).object c.args.object).class c.args.attributes.now defined n is in
    (within.0, omega (arith, within.1, count, items))

pub returns-in_err-change_orders-clause-done : goal.returns-in_err-change_orders-clause-done
returns-in_err-change_orders-clause-done c =
    let now = c.args.self.now in
    let x = Call c.args.federate (service.ChangeAttributeOrderType c.args.object c.args.attributes.now c.args.order) in
    let none : refusal (components_seen (state_of now)) x ≡ None = sym (c.attribute_order_fault.ensures c.args.order) ∙ c.in_default.is in
    let with : List Registered → FederationValue = λ objects. record { catalogue = c.self.inside.catalogue; points = c.self.inside.points; declarations = c.self.inside.declarations; objects = objects; members = c.self.inside.members.shown; next_name = c.self.inside.next_name } in
    handed_on c.in_err-change_orders.field-0.0 c.from_residual.result (λ (r : Result Answer Fault). Ends now x r (with c.change_orders.new.self)) c.from_residual.ensures
    (inr (none, c.in_err-change_orders.ensures.err, refl), ap with c.in_err-change_orders.ensures.unchanged ∙ c.self.view_is)

pub returns-clause-done : goal.returns-clause-done
returns-clause-done c =
    let x = Call c.args.federate (service.ChangeAttributeOrderType c.args.object c.args.attributes.now c.args.order) in
    let fault_is = rw (← c.self.view_is) at c.attribute_order_fault.ensures in
    let cat = c.self.inside.catalogue in
    let declarations = declared.declarations_of c.self.inside.declarations in
    let old = registry_of c.self.inside.registry in
    let members = members_of c.self.inside.members.shown in
    rw (← c.self.view_is) (does_next (state_from cat (points_of c.self.inside.points) declarations old members) x (sym (fault_is c.args.order) ∙ c.in_default.is)
    ∙ ap (λ (r : RegistryValue). answer_outcome answer.Done (state_from cat (points_of c.self.inside.points) declarations r members)) (sym c.in_ok-change_orders.ensures.ok))
