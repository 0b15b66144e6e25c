use Rattle.std.proofs.Common.{◌≡◌, None, Result, inl, inr, refl, sym, ap, ◌∙◌, arith}
use Rattle.hla_base.specs.declared.fault.Fault.{Fault}
use Rattle.hla_catalogue.specs.Lookup.{is_interaction_class}
use Rattle.hla_declaration.specs.Declarations as declared
use Rattle.hla_declaration.specs.Declarations.{DeclarationsValue}
use Rattle.hla_declaration.specs.Lists.{DeclarationLists}
use Rattle.hla_machine.specs.Registered.{registry_of}
use Rattle.hla_machine.specs.Refusals.{refusal, tests}
use Rattle.hla_machine.specs.declared.service.Service.TheVariants as service
use Rattle.hla_machine.specs.declared.step.Answer.{Answer}
use Rattle.hla_machine.specs.declared.step.Answer.TheVariants as answer
use Rattle.hla_machine.specs.declared.step.Step.TheVariants.{Call}
use Rattle.hla_execution.specs.MemberValue.{members_of}
use Rattle.hla_components.specs.Next.{answer_outcome, components_seen}
use Rattle.hla_synchronization.specs.OpenPoints.{points_of}
use Rattle.hla_federation.specs.FederationValue.{FederationValue}
use Rattle.hla_federation.specs.Steps.State.{Ends, state_of, state_from}
use Rattle.hla_federation.proofs.Steps.Changing.{handed_on}
use Rattle.hla_federation.proofs.Steps.Doing.{does_next}
use Rattle.hla_federation.proofs.Steps.Ordering.{item_numbered_within, not_false}
use Rattle.hla_federation.proofs.Steps.Sent.{none_applies}
use Rattle.hla_federation.proofs.Steps.Wholes.{whole_ordered}
use Rattle.hla_federation.proofs.parts.Parts.change_interaction_order_type.Goals as goal

pub returns-in-Some-clause-done : goal.returns-in-Some-clause-done
returns-in-Some-clause-done c = (inl (sym (c.interaction_order_fault.ensures c.args.order) ∙ c.in-Some.is), refl)

pub change_interaction_order-requires-clause-numbered : goal.change_interaction_order-requires-clause-numbered
change_interaction_order-requires-clause-numbered c =
    let now = c.args.self.now in
    let x = Call c.args.federate (service.ChangeInteractionOrderType c.args.class c.args.order) in
    let none : refusal (components_seen (state_of now)) x ≡ None = sym (c.interaction_order_fault.ensures c.args.order) ∙ c.in_default.is in
    let defined = (none_applies (tests (components_seen (state_of now)) x) none).1.0 in
    (item_numbered_within now.catalogue.interaction_classes c.args.class (not_false (is_interaction_class now.catalogue c.args.class) defined)).0

pub change_interaction_order-requires-clause-defined : goal.change_interaction_order-requires-clause-defined
change_interaction_order-requires-clause-defined c =
    let now = c.args.self.now in
    let x = Call c.args.federate (service.ChangeInteractionOrderType c.args.class c.args.order) in
    let none : refusal (components_seen (state_of now)) x ≡ None = sym (c.interaction_order_fault.ensures c.args.order) ∙ c.in_default.is in
    let defined = (none_applies (tests (components_seen (state_of now)) x) none).1.0 in
    let within = (item_numbered_within now.catalogue.interaction_classes c.args.class (not_false (is_interaction_class now.catalogue c.args.class) defined)).1 in
    let count = ap (λ (v : FederationValue). v.declarations.interaction_classes) c.self.view_is in
    omega (arith, within, count, c.requires.sound.whole.parts.interaction_classes)

pub returns-in_err-change_interaction_order-clause-done : goal.returns-in_err-change_interaction_order-clause-done
returns-in_err-change_interaction_order-clause-done c =
    let now = c.args.self.now in
    let x = Call c.args.federate (service.ChangeInteractionOrderType c.args.class c.args.order) in
    let none : refusal (components_seen (state_of now)) x ≡ None = sym (c.interaction_order_fault.ensures c.args.order) ∙ c.in_default.is in
    let with : DeclarationLists → FederationValue = λ d. record { catalogue = c.self.inside.catalogue; points = c.self.inside.points; declarations = d; objects = c.self.inside.registry; members = c.self.inside.members.shown; next_name = c.self.inside.next_name } in
    handed_on c.in_err-change_interaction_order.field-0.0 c.from_residual.result (λ (r : Result Answer Fault). Ends now x r (with c.change_interaction_order.new.self)) c.from_residual.ensures
    (inr (none, c.in_err-change_interaction_order.ensures.err, refl), ap with c.in_err-change_interaction_order.ensures.unchanged ∙ c.self.view_is)

pub returns-clause-whole : goal.returns-clause-whole
returns-clause-whole c =
    let whole = rw (← c.self.view_is) at c.requires.sound.whole in
    record { parts = rw c.in_ok-change_interaction_order.ensures.ok (whole_ordered _ _ _ whole.parts _); named = whole.named }

pub returns-clause-done : goal.returns-clause-done
returns-clause-done c =
    let x = Call c.args.federate (service.ChangeInteractionOrderType c.args.class c.args.order) in
    let fault_is = rw (← c.self.view_is) at c.interaction_order_fault.ensures in
    let cat = c.self.inside.catalogue in
    let old = declared.declarations_of c.self.inside.declarations in
    let objects = registry_of c.self.inside.registry in
    let members = members_of c.self.inside.members.shown in
    rw (← c.self.view_is) (does_next (state_from cat (points_of c.self.inside.points) old objects members) x (sym (fault_is c.args.order) ∙ c.in_default.is)
    ∙ ap (λ (d : DeclarationsValue). answer_outcome answer.Done (state_from cat (points_of c.self.inside.points) d objects members)) (sym c.in_ok-change_interaction_order.ensures.ok))
