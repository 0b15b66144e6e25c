use Rattle.std.proofs.Common.{ℕ, List, length, sym, subst, refl, ap, ◌∙◌}
use Rattle.hla_base.specs.RowRefusals.{first_fault}
use Rattle.hla_catalogue.specs.declared.declared.Attribute.{Attribute}
use Rattle.hla_machine.specs.Refusals.{attribute_order_tests}
use Rattle.hla_machine.specs.declared.service.Service.TheVariants as services
use Rattle.hla_verdicts.specs.Kept.{KeptValue, central_of, directory_of}
use Rattle.hla_checker.proofs.Verdicts.LookUps.{called_unchanged}
use Rattle.hla_checker.proofs.Verdicts.Orderings.{AreWithin, attribute_orders_only, ordered_attributes}
use Rattle.hla_checker.proofs.kept.KeptExecution.judge_attribute_order.Goals as goal

pub change_orders-requires-clause-numbered : goal.change_orders-requires-clause-numbered
change_orders-requires-clause-numbered c =
    let v : KeptValue = record { catalogue = c.self.inside.catalogue; declarations = c.self.inside.declarations; objects = c.self.inside.registry; accounts = c.self.inside.accounts; points = c.self.inside.points } in
    let numbers = ordered_attributes v c.args.self.now c.args.federate c.args.object c.as_slice.result.now c.attribute_order_fault-fault.result c.self.view_is c.attribute_order_fault-fault.ensures c.in-None.ensures.0 in
    subst (λ (xs : List Attribute). AreWithin (length xs) c.as_slice-in-None.result.now) (sym c.attributes-count.ensures.items)
    (subst (λ (ns : List ℕ). AreWithin (length v.catalogue.attributes) ns) (c.as_slice.ensures ∙ sym c.as_slice-in-None.ensures) numbers)

pub returns-in-Some-clause-ok : goal.returns-in-Some-clause-ok
returns-in-Some-clause-ok c =
    let now = c.args.self.now in
    let x = services.ChangeAttributeOrderType c.args.object c.args.attributes.now c.args.order in
    let refused = c.attribute_order_fault-fault.ensures ∙ ap (λ (ns : List ℕ). first_fault (attribute_order_tests (directory_of c.args.self.now) c.args.federate c.args.object ns)) c.as_slice.ensures in
    called_unchanged now now c.args.federate x c.attribute_order_fault-fault.result c.args.outcome.now c.args.choice.now c.in-Some.verdict refl c.requires.consistent c.requires.joined refused
    (c.in-Some.ensures (central_of now) c.args.federate x (λ o. (λ e. e, λ e. e)) (attribute_orders_only c.args.object c.args.attributes.now c.args.order))
