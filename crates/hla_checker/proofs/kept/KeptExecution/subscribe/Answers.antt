use Rattle.std.proofs.Common.{◌≤◌, ℕ, Some, length, arith, sym, ap, subst, ◌∙◌}
use Rattle.hla_declaration.specs.Declarations.{declarations_of}
use Rattle.hla_machine.specs.Machine.{after_subscribe}
use Rattle.hla_verdicts.specs.Kept.{KeptValue, IsConsistent, central_of}
use Rattle.hla_checker.proofs.Verdicts.Subscriptions.{subscribed_central, subscribed_consistent}
use Rattle.hla_checker.proofs.kept.KeptExecution.subscribe.Goals as goal

pub subscribe_object_class_attributes-requires-clause-joined : goal.subscribe_object_class_attributes-requires-clause-joined
subscribe_object_class_attributes-requires-clause-joined c =
    subst (λ (y : KeptValue). c.args.federate ≤ (declarations_of y.declarations).federates) (sym c.self.view_is)
    (subst (λ (n : ℕ). c.args.federate ≤ n) (sym c.requires.consistent.federates) c.requires.within)

pub subscribe_object_class_attributes-requires-clause-defined : goal.subscribe_object_class_attributes-requires-clause-defined
subscribe_object_class_attributes-requires-clause-defined c =
    subst (λ (y : KeptValue). c.args.class ≤ (declarations_of y.declarations).object_classes) (sym c.self.view_is) c.requires.defined

pub add_offers-requires-clause-within : goal.add_offers-requires-clause-within
add_offers-requires-clause-within c = subst (λ (y : KeptValue). c.args.federate ≤ length y.accounts) (sym c.self.view_is) c.requires.within

pub make_found_known-requires-clause-within : goal.make_found_known-requires-clause-within
make_found_known-requires-clause-within c =
    let within : c.args.federate ≤ length c.self.inside.accounts = subst (λ (y : KeptValue). c.args.federate ≤ length y.accounts) (sym c.self.view_is) c.requires.within in
    omega (arith, within, c.next_federate-next.ensures.number, c.next_federate-next.ensures.few)

pub returns-clause-subscribed : goal.returns-clause-subscribed
returns-clause-subscribed c =
    let v : KeptValue = record { catalogue = c.self.inside.catalogue; declarations = c.self.inside.declarations; objects = c.self.inside.registry; accounts = c.self.inside.accounts; points = c.self.inside.points } in
    subscribed_central v c.subscribe_object_class_attributes.new.self c.make_found_known.new.registry c.add_offers.new.self c.in_ok-offers.offers.items c.args.federate c.args.class c.args.attributes
    c.subscribe_object_class_attributes.ensures c.in_ok-offers.ensures.ok c.in_ok-add_offers.ensures.ok c.make_found_known.ensures
    ∙ ap (λ (y : KeptValue). after_subscribe (central_of y) c.args.federate c.args.class (Some c.args.attributes)) c.self.view_is

pub returns-clause-consistent : goal.returns-clause-consistent
returns-clause-consistent c =
    let v : KeptValue = record { catalogue = c.self.inside.catalogue; declarations = c.self.inside.declarations; objects = c.self.inside.registry; accounts = c.self.inside.accounts; points = c.self.inside.points } in
    subscribed_consistent v c.subscribe_object_class_attributes.new.self c.make_found_known.new.registry c.add_offers.new.self c.in_ok-offers.offers.items c.args.federate c.args.class c.args.attributes
    c.subscribe_object_class_attributes.ensures c.in_ok-offers.ensures.ok c.in_ok-add_offers.ensures.ok c.make_found_known.ensures
    (subst (λ (y : KeptValue). IsConsistent y) (sym c.self.view_is) c.requires.consistent)
