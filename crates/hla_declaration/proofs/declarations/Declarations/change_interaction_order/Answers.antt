use Rattle.std.proofs.Common.{◌-◌, ◌≤◌, List, length, set, Option, Result, Ok, Err, OnOk, OnErr, sym, ap, subst, ◌∙◌}
use Rattle.std.proofs.lemmas.List.{set-get_or}
use Rattle.hla_catalogue.specs.declared.declared.Order.{Order}
use Rattle.hla_declaration.specs.Lists.{DeclarationLists}
use Rattle.hla_declaration.specs.Subscribers.{AreDeclarationsWhole}
use Rattle.hla_declaration.specs.declared.member.Declarer.{Declarer}
use Rattle.hla_declaration.proofs.TableLemmas.{orders_put}
use Rattle.hla_declaration.proofs.WholeLemmas.{whole_ordered}
use Rattle.hla_declaration.proofs.declarations.Declarations.change_interaction_order.Goals as goal

either : {X E A B C : Type 0} (r : Result X E) → OnOk r A → OnErr r B → (A → C) → (B → C) → C
either (Ok x) a b done refused = done a
either (Err e) a b done refused = refused b

on_ok : {X E A B : Type 0} (r : Result X E) → (A → B) → OnOk r A → OnOk r B
on_ok (Ok x) f a = f a
on_ok (Err e) f a = a

-- the order was given; or room was refused, and the federate is as it was
pub invariant_of-self : goal.invariant_of-self
invariant_of-self c =
    let inside = c.self.inside in
    let members = inside.members.items in
    let m = c.index_mut.result.now in
    let joined : c.args.federate ≤ length members = rw (ap (λ (d : DeclarationLists). length d.members) c.self.view_is) c.requires.joined in
    either c.give_one.result c.give_one.ensures.ok c.give_one.ensures.unchanged
    (λ given. whole_ordered inside.object_classes inside.interaction_classes members inside.object_subscribers inside.interaction_subscribers c.self.invariant
    c.args.federate m c.requires.some joined c.index_mut.ensures.value c.args.class c.requires.numbered c.give_one.new.self c.args.order given)
    (λ same. subst (λ (ms : List Declarer). AreDeclarationsWhole inside.object_classes inside.interaction_classes ms inside.object_subscribers inside.interaction_subscribers)
    (sym (ap (λ (orders : List (Option Order)). set members (c.args.federate - 1) (record m { interaction_orders = orders })) same
    ∙ ap (set members (c.args.federate - 1)) c.index_mut.ensures.value ∙ set-get_or members (c.args.federate - 1) m)) c.self.invariant)

pub returns-clause-ok : goal.returns-clause-ok
returns-clause-ok c =
    let inside = c.self.inside in
    let joined : c.args.federate ≤ length inside.members.items = rw (ap (λ (d : DeclarationLists). length d.members) c.self.view_is) c.requires.joined in
    on_ok c.give_one.result (λ given.
    rw (← c.self.view_is) (orders_put inside.object_classes inside.interaction_classes inside.members.items c.self.invariant.lists
    c.args.federate c.index_mut.result.now c.requires.some joined c.index_mut.ensures.value c.args.class c.requires.numbered c.give_one.new.self c.args.order given))
    c.give_one.ensures.ok
