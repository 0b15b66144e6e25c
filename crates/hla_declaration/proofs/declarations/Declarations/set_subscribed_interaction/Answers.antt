use Rattle.std.proofs.Common.{◌≤◌, length, ap}
use Rattle.hla_declaration.specs.Lists.{DeclarationLists}
use Rattle.hla_declaration.proofs.TableLemmas.{subscribed_interaction_put}
use Rattle.hla_declaration.proofs.WholeLemmas.{whole_subscribed_interaction}
use Rattle.hla_declaration.proofs.declarations.Declarations.set_subscribed_interaction.Goals as goal

pub returns : goal.returns
returns c =
    let joined : c.args.federate ≤ length c.self.inside.members.items = rw (ap (λ (d : DeclarationLists). length d.members) c.self.view_is) c.requires.joined in
    let defined : c.args.class ≤ c.self.inside.interaction_classes = rw (ap (λ (d : DeclarationLists). d.interaction_classes) c.self.view_is) c.requires.defined in
    rw (← c.self.view_is, c.set.ensures)
    (subscribed_interaction_put c.self.inside.object_classes c.self.inside.interaction_classes c.self.inside.members.items c.self.invariant.lists
    c.args.federate c.index_mut.result.now c.requires.some joined c.index_mut.ensures.value c.args.class c.requires.numbered c.args.subscribes defined)

pub invariant_of-self : goal.invariant_of-self
invariant_of-self c =
    let joined : c.args.federate ≤ length c.self.inside.members.items = rw (ap (λ (d : DeclarationLists). length d.members) c.self.view_is) c.requires.joined in
    let defined : c.args.class ≤ c.self.inside.interaction_classes = rw (ap (λ (d : DeclarationLists). d.interaction_classes) c.self.view_is) c.requires.defined in
    rw c.set.ensures
    (whole_subscribed_interaction c.self.inside.object_classes c.self.inside.interaction_classes c.self.inside.members.items c.self.inside.object_subscribers c.self.inside.interaction_subscribers c.self.invariant
    c.args.federate c.index_mut.result.now c.requires.some joined c.index_mut.ensures.value c.args.class c.requires.numbered c.args.subscribes defined
    c.set-2.new.self c.set-2.ensures.room c.set-2.ensures.listed)
