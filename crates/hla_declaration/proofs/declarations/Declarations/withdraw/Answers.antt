use Rattle.std.proofs.Common.{◌≤◌, length, ap}
use Rattle.hla_declaration.specs.Lists.{DeclarationLists}
use Rattle.hla_declaration.proofs.TableLemmas.{member_cleared}
use Rattle.hla_declaration.proofs.WholeLemmas.{whole_cleared}
use Rattle.hla_declaration.proofs.declarations.Declarations.withdraw.Goals as goal

pub returns : goal.returns
returns c =
    let joined : c.args.federate ≤ length c.self.inside.members.items = rw (ap (λ (d : DeclarationLists). length d.members) c.self.view_is) c.requires.joined in
    rw (← c.self.view_is)
    (member_cleared c.self.inside.object_classes c.self.inside.interaction_classes c.self.inside.members.items c.self.invariant.lists
    c.args.federate c.index_mut.result.now c.requires.some joined c.index_mut.ensures.value c.clear.new.self c.clear.ensures)

pub invariant_of-self : goal.invariant_of-self
invariant_of-self c =
    let joined : c.args.federate ≤ length c.self.inside.members.items = rw (ap (λ (d : DeclarationLists). length d.members) c.self.view_is) c.requires.joined in
    (whole_cleared c.self.inside.object_classes c.self.inside.interaction_classes c.self.inside.members.items c.self.inside.object_subscribers c.self.inside.interaction_subscribers c.self.invariant
    c.args.federate c.index_mut.result.now c.requires.some joined c.index_mut.ensures.value c.clear.new.self c.clear.ensures
    c.withdraw.new.self c.withdraw-2.new.self c.withdraw.ensures.room c.withdraw-2.ensures.room c.withdraw.ensures.listed c.withdraw-2.ensures.listed)
