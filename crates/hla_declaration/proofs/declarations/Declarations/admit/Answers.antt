use Rattle.std.proofs.Common.{◌<◌, length, refl, ap, arith}
use Rattle.hla_base.specs.Limits.{max_joins}
use Rattle.hla_declaration.specs.Lists.{DeclarationLists}
use Rattle.hla_declaration.proofs.TableLemmas.{member_more}
use Rattle.hla_declaration.proofs.WholeLemmas.{whole_roomier, whole_more}
use Rattle.hla_declaration.proofs.declarations.Declarations.admit.Goals as goal

pub returns-clause-ok : goal.returns-clause-ok
returns-clause-ok c =
    rw (← c.self.view_is, c.in-Ok.ensures.items, c.in_ok-member.ensures.ok)
    (member_more c.self.inside.object_classes c.self.inside.interaction_classes c.self.inside.members.items)

-- the room for object classes was refused
pub invariant_of-self : goal.invariant_of-self
invariant_of-self c =
    whole_roomier c.self.inside.object_classes c.self.inside.interaction_classes c.self.inside.members.items c.self.inside.object_subscribers c.self.inside.interaction_subscribers c.self.invariant
    c.make_room.new.self c.self.inside.interaction_subscribers c.make_room.ensures.same c.make_room.ensures.kept (λ class. refl) (omega arith)

-- the room for interaction classes was refused
pub invariant_of-self-in_err-make_room-2 : goal.invariant_of-self-in_err-make_room-2
invariant_of-self-in_err-make_room-2 c =
    whole_roomier c.self.inside.object_classes c.self.inside.interaction_classes c.self.inside.members.items c.self.inside.object_subscribers c.self.inside.interaction_subscribers c.self.invariant
    c.make_room.new.self c.make_room-2.new.self c.make_room.ensures.same c.make_room.ensures.kept c.make_room-2.ensures.same c.make_room-2.ensures.kept

-- the room for the federate was refused
pub invariant_of-self-in_default : goal.invariant_of-self-in_default
invariant_of-self-in_default c =
    rw c.in_default.ensures.items
    (whole_roomier c.self.inside.object_classes c.self.inside.interaction_classes c.self.inside.members.items c.self.inside.object_subscribers c.self.inside.interaction_subscribers c.self.invariant
    c.make_room.new.self c.make_room-2.new.self c.make_room.ensures.same c.make_room.ensures.kept c.make_room-2.ensures.same c.make_room-2.ensures.kept)

-- there is one more federate
pub invariant_of-self-2 : goal.invariant_of-self-2
invariant_of-self-2 c =
    let few : length c.self.inside.members.items < max_joins = rw (ap (λ (d : DeclarationLists). length d.members) c.self.view_is) c.requires in
    let roomier = whole_roomier c.self.inside.object_classes c.self.inside.interaction_classes c.self.inside.members.items c.self.inside.object_subscribers c.self.inside.interaction_subscribers c.self.invariant
    c.make_room.new.self c.make_room-2.new.self c.make_room.ensures.same c.make_room.ensures.kept c.make_room-2.ensures.same c.make_room-2.ensures.kept in
    rw (c.in-Ok.ensures.items, c.in_ok-member.ensures.ok)
    (whole_more c.self.inside.object_classes c.self.inside.interaction_classes c.self.inside.members.items c.make_room.new.self c.make_room-2.new.self roomier
    few c.in_ok-make_room.ensures.ok c.in_ok-make_room-2.ensures.ok)
