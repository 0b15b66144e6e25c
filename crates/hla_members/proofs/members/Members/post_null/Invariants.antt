use Rattle.std.proofs.Common.{◌≡◌}
use Rattle.hla_execution.specs.MemberValue.{members_of}
use Rattle.hla_members.specs.Members.{nulls_below, HasRoomForOthers}
use Rattle.hla_members.proofs.members.Members.post_null.Given as goal

-- those so far were sent it, and there is room for the others
abbrev pub invariant-loop-peer : goal.invariant-loop-peer
invariant-loop-peer l = record {
  posted : members_of l.self.shown ≡ record (members_of l.initial.self.shown) { wire = nulls_below (members_of l.initial.self.shown) l.sender l.epoch l.bound l.peer };
  room : HasRoomForOthers (members_of l.initial.self.shown).joined l.sender l.peer (members_of l.initial.self.shown).next_federate l.self.rooms;
}
