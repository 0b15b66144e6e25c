use Rattle.std.proofs.Common.{◌≡◌}
use Rattle.hla_execution.specs.MemberValue.{members_of}
use Rattle.hla_members.specs.Members.{HasRoomForOthers}
use Rattle.hla_members.proofs.members.Members.reserve_others.Given as goal

-- there is room for those so far, and nothing else has changed
abbrev pub invariant-loop-peer : goal.invariant-loop-peer
invariant-loop-peer l = record {
  same : l.self.shown ≡ l.initial.self.shown;
  room : HasRoomForOthers (members_of l.initial.self.shown).joined l.sender 1 l.peer l.self.rooms;
}
