use Rattle.std.proofs.Common.{◌≡◌, []}
use Rattle.hla_execution.specs.MemberValue.{item}
use Rattle.hla_members.specs.Members.{HasRoom}
use Rattle.hla_members.proofs.members.Members.reserve_all.Given as goal

-- there is room for those so far, and nothing else has changed
abbrev pub invariant-loop-peer : goal.invariant-loop-peer
invariant-loop-peer l = record {
  same : l.self.shown ≡ l.initial.self.shown;
  room : HasRoom l.along (item [] l.outbox) 1 l.peer l.self.rooms;
}
