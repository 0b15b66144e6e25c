use Rattle.std.proofs.Common.{◌≡◌}
use Rattle.hla_execution.specs.MemberValue.{members_of}
use Rattle.hla_members.specs.Members.{HasRoom, wires_posted_below}
use Rattle.hla_members.specs.Outboxes.{messages_for}
use Rattle.hla_members.proofs.members.Members.post_all.Given as goal

-- the messages so far are on their wires, and the others have room
abbrev pub invariant-loop-addressed : goal.invariant-loop-addressed
invariant-loop-addressed l = record {
  posted : members_of l.self.shown ≡ record (members_of l.initial.self.shown) { wire = wires_posted_below l.along (λ h. messages_for h l.yielded) (members_of l.initial.self.shown).next_federate (members_of l.initial.self.shown).wire };
  room : HasRoom l.along (λ h. messages_for h l.addressed-iterator.rest.items) 1 (members_of l.initial.self.shown).next_federate l.self.rooms;
}
