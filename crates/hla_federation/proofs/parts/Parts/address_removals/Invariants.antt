use Rattle.std.proofs.Common.{◌≡◌, ◌+◌, None, take}
use Rattle.hla_machine.specs.Directory.{deletions_sent}
use Rattle.hla_federation.specs.Steps.Sending.{HasAdded, messages_to}
use Rattle.hla_federation.specs.Steps.State.{state_of}
use Rattle.hla_federation.proofs.parts.Parts.address_removals.Given as goal

-- the removals of the objects so far
abbrev pub invariant-loop-object : goal.invariant-loop-object
invariant-loop-object l = record {
  serial : l.next ≡ l.serial + l.object-index;
  added : HasAdded (messages_to (state_of l.self).directory l.sender l.serial ((state_of l.self).row l.sender) None (deletions_sent (take l.object-index l.objects))) l.initial.outbox l.outbox;
}
