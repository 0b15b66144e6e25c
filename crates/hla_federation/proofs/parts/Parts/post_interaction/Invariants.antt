use Rattle.std.proofs.Common.{◌≡◌, ℕ}
use Rattle.hla_base.specs.FederateSets.{federate_set}
use Rattle.hla_machine.specs.Directory.{AnInteraction}
use Rattle.hla_members.specs.Putting.{taken_back}
use Rattle.hla_federation.specs.Steps.Sending.{HasSent}
use Rattle.hla_federation.proofs.Steps.Posting.{messages_below, told_below}
use Rattle.hla_federation.proofs.parts.Parts.post_interaction.Given as goal

-- those so far have it, and are told; without what they have, all is as it was
abbrev pub invariant-loop-peer : goal.invariant-loop-peer
invariant-loop-peer l = record {
  sent : HasSent l.heading.sender (messages_below l.initial.self l.heading (AnInteraction l.class l.values) l.peer) l.initial.self l.self;
  told : (g : ℕ) → federate_set l.told g ≡ told_below l.initial.self l.heading (AnInteraction l.class l.values) l.peer g;
  back : taken_back l.heading.sender (federate_set l.told) l.self.members ≡ l.initial.self.members;
}
