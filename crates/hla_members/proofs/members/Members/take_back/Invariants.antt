use Rattle.std.proofs.Common.{◌≡◌, ltb, ◌&&◌}
use Rattle.hla_base.specs.FederateSets.{federate_set}
use Rattle.hla_members.specs.Putting.{taken_back}
use Rattle.hla_members.proofs.members.Members.take_back.Given as goal

-- the message for each of them so far is taken off
abbrev pub invariant-loop-peer : goal.invariant-loop-peer
invariant-loop-peer l = l.self.shown ≡ taken_back l.from (λ h. federate_set l.told h && ltb h l.peer) l.initial.self.shown
