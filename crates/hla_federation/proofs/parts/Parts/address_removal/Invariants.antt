use Rattle.std.proofs.Common.{[], cond, ltb}
use Rattle.hla_machine.specs.Directory.{ADeletion}
use Rattle.hla_federation.specs.Steps.Sending.{HasAdded, message_to}
use Rattle.hla_federation.specs.Steps.State.{state_of}
use Rattle.hla_federation.proofs.parts.Parts.address_removal.Given as goal

-- the removal was added for the federates so far
abbrev pub invariant-loop-peer : goal.invariant-loop-peer
invariant-loop-peer l = HasAdded (λ h. cond (ltb h l.peer) (message_to (state_of l.self).directory l.heading (ADeletion l.object) h) []) l.initial.outbox l.outbox
