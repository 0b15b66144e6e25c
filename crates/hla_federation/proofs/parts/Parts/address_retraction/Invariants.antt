use Rattle.std.proofs.Common.{[], cond, ltb}
use Rattle.hla_federation.specs.Steps.Sending.{HasAdded, retraction_to}
use Rattle.hla_federation.specs.Steps.State.{state_of}
use Rattle.hla_federation.proofs.parts.Parts.address_retraction.Given as goal

-- the retraction was added for those so far that are told of it
abbrev pub invariant-loop-peer : goal.invariant-loop-peer
invariant-loop-peer l = HasAdded (λ h. cond (ltb h l.peer) (retraction_to (state_of l.self) l.sender l.serial h) []) l.initial.outbox l.outbox
