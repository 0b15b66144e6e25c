use Rattle.std.proofs.Common.{[], cond, ltb}
use Rattle.hla_federation.specs.Steps.Sending.{HasAdded, null_to}
use Rattle.hla_federation.specs.Steps.State.{state_of}
use Rattle.hla_federation.proofs.parts.Parts.address_null.Given as goal

-- the null message was added for the federates so far
abbrev pub invariant-loop-peer : goal.invariant-loop-peer
invariant-loop-peer l = HasAdded (λ h. cond (ltb h l.peer) (null_to (state_of l.self).directory l.sender l.epoch l.bound h) []) l.initial.outbox l.outbox
