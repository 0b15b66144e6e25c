use Rattle.std.proofs.Common.{◌≡◌, ℕ, [], ◌++◌, drop}
use Rattle.hla_execution.specs.MemberValue.{item}
use Rattle.hla_federation.specs.Steps.Discovering.{discovery_to}
use Rattle.hla_federation.specs.Steps.Sending.{messages_among}
use Rattle.hla_federation.proofs.parts.Parts.address_discoveries.Given as goal

-- with the messages for the receivers that are left, all are there
abbrev pub invariant-loop-receiver : goal.invariant-loop-receiver
invariant-loop-receiver l = (h : ℕ) → item [] l.outbox h ++ messages_among (discovery_to l.object l.name) (drop l.receiver-index l.receivers) h
    ≡ item [] l.initial.outbox h ++ messages_among (discovery_to l.object l.name) l.receivers h
