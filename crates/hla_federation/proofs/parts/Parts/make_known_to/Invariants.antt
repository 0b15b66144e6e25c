use Rattle.std.proofs.Common.{◌≡◌, drop}
use Rattle.hla_machine.specs.Registered.{registry_of}
use Rattle.hla_federation.specs.Steps.Discovering.{with_known_among}
use Rattle.hla_federation.proofs.parts.Parts.make_known_to.Given as goal

-- nothing but who knows what has changed, and it becomes right once the receivers that are left know the object
abbrev pub invariant-loop-receiver : goal.invariant-loop-receiver
invariant-loop-receiver l = record {
  same : l.self-inside ≡ record l.initial.self-inside { registry = l.self-inside.registry };
  objects : registry_of l.self-inside.registry ≡ record (registry_of l.initial.self-inside.registry) { known = (registry_of l.self-inside.registry).known };
  known : with_known_among (drop l.receiver-index l.receivers) l.object (registry_of l.self-inside.registry).known ≡ with_known_among l.receivers l.object (registry_of l.initial.self-inside.registry).known;
}
