use Rattle.hla_object_registry.specs.Entries.{registered_objects}
use Rattle.hla_object_registry.proofs.Changes.{IsWithdrawn}
use Rattle.hla_object_registry.proofs.registry.Registry.delete_owned_by.Given as goal

abbrev pub invariant-loop-place : goal.invariant-loop-place
invariant-loop-place l = IsWithdrawn l.federate l.place (registered_objects l.initial.self-inside.entries.entries) (registered_objects l.self-inside.entries.entries)
