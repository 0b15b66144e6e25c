use Rattle.std.proofs.Common.{◌≡◌, filter}
use Rattle.hla_base.specs.Tables.{numbers_below}
use Rattle.hla_machine.specs.Registered.{registry_of}
use Rattle.hla_object_registry.specs.Queries.{is_object_of}
use Rattle.hla_object_registry.proofs.registry.Registry.objects_owned_by.Given as goal

abbrev pub invariant-loop-object : goal.invariant-loop-object
invariant-loop-object l = l.objects ≡ filter (is_object_of (registry_of l.self) l.federate) (numbers_below l.object)
