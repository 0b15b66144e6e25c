-- Nothing but who knows what has changed, and of the objects so far it is right.
use Rattle.std.proofs.Common.{◌≡◌, is_some}
use Rattle.hla_declaration.specs.Declarations.{declarations_of}
use Rattle.hla_machine.specs.Registered.{registry_of}
use Rattle.hla_machine.specs.Directory.{discovery_of}
use Rattle.hla_verdicts.specs.Kept.{directory_kept}
use Rattle.hla_checker.proofs.Objects.FoundObjects.{known_below}
use Rattle.hla_checker.proofs.offering.make_found_known.Given as goal

abbrev pub invariant-loop-object : goal.invariant-loop-object
invariant-loop-object l = registry_of l.registry ≡ record (registry_of l.initial.registry) {
  known = known_below (λ h. is_some (discovery_of (directory_kept l.catalogue (declarations_of l.declarations) (registry_of l.initial.registry)) l.federate h)) (registry_of l.initial.registry).known l.federate l.object;
}
