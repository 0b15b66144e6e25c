-- Nothing but who knows what has changed, and of the federates so far it is right.
use Rattle.std.proofs.Common.{◌≡◌, ◌&&◌, is_some}
use Rattle.hla_declaration.specs.Declarations.{declarations_of}
use Rattle.hla_machine.specs.Registered.{registry_of}
use Rattle.hla_machine.specs.Directory.{discovery_of}
use Rattle.hla_accounts.specs.Accounts.{account_at}
use Rattle.hla_verdicts.specs.Kept.{directory_kept}
use Rattle.hla_checker.proofs.Objects.NewObjects.{known_among}
use Rattle.hla_checker.proofs.offering.make_new_known.Given as goal

abbrev pub invariant-loop-federate : goal.invariant-loop-federate
invariant-loop-federate l = registry_of l.registry ≡ record (registry_of l.initial.registry) {
  known = known_among (λ k. (account_at l.accounts k).is_joined && is_some (discovery_of (directory_kept l.catalogue (declarations_of l.declarations) (registry_of l.initial.registry)) k l.object)) (registry_of l.initial.registry).known l.object l.federate;
}
