-- The discoveries of the objects so far are there.
use Rattle.std.proofs.Common.{◌≡◌, ℕ, eqb}
use Rattle.hla_base.specs.Tables.{when}
use Rattle.hla_declaration.specs.Declarations.{declarations_of}
use Rattle.hla_machine.specs.Registered.{registry_of}
use Rattle.hla_accounts.specs.Accounts.{offers_from}
use Rattle.hla_verdicts.specs.Kept.{directory_kept}
use Rattle.hla_checker.specs.Offering.{wanted_of}
use Rattle.hla_checker.proofs.Objects.FoundObjects.{found_below}
use Rattle.hla_checker.proofs.offering.offers_to.Given as goal

abbrev pub invariant-loop-object : goal.invariant-loop-object
invariant-loop-object l = (g : ℕ) → offers_from g l.offers.items
    ≡ found_below (λ h. when (eqb ((registry_of l.registry).object h).owner g) (wanted_of (directory_kept l.catalogue (declarations_of l.declarations) (registry_of l.registry)) l.of l.federate h)) l.object
