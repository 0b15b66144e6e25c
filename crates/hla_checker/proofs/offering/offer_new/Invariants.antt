-- The discoveries of the federates so far wait.
use Rattle.hla_declaration.specs.Declarations.{declarations_of}
use Rattle.hla_machine.specs.Registered.{registry_of}
use Rattle.hla_verdicts.specs.Kept.{directory_kept}
use Rattle.hla_checker.proofs.Objects.NewObjects.{AreOfferedBelow}
use Rattle.hla_checker.proofs.offering.offer_new.Given as goal

abbrev pub invariant-loop-federate : goal.invariant-loop-federate
invariant-loop-federate l = AreOfferedBelow (directory_kept l.catalogue (declarations_of l.declarations) (registry_of l.registry)) l.initial.accounts l.owner l.accounts l.federate
