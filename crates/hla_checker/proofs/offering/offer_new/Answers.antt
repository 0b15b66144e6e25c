use Rattle.std.proofs.Common.{◌≡◌, ◌<◌, length, ap, arith}
use Rattle.hla_declaration.specs.Declarations.{declarations_of}
use Rattle.hla_machine.specs.Registered.{registry_of}
use Rattle.hla_machine.specs.Central.{Central}
use Rattle.hla_accounts.proofs.AfterSteps.Counts.{same_size}
use Rattle.hla_verdicts.specs.Kept.{directory_kept}
use Rattle.hla_checker.proofs.Objects.NewObjects.{offered_all, offered_first, offered_more}
use Rattle.hla_checker.proofs.offering.offer_new.Goals as goal

pub loop-federate-init : goal.loop-federate-init
loop-federate-init c = offered_first (directory_kept c.args.catalogue.now (declarations_of c.args.declarations.now) (registry_of c.args.registry.now)) c.args.accounts.now c.args.owner

pub offer_new_to-requires-clause-within : goal.offer_new_to-requires-clause-within
offer_new_to-requires-clause-within c =
    let size : length c.loop-federate.accounts ≡ length c.args.accounts.now = same_size c.args.accounts.now c.loop-federate.accounts (λ d. ap (λ (x : Central). x.directory.next_federate) (c.loop-federate.invariant d)) in
    omega (arith, size, c.next_federate-end.ensures.number, c.loop-federate-test.true)

pub loop-federate-preserved : goal.loop-federate-preserved
loop-federate-preserved c =
    offered_more (directory_kept c.args.catalogue.now (declarations_of c.args.declarations.now) (registry_of c.args.registry.now)) c.args.accounts.now c.args.owner c.loop-federate.accounts c.offer_new_to.new.accounts c.loop-federate.federate
    c.loop-federate.invariant c.in_ok-offer_new_to.ensures.ok

pub returns-clause-ok : goal.returns-clause-ok
returns-clause-ok c =
    let past : length c.args.accounts.now < c.loop-federate.federate = omega (arith, c.next_federate-end.ensures.number, c.loop-federate-test.false) in
    offered_all (directory_kept c.args.catalogue.now (declarations_of c.args.declarations.now) (registry_of c.args.registry.now)) c.args.accounts.now c.args.owner c.loop-federate.accounts c.loop-federate.federate past c.loop-federate.invariant
