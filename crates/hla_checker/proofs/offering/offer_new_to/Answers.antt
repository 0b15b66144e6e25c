use Rattle.std.proofs.Common.{sym, ◌∙◌}
use Rattle.hla_declaration.specs.Declarations.{declarations_of}
use Rattle.hla_machine.specs.Registered.{registry_of}
use Rattle.hla_accounts.proofs.AfterSteps.Counts.{on_ok}
use Rattle.hla_accounts.proofs.Sendings.Messages.{joined_in}
use Rattle.hla_verdicts.specs.Kept.{directory_kept}
use Rattle.hla_checker.proofs.Objects.NewObjects.{not_other_out, not_other_self, offered_nothing, offered_others, other_so}
use Rattle.hla_checker.proofs.offering.offer_new_to.Goals as goal
use Rattle.hla_checker.proofs.offering.offer_new_to.Goals.{then-owner-federate-via-then-owner-federate, then-owner-federate-via-else-owner-federate+then-not-is_joined}

pub returns-then-owner-federate-clause-ok : goal.returns-then-owner-federate-clause-ok
returns-then-owner-federate-clause-ok c =
    let place = directory_kept c.args.catalogue.now (declarations_of c.args.declarations.now) (registry_of c.args.registry.now) in
    let old = c.args.accounts.now in
    elim c.then-owner-federate.branch [
      | then-owner-federate-via-then-owner-federate w ↦ offered_nothing place old c.args.owner c.args.federate (not_other_self (joined_in old) c.args.owner c.args.federate w.if-owner-federate.true)
      | then-owner-federate-via-else-owner-federate+then-not-is_joined w ↦
          offered_nothing place old c.args.owner c.args.federate (not_other_out (joined_in old) c.args.owner c.args.federate (sym w.is_joined.ensures ∙ w.if-not-is_joined.true))
    ]

pub returns-clause-ok : goal.returns-clause-ok
returns-clause-ok c =
    let place = directory_kept c.args.catalogue.now (declarations_of c.args.declarations.now) (registry_of c.args.registry.now) in
    let old = c.args.accounts.now in
    let other = other_so (joined_in old) c.args.owner c.args.federate c.if-owner-federate.false (sym c.is_joined.ensures ∙ c.if-not-is_joined.false) in
    on_ok c.add_offers.result (λ added. offered_others place old c.args.owner c.args.federate c.add_offers.new.self c.in_ok-offers.offers.items other c.in_ok-offers.ensures.ok added) c.add_offers.ensures.ok
