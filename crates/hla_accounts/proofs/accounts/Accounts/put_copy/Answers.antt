-- There is a copy for it, or all is as it was.
use Rattle.std.proofs.Common.{◌≡◌, true, false, Option, Some, option_map, sym, ap, ◌∙◌}
use Rattle.hla_base.specs.declared.content.Content.{Content}
use Rattle.hla_base.specs.Tables.{is_other, when}
use Rattle.hla_machine.specs.Central.{Copy, at_key}
use Rattle.hla_accounts.specs.Accounts.{central_with, copy_given}
use Rattle.hla_accounts.proofs.AfterSteps.Counts.{on_ok}
use Rattle.hla_accounts.proofs.Sendings.Messages.{joined_in, none_put, other_self, other_unjoined, other_joined, when_untold, when_told, nothing_said}
use Rattle.hla_accounts.proofs.accounts.Accounts.put_copy.Goals as goal
use Rattle.hla_accounts.proofs.accounts.Accounts.put_copy.Goals.{then-event-federate-via-then-event-federate, then-event-federate-via-else-event-federate+then-not-is_joined}

pub returns-then-event-federate-clause-ok : goal.returns-then-event-federate-clause-ok
returns-then-event-federate-clause-ok c d =
    let other : is_other (joined_in c.args.self.now) c.args.event.sender c.args.federate ≡ false = elim c.then-event-federate.branch [
      | then-event-federate-via-then-event-federate w ↦ other_self (joined_in c.args.self.now) c.args.event.sender c.args.federate w.if-event-federate.true
      | then-event-federate-via-else-event-federate+then-not-is_joined w ↦ other_unjoined (joined_in c.args.self.now) c.args.event.sender c.args.federate (sym w.is_joined.ensures ∙ w.if-not-is_joined.true)
    ] in
    none_put d c.args.self.now c.args.event.sender c.args.event.serial c.args.federate _ c.requires.free (when_untold _ _ other)

pub returns-in-Some-clause-ok : goal.returns-in-Some-clause-ok
returns-in-Some-clause-ok c =
    let other : is_other (joined_in c.args.self.now) c.args.event.sender c.args.federate ≡ true = other_joined (joined_in c.args.self.now) c.args.event.sender c.args.federate c.if-event-federate.false (sym c.is_joined.ensures ∙ c.if-not-is_joined.false) in
    let there : Some (copy_given c.args.delivery c.in-Some.content) ≡ when (is_other (joined_in c.args.self.now) c.args.event.sender c.args.federate) (option_map (copy_given c.args.delivery) c.args.content) =
    sym (when_told _ _ other ∙ ap (λ (o : Option Content). option_map (copy_given c.args.delivery) o) c.in-Some.is) in
    on_ok c.put.result (λ put d. put d ∙ ap (λ (o : Option Copy). record (central_with d c.args.self.now) { bag = at_key (central_with d c.args.self.now).bag c.args.event.sender c.args.event.serial c.args.federate o }) there) c.put.ensures.ok

pub returns-in-None-clause-ok : goal.returns-in-None-clause-ok
returns-in-None-clause-ok c d = none_put d c.args.self.now c.args.event.sender c.args.event.serial c.args.federate _ c.requires.free (nothing_said _ c.args.delivery c.args.content c.in-None.is)
