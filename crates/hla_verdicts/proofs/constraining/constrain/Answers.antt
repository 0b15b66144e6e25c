use Rattle.std.proofs.Common.{ℕ, ◌≤◌, sym, ap, subst}
use Rattle.hla_machine.specs.Central.{Central}
use Rattle.hla_accounts.specs.Accounts.{central_with}
use Rattle.hla_accounts.proofs.AfterSteps.Counts.{same_size}
use Rattle.hla_verdicts.proofs.Time.Constraints.{constrained_after}
use Rattle.hla_verdicts.proofs.constraining.constrain.Goals as goal

pub demote-requires-clause-within : goal.demote-requires-clause-within
demote-requires-clause-within c =
    subst (λ (n : ℕ). c.args.federate ≤ n) (sym (same_size c.args.accounts.now c.change_row.new.self (λ d. ap (λ (x : Central). x.directory.next_federate) (c.change_row.ensures d)))) c.requires.within

pub returns : goal.returns
returns c d =
    constrained_after (central_with d c.args.accounts.now) (central_with d c.change_row.new.self) (central_with d c.demote.new.self) c.args.federate c.args.events.now (c.change_row.ensures d) (c.demote.ensures d)
