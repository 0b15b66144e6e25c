use Rattle.std.proofs.Common.{ℕ, ◌≤◌, sym, ap, subst}
use Rattle.hla_machine.specs.Central.{Central}
use Rattle.hla_accounts.specs.Accounts.{central_with}
use Rattle.hla_accounts.proofs.AfterSteps.Counts.{same_size}
use Rattle.hla_verdicts.proofs.Picks.Messages.{handed_over, handed_late, picked_up}
use Rattle.hla_verdicts.proofs.giving.give.Goals as goal

pub take-requires-in-TimeStamp-clause-within : goal.take-requires-in-TimeStamp-clause-within
take-requires-in-TimeStamp-clause-within c =
    subst (λ (n : ℕ). c.args.federate ≤ n) (sym (same_size c.args.accounts.now c.change_row.new.self (λ d. ap (λ (x : Central). x.directory.next_federate) (c.change_row.ensures d)))) c.requires.within

pub returns-in-Receive : goal.returns-in-Receive
returns-in-Receive c d = handed_over (central_with d c.args.accounts.now) (central_with d c.take.new.self) c.args.federate c.args.event c.args.delivery c.in-Receive.is (c.take.ensures d)

pub returns-in-Demoted : goal.returns-in-Demoted
returns-in-Demoted c d =
    handed_late (central_with d c.args.accounts.now) (central_with d c.take-in-Demoted.new.self) c.args.federate c.args.event c.args.delivery c.in-Demoted.stamp c.in-Demoted.is (c.take-in-Demoted.ensures d)

pub returns-in-TimeStamp : goal.returns-in-TimeStamp
returns-in-TimeStamp c d =
    picked_up (central_with d c.args.accounts.now) (central_with d c.change_row.new.self) (central_with d c.take-in-TimeStamp.new.self) c.args.federate c.args.event c.args.delivery c.in-TimeStamp.stamp
    c.in-TimeStamp.is (c.change_row.ensures d) (c.take-in-TimeStamp.ensures d)
