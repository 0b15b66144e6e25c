-- What is owed to the one account is written.
use Rattle.std.proofs.Common.{◌≡◌, ◌≤◌, ◌-◌, length, set, subst}
use Rattle.hla_machine.specs.Central.{at3}
use Rattle.hla_accounts.specs.Accounts.{account_at, central_with}
use Rattle.hla_accounts.proofs.AfterSteps.OneAccount.{account_read}
use Rattle.hla_accounts.proofs.AfterSteps.Counts.{owed_taken, owed_kept}
use Rattle.hla_accounts.proofs.accounts.Accounts.take_owed.Goals as goal

inside : (c : goal.After-self-1) → c.args.federate ≤ length c.self.inside.accounts.items
inside c = rw c.self.view_is c.requires.within

read : (c : goal.After-self-1) → c.index_mut.result.now ≡ account_at c.self.inside.accounts.items c.args.federate
read c = account_read c.self.inside.accounts.items c.args.federate c.index_mut.result.now c.requires.some (inside c) c.index_mut.ensures.value

pub invariant_of-self : goal.invariant_of-self
invariant_of-self c = owed_kept c.self.inside.accounts.items c.args.federate c.requires.some (inside c) c.self.invariant c.index_mut.result.now c.remove.new.self (read c)

pub returns : goal.returns
returns c d = subst (λ v. central_with d (set c.self.inside.accounts.items (c.args.federate - 1) (record c.index_mut.result.now { owed = c.remove.new.self })) ≡ record (central_with d v) { owed = at3 (central_with d v).owed c.args.event.sender c.args.event.serial c.args.federate ((central_with d v).owed c.args.event.sender c.args.event.serial c.args.federate - 1) }) c.self.view_is
    (owed_taken d c.self.inside.accounts.items c.args.federate c.requires.some (inside c) c.index_mut.result.now c.remove.new.self c.args.event.sender c.args.event.serial (read c) c.remove.ensures)
