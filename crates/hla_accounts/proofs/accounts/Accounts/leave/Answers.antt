-- The one account is written.
use Rattle.std.proofs.Common.{◌≡◌, ◌≤◌, ◌-◌, length, set, subst}
use Rattle.hla_machine.specs.Directory.{without_member}
use Rattle.hla_accounts.specs.Accounts.{account_at, central_with}
use Rattle.hla_accounts.specs.Notices.{without_federate}
use Rattle.hla_accounts.proofs.AfterSteps.OneAccount.{account_read}
use Rattle.hla_accounts.proofs.AfterSteps.Joins.{left_set, left_kept}
use Rattle.hla_accounts.proofs.accounts.Accounts.leave.Goals as goal

inside : (c : goal.After-self-1) → c.args.federate ≤ length c.self.inside.accounts.items
inside c = rw c.self.view_is c.requires.within

read : (c : goal.After-self-1) → c.index_mut.result.now ≡ account_at c.self.inside.accounts.items c.args.federate
read c = account_read c.self.inside.accounts.items c.args.federate c.index_mut.result.now c.requires.some (inside c) c.index_mut.ensures.value

pub invariant_of-self : goal.invariant_of-self
invariant_of-self c = left_kept c.self.inside.accounts.items c.args.federate c.requires.some (inside c) c.self.invariant c.index_mut.result.now c.leave.new.self (read c) c.leave.ensures

pub returns : goal.returns
returns c d = subst (λ v. central_with (without_member d c.args.federate) (set c.self.inside.accounts.items (c.args.federate - 1) c.leave.new.self) ≡ without_federate (central_with d v) c.args.federate) c.self.view_is
    (left_set d c.self.inside.accounts.items c.args.federate c.requires.some (inside c) c.index_mut.result.now c.leave.new.self (read c) c.leave.ensures)
