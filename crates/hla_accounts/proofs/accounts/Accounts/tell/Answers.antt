-- What the one account is to be told is written.
use Rattle.std.proofs.Common.{◌≡◌, ◌≤◌, ◌-◌, length, set, subst}
use Rattle.hla_machine.specs.Machine.{with_told}
use Rattle.hla_accounts.specs.Accounts.{account_at, central_with}
use Rattle.hla_accounts.specs.Notices.{told_alone}
use Rattle.hla_accounts.proofs.AfterSteps.OneAccount.{account_read}
use Rattle.hla_accounts.proofs.AfterSteps.Counts.{on_ok}
use Rattle.hla_accounts.proofs.AfterSteps.Notices.{notice_told, notices_kept}
use Rattle.hla_accounts.proofs.accounts.Accounts.tell.Goals as goal

inside : (c : goal.After-self-1) → c.args.federate ≤ length c.self.inside.accounts.items
inside c = rw c.self.view_is c.requires.within

read : (c : goal.After-self-1) → c.index_mut.result.now ≡ account_at c.self.inside.accounts.items c.args.federate
read c = account_read c.self.inside.accounts.items c.args.federate c.index_mut.result.now c.requires.some (inside c) c.index_mut.ensures.value

pub invariant_of-self : goal.invariant_of-self
invariant_of-self c = notices_kept c.self.inside.accounts.items c.args.federate c.requires.some (inside c) c.self.invariant c.index_mut.result.now c.add.new.self (read c)

pub returns-clause-ok : goal.returns-clause-ok
returns-clause-ok c = on_ok c.add.result (λ told d. subst (λ v. central_with d (set c.self.inside.accounts.items (c.args.federate - 1) (record c.index_mut.result.now { notices = c.add.new.self })) ≡ with_told (central_with d v) (told_alone c.args.federate c.args.notice)) c.self.view_is
    (notice_told d c.self.inside.accounts.items c.args.federate c.requires.some (inside c) c.index_mut.result.now c.add.new.self c.args.notice (read c) told)) c.add.ensures.ok
