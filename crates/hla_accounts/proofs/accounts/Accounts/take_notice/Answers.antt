-- What the one account is to be told is written.
use Rattle.std.proofs.Common.{◌≡◌, ◌≤◌, ◌-◌, drop, length, set, subst}
use Rattle.hla_base.specs.Tables.{upd}
use Rattle.hla_accounts.specs.Accounts.{account_at, central_with}
use Rattle.hla_accounts.proofs.AfterSteps.OneAccount.{account_read}
use Rattle.hla_accounts.proofs.AfterSteps.Notices.{notice_taken, notices_kept}
use Rattle.hla_accounts.proofs.accounts.Accounts.take_notice.Goals as goal

inside : (c : goal.After-self-1) → c.args.federate ≤ length c.self.inside.accounts.items
inside c = rw c.self.view_is c.requires.within

read : (c : goal.After-self-1) → c.index_mut.result.now ≡ account_at c.self.inside.accounts.items c.args.federate
read c = account_read c.self.inside.accounts.items c.args.federate c.index_mut.result.now c.requires.some (inside c) c.index_mut.ensures.value

pub invariant_of-self : goal.invariant_of-self
invariant_of-self c = notices_kept c.self.inside.accounts.items c.args.federate c.requires.some (inside c) c.self.invariant c.index_mut.result.now c.take_first.new.self (read c)

pub returns : goal.returns
returns c d = subst (λ v. central_with d (set c.self.inside.accounts.items (c.args.federate - 1) (record c.index_mut.result.now { notices = c.take_first.new.self })) ≡ record (central_with d v) { notices = upd (central_with d v).notices c.args.federate (drop 1 ((central_with d v).notices c.args.federate)) }) c.self.view_is
    (notice_taken d c.self.inside.accounts.items c.args.federate c.requires.some (inside c) c.index_mut.result.now c.take_first.new.self (read c) c.take_first.ensures)
