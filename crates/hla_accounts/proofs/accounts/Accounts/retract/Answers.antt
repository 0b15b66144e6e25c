-- What the one account has sent is written.
use Rattle.std.proofs.Common.{◌≡◌, ◌≤◌, ◌-◌, true, length, set, subst, sym}
use Rattle.hla_base.specs.Tables.{upd2}
use Rattle.hla_retraction.specs.SentRows.{sent_of}
use Rattle.hla_accounts.specs.declared.account.Account.{Account}
use Rattle.hla_accounts.specs.Accounts.{account_at, central_with}
use Rattle.hla_accounts.proofs.AfterSteps.OneAccount.{account_read, account_shown}
use Rattle.hla_accounts.proofs.AfterSteps.Sends.{retract_kept, retract_set}
use Rattle.hla_accounts.proofs.accounts.Accounts.retract.Goals as goal

inside : (c : goal.After-self-1) → c.args.federate ≤ length c.self.inside.accounts.items
inside c = rw c.self.view_is c.requires.within

read : (c : goal.After-self-1) → c.index_mut.result.now ≡ account_at c.self.inside.accounts.items c.args.federate
read c = account_read c.self.inside.accounts.items c.args.federate c.index_mut.result.now c.requires.some (inside c) c.index_mut.ensures.value

may_shown : (c : goal.After-self-1) → (sent_of (account_at c.self.inside.accounts.items c.args.federate).sent c.args.serial).retractable ≡ true
may_shown c = rw c.self.view_is c.requires.may

pub retract-requires : goal.retract-requires
retract-requires c = let is = account_shown c.self.inside.accounts.items c.args.self.now c.self.view_is c.args.federate c.index_mut.result.now c.requires.some c.requires.within c.index_mut.ensures.value in subst (λ (a : Account). (sent_of a.sent c.args.serial).retractable ≡ true) (sym is) c.requires.may

pub invariant_of-self : goal.invariant_of-self
invariant_of-self c = retract_kept c.self.inside.accounts.items c.args.federate c.requires.some (inside c) c.self.invariant c.index_mut.result.now c.retract.new.self c.args.serial (read c) (may_shown c) c.retract.ensures

pub returns : goal.returns
returns c d = subst (λ v. central_with d (set c.self.inside.accounts.items (c.args.federate - 1) (record c.index_mut.result.now { sent = c.retract.new.self })) ≡ record (central_with d v) { sent = upd2 (central_with d v).sent c.args.federate c.args.serial (record ((central_with d v).sent c.args.federate c.args.serial) { retracted = true }) }) c.self.view_is
    (retract_set d c.self.inside.accounts.items c.args.federate c.requires.some (inside c) c.index_mut.result.now c.retract.new.self c.args.serial (read c) c.retract.ensures)
