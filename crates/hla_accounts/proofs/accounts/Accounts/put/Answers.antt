-- The bag of the one account is written.
use Rattle.std.proofs.Common.{◌≡◌, ◌≤◌, ◌-◌, Some, length, set, subst, ap, ◌∙◌}
use Rattle.hla_machine.specs.Central.{at_key}
use Rattle.hla_accounts.specs.declared.account.Account.{Account}
use Rattle.hla_bags.specs.Bags.{waiting_at}
use Rattle.hla_accounts.specs.Accounts.{account_at, central_with, copy_of}
use Rattle.hla_accounts.proofs.AfterSteps.OneAccount.{account_read, account_shown, entry_set}
use Rattle.hla_accounts.proofs.AfterSteps.Counts.{on_ok}
use Rattle.hla_accounts.proofs.AfterSteps.Sends.{puts_kept}
use Rattle.hla_accounts.proofs.accounts.Accounts.put.Goals as goal

inside : (c : goal.After-self-1) → c.args.federate ≤ length c.self.inside.accounts.items
inside c = rw c.self.view_is c.requires.within

read : (c : goal.After-self-1) → c.index_mut.result.now ≡ account_at c.self.inside.accounts.items c.args.federate
read c = account_read c.self.inside.accounts.items c.args.federate c.index_mut.result.now c.requires.some (inside c) c.index_mut.ensures.value

pub put-requires : goal.put-requires
put-requires c = let is = account_shown c.self.inside.accounts.items c.args.self.now c.self.view_is c.args.federate c.index_mut.result.now c.requires.some c.requires.within c.index_mut.ensures.value in ap (λ (a : Account). waiting_at a.bag c.args.waiting.event.sender c.args.waiting.event.serial) is ∙ c.requires.free

pub invariant_of-self : goal.invariant_of-self
invariant_of-self c = puts_kept c.self.inside.accounts.items c.args.federate c.requires.some (inside c) c.self.invariant c.index_mut.result.now c.put.new.self c.args.waiting.event.sender c.args.waiting.event.serial c.args.waiting c.put.result (read c) c.put.ensures.apart (rw c.self.view_is c.requires.used) c.put.ensures.ok c.put.ensures.unchanged

pub returns-clause-ok : goal.returns-clause-ok
returns-clause-ok c = on_ok c.put.result (λ table d. subst (λ v. central_with d (set c.self.inside.accounts.items (c.args.federate - 1) (record c.index_mut.result.now { bag = c.put.new.self })) ≡ record (central_with d v) { bag = at_key (central_with d v).bag c.args.waiting.event.sender c.args.waiting.event.serial c.args.federate (Some (copy_of c.args.waiting)) }) c.self.view_is
    (entry_set d c.self.inside.accounts.items c.args.federate c.requires.some (inside c) c.index_mut.result.now c.put.new.self c.args.waiting.event.sender c.args.waiting.event.serial (Some c.args.waiting) (read c) table)) c.put.ensures.ok
