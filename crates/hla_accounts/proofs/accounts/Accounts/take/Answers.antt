-- The bag of the one account is written.
use Rattle.std.proofs.Common.{◌≡◌, ◌≤◌, ◌-◌, ℕ, Option, None, length, set, subst, ap, ◌∙◌}
use Rattle.hla_machine.specs.Central.{at_key}
use Rattle.hla_bags.specs.declared.bag.Waiting.{Waiting}
use Rattle.hla_bags.specs.Bags.{waiting_at}
use Rattle.hla_accounts.specs.Accounts.{account_at, central_with}
use Rattle.hla_accounts.proofs.AfterSteps.OneAccount.{account_read, bag_kept, take_set, none_stays}
use Rattle.hla_accounts.proofs.accounts.Accounts.take.Goals as goal

inside : (c : goal.After-self-1) → c.args.federate ≤ length c.self.inside.accounts.items
inside c = rw c.self.view_is c.requires.within

read : (c : goal.After-self-1) → c.index_mut.result.now ≡ account_at c.self.inside.accounts.items c.args.federate
read c = account_read c.self.inside.accounts.items c.args.federate c.index_mut.result.now c.requires.some (inside c) c.index_mut.ensures.value

pub invariant_of-self : goal.invariant_of-self
invariant_of-self c = bag_kept c.self.inside.accounts.items c.args.federate c.requires.some (inside c) c.self.invariant c.index_mut.result.now c.remove.new.self (read c) c.remove.ensures.apart
    (λ g m none. ap (λ (t : ℕ → ℕ → Option Waiting). t g m) c.remove.ensures.table ∙ none_stays (waiting_at c.index_mut.result.now.bag) c.args.event.sender c.args.event.serial g m none)

pub returns : goal.returns
returns c d = subst (λ v. central_with d (set c.self.inside.accounts.items (c.args.federate - 1) (record c.index_mut.result.now { bag = c.remove.new.self })) ≡ record (central_with d v) { bag = at_key (central_with d v).bag c.args.event.sender c.args.event.serial c.args.federate None }) c.self.view_is
    (take_set d c.self.inside.accounts.items c.args.federate c.requires.some (inside c) c.index_mut.result.now c.remove.new.self c.args.event.sender c.args.event.serial (read c) c.remove.ensures.table)
