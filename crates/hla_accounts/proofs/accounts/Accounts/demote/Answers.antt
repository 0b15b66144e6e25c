-- The bag of the one account is written.
use Rattle.std.proofs.Common.{◌≡◌, ◌≤◌, ◌-◌, ℕ, Option, length, set, subst, ap, ◌∙◌}
use Rattle.hla_machine.specs.Callbacks.{with_demoted}
use Rattle.hla_bags.specs.declared.bag.Waiting.{Waiting}
use Rattle.hla_bags.specs.Bags.{waiting_at}
use Rattle.hla_accounts.specs.Accounts.{account_at, central_with}
use Rattle.hla_accounts.proofs.AfterSteps.OneAccount.{account_read, bag_kept, demote_set, none_demoted}
use Rattle.hla_accounts.proofs.accounts.Accounts.demote.Goals as goal

inside : (c : goal.After-self-1) → c.args.federate ≤ length c.self.inside.accounts.items
inside c = rw c.self.view_is c.requires.within

read : (c : goal.After-self-1) → c.index_mut.result.now ≡ account_at c.self.inside.accounts.items c.args.federate
read c = account_read c.self.inside.accounts.items c.args.federate c.index_mut.result.now c.requires.some (inside c) c.index_mut.ensures.value

pub invariant_of-self : goal.invariant_of-self
invariant_of-self c = bag_kept c.self.inside.accounts.items c.args.federate c.requires.some (inside c) c.self.invariant c.index_mut.result.now c.demote.new.self (read c) c.demote.ensures.apart
    (λ g m none. ap (λ (t : ℕ → ℕ → Option Waiting). t g m) c.demote.ensures.table ∙ none_demoted (waiting_at c.index_mut.result.now.bag) c.args.events.now g m none)

pub returns : goal.returns
returns c d = subst (λ v. central_with d (set c.self.inside.accounts.items (c.args.federate - 1) (record c.index_mut.result.now { bag = c.demote.new.self })) ≡ record (central_with d v) { bag = with_demoted (central_with d v).bag c.args.federate c.args.events.now }) c.self.view_is
    (demote_set d c.self.inside.accounts.items c.args.federate c.requires.some (inside c) c.index_mut.result.now c.demote.new.self c.args.events.now (read c) c.demote.ensures.table)
