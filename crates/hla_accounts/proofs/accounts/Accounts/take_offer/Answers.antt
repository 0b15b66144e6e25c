-- The discoveries of the one account are written.
use Rattle.std.proofs.Common.{◌≡◌, ◌≤◌, ◌-◌, drop, length, set, subst}
use Rattle.hla_base.specs.Tables.{upd2}
use Rattle.hla_accounts.specs.Accounts.{account_at, central_with}
use Rattle.hla_accounts.proofs.AfterSteps.OneAccount.{account_read}
use Rattle.hla_accounts.proofs.AfterSteps.Offers.{offers_set, offers_kept}
use Rattle.hla_accounts.proofs.accounts.Accounts.take_offer.Goals as goal

inside : (c : goal.After-self-1) → c.args.federate ≤ length c.self.inside.accounts.items
inside c = rw c.self.view_is c.requires.within

read : (c : goal.After-self-1) → c.index_mut.result.now ≡ account_at c.self.inside.accounts.items c.args.federate
read c = account_read c.self.inside.accounts.items c.args.federate c.index_mut.result.now c.requires.some (inside c) c.index_mut.ensures.value

pub invariant_of-self : goal.invariant_of-self
invariant_of-self c = offers_kept c.self.inside.accounts.items c.args.federate c.requires.some (inside c) c.self.invariant c.index_mut.result.now c.take_first.new.self (read c)

pub returns : goal.returns
returns c d = subst (λ v. central_with d (set c.self.inside.accounts.items (c.args.federate - 1) (record c.index_mut.result.now { offers = c.take_first.new.self })) ≡ record (central_with d v) { discoveries = upd2 (central_with d v).discoveries c.args.from c.args.federate (drop 1 ((central_with d v).discoveries c.args.from c.args.federate)) }) c.self.view_is
    (offers_set d c.self.inside.accounts.items c.args.federate c.requires.some (inside c) (drop 1) c.index_mut.result.now c.take_first.new.self c.args.from (read c) c.take_first.ensures)
