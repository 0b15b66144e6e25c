-- The discoveries of the one account are written.
use Rattle.std.proofs.Common.{◌≡◌, ◌≤◌, ◌-◌, ◌++◌, length, set, subst}
use Rattle.hla_base.specs.Tables.{upd}
use Rattle.hla_accounts.specs.Accounts.{account_at, central_with, offers_from}
use Rattle.hla_accounts.proofs.AfterSteps.OneAccount.{account_read}
use Rattle.hla_accounts.proofs.AfterSteps.Offers.{offers_added, offers_kept}
use Rattle.hla_accounts.proofs.AfterSteps.Counts.{on_ok}
use Rattle.hla_accounts.proofs.accounts.Accounts.add_offers.Goals as goal

inside : (c : goal.After-self-1) → c.args.federate ≤ length c.self.inside.accounts.items
inside c = rw c.self.view_is c.requires.within

read : (c : goal.After-self-1) → c.index_mut.result.now ≡ account_at c.self.inside.accounts.items c.args.federate
read c = account_read c.self.inside.accounts.items c.args.federate c.index_mut.result.now c.requires.some (inside c) c.index_mut.ensures.value

pub invariant_of-self : goal.invariant_of-self
invariant_of-self c = offers_kept c.self.inside.accounts.items c.args.federate c.requires.some (inside c) c.self.invariant c.index_mut.result.now c.add_all.new.self (read c)

pub returns-clause-ok : goal.returns-clause-ok
returns-clause-ok c = on_ok c.add_all.result (λ added d. subst (λ v. central_with d (set c.self.inside.accounts.items (c.args.federate - 1) (record c.index_mut.result.now { offers = c.add_all.new.self })) ≡ record (central_with d v) { discoveries = λ g. upd ((central_with d v).discoveries g) c.args.federate ((central_with d v).discoveries g c.args.federate ++ offers_from g c.args.offers.items) }) c.self.view_is
    (offers_added d c.self.inside.accounts.items c.args.federate c.requires.some (inside c) c.index_mut.result.now c.add_all.new.self c.args.offers.items (read c) added)) c.add_all.ensures.ok
