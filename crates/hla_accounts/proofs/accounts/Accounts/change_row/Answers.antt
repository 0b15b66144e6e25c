-- The row of the one account is written.
use Rattle.std.proofs.Common.{◌≡◌, ◌≤◌, ◌-◌, length, set, subst, sym, ap, ◌∙◌}
use Rattle.hla_machine.specs.Callbacks.{with_central_row}
use Rattle.hla_accounts.specs.declared.account.Account.{Account}
use Rattle.hla_accounts.specs.RowChanges.{changed_row, MayChangeRow}
use Rattle.hla_accounts.specs.Accounts.{account_at, central_with}
use Rattle.hla_accounts.proofs.AfterSteps.OneAccount.{account_read, account_shown, row_kept, row_set}
use Rattle.hla_accounts.proofs.accounts.Accounts.change_row.Goals as goal

pub make-requires : goal.make-requires
make-requires c =
    let is = account_shown c.self.inside.accounts.items c.args.self.now c.self.view_is c.args.federate c.index_mut.result.now c.requires.some c.requires.within c.index_mut.ensures.value in
    subst (λ (a : Account). MayChangeRow c.args.change a.state) (sym is) c.requires.may

inside : (c : goal.After-self-1) → c.args.federate ≤ length c.self.inside.accounts.items
inside c = rw c.self.view_is c.requires.within

read : (c : goal.After-self-1) → c.index_mut.result.now ≡ account_at c.self.inside.accounts.items c.args.federate
read c = account_read c.self.inside.accounts.items c.args.federate c.index_mut.result.now c.requires.some (inside c) c.index_mut.ensures.value

pub invariant_of-self : goal.invariant_of-self
invariant_of-self c = row_kept c.self.inside.accounts.items c.args.federate c.requires.some (inside c) c.self.invariant c.index_mut.result.now c.make.new.state (read c)

pub returns : goal.returns
returns c d =
    let is = account_shown c.self.inside.accounts.items c.args.self.now c.self.view_is c.args.federate c.index_mut.result.now c.requires.some c.requires.within c.index_mut.ensures.value in
    subst (λ v. central_with d (set c.self.inside.accounts.items (c.args.federate - 1) (record c.index_mut.result.now { state = c.make.new.state })) ≡ with_central_row (central_with d v) c.args.federate c.make.new.state) c.self.view_is
    (row_set d c.self.inside.accounts.items c.args.federate c.requires.some (inside c) c.index_mut.result.now c.make.new.state (read c))
    ∙ ap (with_central_row (central_with d c.args.self.now) c.args.federate) (c.make.ensures ∙ ap (λ (a : Account). changed_row c.args.change a.state) is)
