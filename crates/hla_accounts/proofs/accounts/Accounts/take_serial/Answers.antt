-- The next serial of the one account is written.
use Rattle.std.proofs.Common.{◌≡◌, ◌≤◌, ◌-◌, ◌+◌, length, set, subst, sym, ap, ◌∙◌}
use Rattle.hla_base.specs.Limits.{max_serial}
use Rattle.hla_base.specs.Tables.{upd}
use Rattle.hla_accounts.specs.declared.account.Account.{Account}
use Rattle.hla_accounts.specs.Accounts.{account_at, central_with, AreKept}
use Rattle.hla_accounts.proofs.AfterSteps.OneAccount.{account_read, account_shown}
use Rattle.hla_accounts.proofs.AfterSteps.Sends.{serial_kept, serial_set}
use Rattle.hla_accounts.proofs.accounts.Accounts.take_serial.Goals as goal

inside : (c : goal.After-self-1) → c.args.federate ≤ length c.self.inside.accounts.items
inside c = rw c.self.view_is c.requires.within

read : (c : goal.After-self-1) → c.index_mut.result.now ≡ account_at c.self.inside.accounts.items c.args.federate
read c = account_read c.self.inside.accounts.items c.args.federate c.index_mut.result.now c.requires.some (inside c) c.index_mut.ensures.value

pub take_serial-requires : goal.take_serial-requires
take_serial-requires c = let is = account_shown c.self.inside.accounts.items c.args.self.now c.self.view_is c.args.federate c.index_mut.result.now c.requires.some c.requires.within c.index_mut.ensures.value in subst (λ (a : Account). a.next_serial ≤ max_serial) (sym is) c.requires.room

pub invariant_of-self : goal.invariant_of-self
invariant_of-self c = subst (λ (a : Account). AreKept (set c.self.inside.accounts.items (c.args.federate - 1) a)) (sym c.take_serial.ensures) (serial_kept c.self.inside.accounts.items c.args.federate c.requires.some (inside c) c.self.invariant c.index_mut.result.now (read c))

pub returns : goal.returns
returns c d = subst (λ v. central_with d (set c.self.inside.accounts.items (c.args.federate - 1) c.take_serial.new.self) ≡ record (central_with d v) { serial = upd (central_with d v).serial c.args.federate ((central_with d v).serial c.args.federate + 1) }) c.self.view_is
    (ap (λ (a : Account). central_with d (set c.self.inside.accounts.items (c.args.federate - 1) a)) c.take_serial.ensures ∙ serial_set d c.self.inside.accounts.items c.args.federate c.requires.some (inside c) c.index_mut.result.now (read c))
