-- Who never joined is told nothing.
use Rattle.std.proofs.Common.{subst}
use mathlib.Core.Bool.{false≢true}
use Rattle.hla_machine.specs.Callbacks.{IsNextNotice}
use Rattle.hla_accounts.specs.declared.account.Account.{Account}
use Rattle.hla_accounts.proofs.accounts.Accounts.is_next_notice.Goals as goal

pub returns-in-None : goal.returns-in-None
returns-in-None c = (λ e. absurd (false≢true e), λ h. absurd (subst (λ (a : Account). IsNextNotice a.notices c.args.notice.now) c.in-None.ensures h))
