-- No discovery waits for who never joined.
use Rattle.std.proofs.Common.{subst}
use mathlib.Core.Bool.{false≢true}
use Rattle.hla_machine.specs.Callbacks.{IsNextDiscovery}
use Rattle.hla_accounts.specs.declared.account.Account.{Account}
use Rattle.hla_accounts.specs.Accounts.{offers_from}
use Rattle.hla_accounts.proofs.accounts.Accounts.is_next_offer.Goals as goal

pub returns-in-None : goal.returns-in-None
returns-in-None c = (λ e. absurd (false≢true e), λ h. absurd (subst (λ (a : Account). IsNextDiscovery (offers_from c.args.from a.offers) c.args.discovery.now) c.in-None.ensures h))
