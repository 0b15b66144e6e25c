-- Nothing waits for who never joined.
use mathlib.Core.Bool.{false≢true}
use Rattle.hla_accounts.proofs.AfterSteps.Accounts.{nothing_waits}
use Rattle.hla_accounts.proofs.accounts.Accounts.is_waiting.Goals as goal

pub returns-in-None : goal.returns-in-None
returns-in-None c = (λ e. absurd (false≢true e), λ is. absurd (nothing_waits _ _ _ _ c.in-None.ensures is))
