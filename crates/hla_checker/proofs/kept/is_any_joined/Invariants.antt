-- None of the numbers so far is of a joined federate.
use Rattle.std.proofs.Common.{◌≡◌, ℕ, ◌<◌, false}
use Rattle.hla_accounts.specs.Accounts.{account_at}
use Rattle.hla_checker.proofs.kept.is_any_joined.Given as goal

abbrev pub invariant-loop-federate : goal.invariant-loop-federate
invariant-loop-federate l = (f : ℕ) → f < l.federate → (account_at l.accounts f).is_joined ≡ false
