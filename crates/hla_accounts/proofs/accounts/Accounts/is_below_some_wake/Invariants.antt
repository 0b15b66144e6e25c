-- None so far.
use Rattle.std.proofs.Common.{◌≡◌, ℕ, ◌<◌, ◌≤◌, false}
use Rattle.hla_accounts.specs.Calls.{is_below_wake_of}
use Rattle.hla_accounts.proofs.accounts.Accounts.is_below_some_wake.Given as goal

abbrev pub invariant-loop-other : goal.invariant-loop-other
invariant-loop-other l = (g : ℕ) → 1 ≤ g → g < l.other → is_below_wake_of l.self l.federate l.entry g ≡ false
