-- Each number that was visited leaves what is below the time.
use Rattle.std.proofs.Common.{◌≡◌, ℕ, ◌<◌, ◌≤◌, true}
use Rattle.hla_accounts.specs.Bounds.{leaves_below}
use Rattle.hla_accounts.proofs.accounts.Accounts.is_below_bound.Given as goal

abbrev pub invariant-loop-other : goal.invariant-loop-other
invariant-loop-other l = (g : ℕ) → 1 ≤ g → g < l.other → leaves_below l.self l.federate l.time g ≡ true
