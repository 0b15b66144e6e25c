-- The greatest of those so far, which bounds of all bound.
use Rattle.std.proofs.Common.{◌≡◌, ℕ, ◌+◌, ◌≤◌}
use Rattle.hla_base.specs.Limits.{max_time}
use Rattle.hla_base.specs.Rows.{bar_of}
use Rattle.hla_base.specs.Tables.{greatest}
use Rattle.hla_accounts.specs.Accounts.{account_at}
use Rattle.hla_accounts.proofs.accounts.Accounts.greatest_bar.Given as goal

abbrev pub invariant-loop-other : goal.invariant-loop-other
invariant-loop-other l = (l.low ≡ greatest l.other l.earliest (λ g. bar_of (account_at l.self g).state)) × ((x : ℕ) → l.earliest ≤ x → max_time + 1 ≤ x → l.low ≤ x)
