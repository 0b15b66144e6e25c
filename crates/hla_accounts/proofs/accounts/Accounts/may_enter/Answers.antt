-- It is the greatest bar, or at most some wake.
use Rattle.std.proofs.Common.{inl, inr}
use Rattle.hla_accounts.proofs.Tests.Entries.{entry_within}
use Rattle.hla_accounts.proofs.accounts.Accounts.may_enter.Goals as goal

pub returns-then-entry-low-clause-within : goal.returns-then-entry-low-clause-within
returns-then-entry-low-clause-within c is =
    entry_within c.args.self.now c.args.earliest c.args.entry c.greatest_bar-low.result c.greatest_bar-low.ensures.value c.greatest_bar-low.ensures.bounded c.if-low-entry.true (inl c.if-entry-low.true)

pub returns-else-entry-low-clause-within : goal.returns-else-entry-low-clause-within
returns-else-entry-low-clause-within c is =
    entry_within c.args.self.now c.args.earliest c.args.entry c.greatest_bar-low.result c.greatest_bar-low.ensures.value c.greatest_bar-low.ensures.bounded c.if-low-entry.true (inr (c.is_below_some_wake.ensures.bounded is))
