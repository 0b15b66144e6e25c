-- The tests that it has passed bound its time and its lookahead.
use Rattle.std.proofs.Common.{◌+◌, length, arith}
use Rattle.hla_base.specs.Rows.{bar_of}
use Rattle.hla_base.specs.Tables.{greatest}
use Rattle.hla_catalogue.specs.CatalogueValue.{empty_catalogue}
use Rattle.hla_machine.specs.Directory.{new_directory}
use Rattle.hla_machine.specs.Central.{low_entry}
use Rattle.hla_accounts.specs.Accounts.{account_at}
use Rattle.hla_accounts.proofs.Tests.Entries.{IsClear, clear_limits, entry_limits}
use Rattle.hla_accounts.proofs.accounts.Accounts.may_regulate_from.Goals as goal

clear : (c : goal.After-may_enter) → IsClear (account_at c.args.self.now c.args.federate).state (greatest (length c.args.self.now + 1) (c.args.time + c.args.lookahead) (λ g. bar_of (account_at c.args.self.now g).state)) c.args.time c.args.lookahead
unfolding low_entry
clear c = clear_limits (account_at c.args.self.now c.args.federate).state _ c.args.time c.args.lookahead (c.requires (new_directory empty_catalogue))

pub overflow_add-time : goal.overflow_add-time
overflow_add-time c =
    let limits = clear_limits (account_at c.args.self.now c.args.federate).state _ c.args.time c.args.lookahead (c.requires (new_directory empty_catalogue)) in
    omega (arith, limits.time, limits.lookahead)

pub returns-clause-within : goal.returns-clause-within
returns-clause-within c is = entry_limits c.args.self.now (account_at c.args.self.now c.args.federate).state c.args.time c.args.lookahead c.args.entry (clear c) (c.may_enter.ensures.within is)
