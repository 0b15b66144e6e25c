-- So far it goes to the numbers below.
use Rattle.std.proofs.Common.{◌≡◌, ◌&&◌, is_some}
use Rattle.hla_base.specs.Tables.{is_other}
use Rattle.hla_base.specs.FederateSets.{federate_set}
use Rattle.hla_accounts.specs.Accounts.{account_at}
use Rattle.hla_accounts.specs.Sendings.{item_for}
use Rattle.hla_accounts.proofs.Sendings.Messages.{told_below}
use Rattle.hla_accounts.proofs.accounts.Accounts.receivers_of.Given as goal

abbrev pub invariant-loop-federate : goal.invariant-loop-federate
invariant-loop-federate l = federate_set l.receivers ≡ told_below (λ f. is_other (λ k. (account_at l.self k).is_joined) l.sender f && is_some (item_for l.contents f)) l.federate
