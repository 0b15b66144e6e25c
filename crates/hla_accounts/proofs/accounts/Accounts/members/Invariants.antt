-- So far those are there whose numbers are below.
use Rattle.std.proofs.Common.{◌≡◌}
use Rattle.hla_base.specs.FederateSets.{federate_set}
use Rattle.hla_accounts.specs.Accounts.{account_at}
use Rattle.hla_accounts.proofs.Sendings.Messages.{told_below}
use Rattle.hla_accounts.proofs.accounts.Accounts.members.Given as goal

abbrev pub invariant-loop-federate : goal.invariant-loop-federate
invariant-loop-federate l = federate_set l.members ≡ told_below (λ f. (account_at l.self f).is_joined) l.federate
