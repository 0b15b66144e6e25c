-- There is nobody.
use Rattle.hla_accounts.proofs.AfterSteps.Accounts.{none_kept}
use Rattle.hla_accounts.proofs.accounts.Accounts.new.Goals as goal

pub invariant_of-result : goal.invariant_of-result
invariant_of-result c = rw c.new.ensures.items none_kept
