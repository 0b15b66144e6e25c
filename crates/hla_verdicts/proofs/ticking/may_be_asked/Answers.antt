use Rattle.hla_accounts.specs.Accounts.{account_at}
use Rattle.hla_accounts.proofs.Tests.Calls.{listed_decided}
use Rattle.hla_verdicts.proofs.ticking.may_be_asked.Goals as goal

pub returns : goal.returns
returns c d = rw c.is_due.ensures (listed_decided (account_at c.args.accounts.now c.args.federate).due c.args.event.sender c.args.event.serial)
