use Rattle.hla_accounts.proofs.Tests.Ticks.{may_grant_decided}
use Rattle.hla_verdicts.proofs.ticking.may_be_granted.Goals as goal

pub returns : goal.returns
returns c d = rw c.may_grant.ensures (may_grant_decided d c.args.accounts.now c.next_federate-next.ensures.kept c.args.federate c.args.time)
