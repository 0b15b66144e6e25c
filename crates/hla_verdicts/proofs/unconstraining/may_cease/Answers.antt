use Rattle.hla_accounts.proofs.Tests.Calls.{may_cease_decided}
use Rattle.hla_verdicts.proofs.unconstraining.may_cease.Goals as goal

pub returns : goal.returns
returns c d = rw c.may_cease.ensures (may_cease_decided d c.args.accounts.now c.next_federate-next.ensures.kept c.args.federate c.args.events.now)
