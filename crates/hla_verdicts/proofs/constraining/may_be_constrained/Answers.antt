use Rattle.hla_accounts.proofs.Tests.Ticks.{may_constrain_decided}
use Rattle.hla_verdicts.proofs.constraining.may_be_constrained.Goals as goal

pub returns : goal.returns
returns c d = rw c.may_constrain.ensures (may_constrain_decided d c.args.accounts.now c.next_federate-next.ensures.kept c.args.federate c.args.time c.args.events.now)
