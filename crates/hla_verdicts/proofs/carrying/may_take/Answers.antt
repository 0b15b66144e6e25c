use Rattle.hla_accounts.proofs.Tests.Calls.{may_carry_decided}
use Rattle.hla_verdicts.proofs.carrying.may_take.Goals as goal

pub returns : goal.returns
returns c d = rw c.may_carry.ensures (may_carry_decided d c.args.accounts.now c.next_federate-next.ensures.kept c.args.from c.args.to c.args.carried)
