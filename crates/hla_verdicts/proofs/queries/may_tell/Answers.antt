use Rattle.hla_accounts.proofs.Tests.Calls.{may_bound_decided, may_be_next_decided}
use Rattle.hla_verdicts.proofs.queries.may_tell.Goals as goal

pub returns-in-Bound : goal.returns-in-Bound
returns-in-Bound c d = rw (c.in-Bound.is, c.may_bound.ensures) (may_bound_decided d c.args.accounts.now c.next_federate-next.ensures.kept c.args.federate c.args.time)

pub returns-in-NextEvent : goal.returns-in-NextEvent
returns-in-NextEvent c d = rw (c.in-NextEvent.is, c.may_be_next.ensures) (may_be_next_decided d c.args.accounts.now c.next_federate-next.ensures.kept c.args.federate c.args.time)
