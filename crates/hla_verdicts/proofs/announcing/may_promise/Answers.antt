use Rattle.hla_accounts.proofs.Tests.Calls.{may_announce_decided}
use Rattle.hla_verdicts.proofs.announcing.may_promise.Goals as goal

pub returns-in-Some : goal.returns-in-Some
returns-in-Some c d =
    rw (c.in-Some.is, c.may_announce.ensures) (may_announce_decided d c.args.accounts.now c.next_federate-next.ensures.kept c.args.federate c.in-Some.time)
