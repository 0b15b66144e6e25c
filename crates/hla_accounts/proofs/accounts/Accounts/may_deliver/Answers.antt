-- It waits or does not, and the rest is tested.
use Rattle.std.proofs.lemmas.Bool.Decides.{Decides-at}
use Rattle.hla_accounts.specs.Accounts.{AreKept}
use Rattle.hla_accounts.proofs.AfterSteps.Accounts.{nothing_waits}
use Rattle.hla_accounts.proofs.Tests.Ticks.{may_deliver_decided}
use Rattle.hla_accounts.proofs.accounts.Accounts.may_deliver.Goals as goal

pub may_deliver_waiting-requires : goal.may_deliver_waiting-requires
may_deliver_waiting-requires c waits nobody = nothing_waits _ _ _ _ nobody (c.is_waiting-waits.ensures.0 waits)

pub returns : goal.returns
returns c d =
    let kept : AreKept c.args.self.now = rw (← c.self.view_is) c.self.invariant in
    Decides-at _ _ c.may_deliver_waiting.ensures (may_deliver_decided d c.args.self.now kept c.args.federate c.args.event c.args.content.now c.args.delivery c.is_waiting-waits.result c.is_waiting-waits.ensures)
