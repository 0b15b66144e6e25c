use Rattle.std.proofs.Common.{◌+◌}
use Rattle.hla_accounts.proofs.Tests.Calls.{may_enter_decided}
use Rattle.hla_verdicts.proofs.regulating.may_send_from.Goals as goal

pub returns-clause-may : goal.returns-clause-may
returns-clause-may c d = rw c.may_regulate_from.ensures.value (may_enter_decided d c.args.accounts.now c.next_federate-next.ensures.kept c.args.federate (c.args.time + c.args.lookahead) c.args.entry)
