use Rattle.std.proofs.Common.{refl}
use Rattle.hla_in_order.proofs.LeadLemmas.{call_leads}
use Rattle.hla_in_order.proofs.in_order.Cast.call.Goals as goal

pub returns-clause-led : goal.returns-clause-led
returns-clause-led g c fed office = call_leads fed c.args.service c.args.federate c.act.result office c.args.self.now _ c.act.ensures refl refl
