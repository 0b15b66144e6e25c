use Rattle.std.proofs.Common.{refl}
use Rattle.hla_in_order.proofs.LeadLemmas.{tick_leads}
use Rattle.hla_in_order.proofs.in_order.Cast.tick.Goals as goal

pub returns-clause-led : goal.returns-clause-led
returns-clause-led g c fed office = tick_leads fed c.args.federate c.act.result office c.args.self.now _ c.act.ensures refl refl
