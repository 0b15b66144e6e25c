use Rattle.std.proofs.Common.{refl}
use Rattle.hla_in_order.proofs.LeadLemmas.{join_leads, unjoined_leads}
use Rattle.hla_in_order.proofs.in_order.Cast.join.Goals as goal

pub returns-in-Ok-push-clause-led : goal.returns-in-Ok-push-clause-led
returns-in-Ok-push-clause-led g c fed =
    rw c.number-number.ensures
    (join_leads fed c.args.name c.args.rti.now c.join.new.self c.args.self.now _ c.in-Ok.federate c.in-Ok.ensures.joined c.in-Ok.ensures.federate c.in-Ok.ensures.handed refl c.in-Ok-push.ensures.items refl)

pub returns-clause-led : goal.returns-clause-led
returns-clause-led g c fed =
    unjoined_leads fed c.args.name c.in-Err.fault c.args.rti.now c.join.new.self c.args.self.now _ c.in-Err.ensures.refused c.in-Err.ensures.handed refl refl refl
