use Rattle.std.proofs.Common.{ℕ, List, sym, subst}
use Rattle.std.specs.Prelude.{IfOk}
use Rattle.hla_machine.specs.declared.step.Step.{Step}
use Rattle.hla_requests.specs.declared.steps.Request.TheVariants as request
use Rattle.hla_in_order.specs.Turns.{RequestLeads}
use Rattle.hla_in_order.proofs.in_order.Cast.step.Goals as goal

pub returns-in-Join-clause-led : goal.returns-in-Join-clause-led
returns-in-Join-clause-led g c =
    subst (λ (s : Step). IfOk c.join.result (λ out. (fed : List ℕ) → RequestLeads fed (request.Step s) out c.args.rti.now c.args.self.now c.join.new.rti c.join.new.self)) (sym c.in-Join.is) c.join.ensures.led

pub returns-in-Call-clause-led : goal.returns-in-Call-clause-led
returns-in-Call-clause-led g c fed =
    subst (λ (s : Step). RequestLeads fed (request.Step s) c.call.result c.args.rti.now c.args.self.now c.args.rti.now c.call.new.self) (sym c.in-Call.is) (c.call.ensures.led fed c.args.rti.now)

pub returns-in-Tick-clause-led : goal.returns-in-Tick-clause-led
returns-in-Tick-clause-led g c fed =
    subst (λ (s : Step). RequestLeads fed (request.Step s) c.tick.result c.args.rti.now c.args.self.now c.args.rti.now c.tick.new.self) (sym c.in-Tick.is) (c.tick.ensures.led fed c.args.rti.now)

pub returns-in-Carry-clause-led : goal.returns-in-Carry-clause-led
returns-in-Carry-clause-led g c fed =
    subst (λ (s : Step). RequestLeads fed (request.Step s) c.carry.result c.args.rti.now c.args.self.now c.args.rti.now c.carry.new.self) (sym c.in-Carry.is) (c.carry.ensures.led fed c.args.rti.now)

pub returns-in-Announce-clause-led : goal.returns-in-Announce-clause-led
returns-in-Announce-clause-led g c fed =
    subst (λ (s : Step). RequestLeads fed (request.Step s) c.announce.result c.args.rti.now c.args.self.now c.args.rti.now c.announce.new.self) (sym c.in-Announce.is) (c.announce.ensures.led fed c.args.rti.now)
