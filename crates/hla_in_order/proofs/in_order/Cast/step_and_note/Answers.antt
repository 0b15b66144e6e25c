use Rattle.hla_in_order.proofs.in_order.Cast.step_and_note.Goals as goal

pub returns-clause-led : goal.returns-clause-led
returns-clause-led g c fed rs set =
    let led = c.in_ok-outcome.ensures.led fed rs set in
    (led.0, led.1, record { stands = led.2.stands; counts = led.2.counts; plays = led.2.plays })
