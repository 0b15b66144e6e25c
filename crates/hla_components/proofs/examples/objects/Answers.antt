use Rattle.hla_components.proofs.Computed.Objects.{ancestor, asynchronous_delivery, two_orders_and_a_tie, orders_that_change, refusals, late_subscriber, create_and_destroy}
use Rattle.hla_components.proofs.examples.objects.Goals as goal

pub returns : goal.returns
returns c = record { ancestor = ancestor; asynchronous_delivery = asynchronous_delivery; two_orders_and_a_tie = two_orders_and_a_tie; orders_that_change = orders_that_change; refusals = refusals; late_subscriber = late_subscriber; create_and_destroy = create_and_destroy }
