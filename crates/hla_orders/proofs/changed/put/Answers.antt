use Rattle.hla_orders.proofs.OrderLemmas.{order-set}
use Rattle.hla_orders.proofs.changed.put.Goals as goal

pub returns-clause-given : goal.returns-clause-given
returns-clause-given c = order-set _ _ _ c.requires.some c.requires.within
