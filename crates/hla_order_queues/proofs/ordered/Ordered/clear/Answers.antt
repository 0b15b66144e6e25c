-- Nothing is kept.
use Rattle.hla_order_queues.proofs.UnderSeparators.KeptLemmas.{kept_nothing}
use Rattle.hla_order_queues.proofs.ordered.Ordered.clear.Goals as goal

pub invariant_of-self : goal.invariant_of-self
invariant_of-self c = (kept_nothing c.clear.new.self c.clear-2.new.self c.clear.ensures c.clear-2.ensures).0

pub returns : goal.returns
returns c = (kept_nothing c.clear.new.self c.clear-2.new.self c.clear.ensures c.clear-2.ensures).1
