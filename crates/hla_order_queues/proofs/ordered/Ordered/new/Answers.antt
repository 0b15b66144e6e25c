-- Nothing is kept.
use Rattle.hla_order_queues.proofs.UnderSeparators.KeptLemmas.{kept_nothing}
use Rattle.hla_order_queues.proofs.ordered.Ordered.new.Goals as goal

pub invariant_of-result : goal.invariant_of-result
invariant_of-result c = (kept_nothing c.new.result c.new-2.result c.new.ensures c.new-2.ensures).0

pub returns : goal.returns
returns c = (kept_nothing c.new.result c.new-2.result c.new.ensures c.new-2.ensures).1
