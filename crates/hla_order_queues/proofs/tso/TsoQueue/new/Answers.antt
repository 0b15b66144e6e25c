-- No events, and no names.
use Rattle.hla_order_queues.proofs.ByName.StampLemmas.{no_names}
use Rattle.hla_order_queues.proofs.tso.TsoQueue.new.Goals as goal

pub invariant_of-result : goal.invariant_of-result
invariant_of-result c = no_names c.new-2.result c.new.result c.new-2.ensures c.new.ensures
