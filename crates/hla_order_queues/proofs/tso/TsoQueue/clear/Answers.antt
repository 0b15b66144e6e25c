-- No events, and no names.
use Rattle.hla_order_queues.proofs.ByName.StampLemmas.{no_names}
use Rattle.hla_order_queues.proofs.tso.TsoQueue.clear.Goals as goal

pub invariant_of-self : goal.invariant_of-self
invariant_of-self c = no_names c.clear-2.new.self c.clear.new.self c.clear-2.ensures c.clear.ensures
