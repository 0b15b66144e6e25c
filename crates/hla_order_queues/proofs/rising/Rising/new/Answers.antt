-- There are no notes.
use Rattle.std.proofs.Common.{None}
use Rattle.hla_order_queues.proofs.ByName.PassedLemmas.{none_unpassed}
use Rattle.hla_order_queues.proofs.ByName.RisingLemmas.{none_rise}
use Rattle.hla_order_queues.proofs.rising.Rising.new.Goals as goal

pub invariant_of-result : goal.invariant_of-result
invariant_of-result c = rw c.new.ensures.items none_rise

pub returns : goal.returns
returns c = none_unpassed None c.new.result.items c.new.ensures.items
