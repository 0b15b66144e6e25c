-- There are no blocks.
use Rattle.hla_order_queues.proofs.UnderSeparators.JoinedLemmas.{no_blocks}
use Rattle.hla_order_queues.proofs.blocks.Blocks.new.Goals as goal

pub invariant_of-result : goal.invariant_of-result
invariant_of-result c = no_blocks c.new.result c.new.ensures
