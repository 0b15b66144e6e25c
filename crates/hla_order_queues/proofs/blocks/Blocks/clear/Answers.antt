-- There are no blocks.
use Rattle.hla_order_queues.proofs.UnderSeparators.JoinedLemmas.{no_blocks}
use Rattle.hla_order_queues.proofs.blocks.Blocks.clear.Goals as goal

pub invariant_of-self : goal.invariant_of-self
invariant_of-self c = no_blocks c.clear.new.self c.clear.ensures
