-- There are no lists and no others.
use Rattle.hla_order_queues.proofs.ByName.NamesLemmas.{nothing_there}
use Rattle.hla_order_queues.proofs.names.Names.new.Goals as goal

pub returns : goal.returns
returns c = λ n. nothing_there c.new.result.items c.new-2.result.entries n c.new.ensures.items c.new-2.ensures.empty
