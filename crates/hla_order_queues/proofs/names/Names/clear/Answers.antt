-- There are no lists and no others.
use Rattle.hla_order_queues.proofs.ByName.NamesLemmas.{nothing_there}
use Rattle.hla_order_queues.proofs.names.Names.clear.Goals as goal

pub returns : goal.returns
returns c = λ n. nothing_there c.clear.new.self.items c.clear-2.new.self.entries n c.clear.ensures.items c.clear-2.ensures.empty
