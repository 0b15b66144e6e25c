-- The map tells the names apart as their parts do.
use Rattle.hla_order_queues.proofs.ByName.NamesLemmas.{updated}
use Rattle.hla_order_queues.proofs.names.take_other.Goals as goal

pub returns-clause-rest : goal.returns-clause-rest
returns-clause-rest c = updated c.args.others.now.entries c.remove.new.self.entries c.args.name _ c.remove.ensures.updates.0
