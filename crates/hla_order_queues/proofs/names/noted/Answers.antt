-- Past the end nothing is noted.
use Rattle.hla_order_queues.proofs.ByName.NamesLemmas.{noted_past}
use Rattle.hla_order_queues.proofs.names.noted.Goals as goal

pub returns-in-None : goal.returns-in-None
returns-in-None c = noted_past c.args.rising.now c.args.name c.in-None.ensures.lookup.3
