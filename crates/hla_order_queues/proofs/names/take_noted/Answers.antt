-- Past the end nothing is noted.
use Rattle.hla_order_queues.proofs.ByName.NamesLemmas.{noted_past, untouched}
use Rattle.hla_order_queues.proofs.names.take_noted.Goals as goal

pub returns-in-None-clause-found : goal.returns-in-None-clause-found
returns-in-None-clause-found c = noted_past c.args.rising.now.items c.args.name c.in-None.ensures.item.3

pub returns-in-None-clause-rest : goal.returns-in-None-clause-rest
returns-in-None-clause-rest c =
    λ n. untouched c.args.rising.now.items c.args.name n (noted_past c.args.rising.now.items c.args.name c.in-None.ensures.item.3)
