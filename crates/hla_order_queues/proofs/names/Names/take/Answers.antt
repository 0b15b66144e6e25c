-- The stamp is taken out of what is noted, or of the others.
use Rattle.std.proofs.Common.{◌∙◌}
use Rattle.hla_order_queues.proofs.ByName.NamesLemmas.{taken, found_either}
use Rattle.hla_order_queues.proofs.names.Names.take.Goals as goal

pub returns-clause-found : goal.returns-clause-found
returns-clause-found c =
    c.or.ensures ∙ found_either c.self.inside.rising.items c.self.inside.others.entries c.args.self.now c.args.name c.take_noted-stamp.result c.take_other-other.result c.self.view_is c.take_noted-stamp.ensures.found c.take_other-other.ensures.found

pub returns-clause-rest : goal.returns-clause-rest
returns-clause-rest c =
    taken c.self.inside.rising.items c.take_noted-stamp.new.rising.items c.self.inside.others.entries c.take_other-other.new.others.entries c.args.self.now c.args.name c.self.view_is c.take_noted-stamp.ensures.rest c.take_other-other.ensures.rest
