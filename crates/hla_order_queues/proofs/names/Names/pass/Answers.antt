-- What is noted goes, and what the others have.
use Rattle.hla_order_queues.specs.Kept.{name_of_key}
use Rattle.hla_order_queues.proofs.ByName.NamesLemmas.{least_at, taken}
use Rattle.hla_order_queues.proofs.names.Names.pass.Goals as goal

pub pass_noted-requires : goal.pass_noted-requires
pass_noted-requires c = least_at c.self.inside.rising.items c.self.inside.others.entries c.args.self.now c.args.key c.self.view_is c.requires.least c.requires.there

pub returns : goal.returns
returns c =
    taken c.self.inside.rising.items c.pass_noted.new.rising.items c.self.inside.others.entries c.take_other.new.others.entries c.args.self.now (name_of_key c.args.key) c.self.view_is c.pass_noted.ensures (rw c.name.ensures at c.take_other.ensures.rest)
