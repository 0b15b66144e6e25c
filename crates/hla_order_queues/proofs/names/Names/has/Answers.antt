-- The name is among what is noted, or among the others.
use Rattle.hla_order_queues.proofs.ByName.NamesLemmas.{has_noted, has_other}
use Rattle.hla_order_queues.proofs.names.Names.has.Goals as goal

pub returns-then-is_some : goal.returns-then-is_some
returns-then-is_some c =
    has_noted c.self.inside.rising.items c.self.inside.others.entries c.args.self.now c.args.name c.is_some.result c.noted.result c.self.view_is (rw c.deref.ensures.value at c.noted.ensures) c.is_some.ensures c.if-is_some.true

pub returns-else-is_some : goal.returns-else-is_some
returns-else-is_some c =
    has_other c.self.inside.rising.items c.self.inside.others.entries c.args.self.now c.args.name c.is_some.result c.contains_key.result c.noted.result c.self.view_is (rw c.deref.ensures.value at c.noted.ensures) c.is_some.ensures c.if-is_some.false c.contains_key.ensures
