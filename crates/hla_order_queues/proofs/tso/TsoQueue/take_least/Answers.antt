-- The first event goes, before which none comes, with its name.
use Rattle.std.proofs.Common.{refl}
use Rattle.hla_order_queues.specs.Kept.{name_of_key}
use Rattle.hla_order_queues.proofs.ByName.StampLemmas.{least_named, first_named, named_removed, first_gone}
use Rattle.hla_order_queues.proofs.tso.TsoQueue.take_least.Goals as goal

pub pass-requires-clause-least : goal.pass-requires-clause-least
pass-requires-clause-least c =
    least_named c.self.inside.names c.self.inside.events c.in-Some.event c.of.result c.self.invariant c.take_first.ensures.ordered c.in-Some.ensures.first c.of.ensures

pub pass-requires-clause-there : goal.pass-requires-clause-there
pass-requires-clause-there c =
    first_named c.self.inside.names c.self.inside.events c.in-Some.event c.of.result c.self.invariant c.in-Some.ensures.first c.of.ensures

pub invariant_of-self : goal.invariant_of-self
invariant_of-self c =
    named_removed c.self.inside.names c.pass.new.self (name_of_key c.of.result) c.self.inside.events c.take_first.new.self c.self.invariant c.pass.ensures
    (first_gone c.in-Some.event c.of.result (name_of_key c.of.result) c.self.inside.events c.take_first.new.self c.in-Some.ensures.first c.of.ensures refl c.take_first.ensures.rest)
