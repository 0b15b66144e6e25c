-- What is kept is in order, and one more.
use Rattle.std.proofs.Common.{sym, subst, arith}
use Rattle.hla_order_queues.specs.Kept.{events_of, IsUnique}
use Rattle.hla_order_queues.proofs.UnderSeparators.KeptLemmas.{kept_inserted}
use Rattle.hla_order_queues.proofs.ordered.Ordered.insert.Goals as goal

pub put-requires-clause-unique : goal.put-requires-clause-unique
put-requires-clause-unique c = subst IsUnique (sym c.self.view_is) c.requires

pub invariant_of-self : goal.invariant_of-self
invariant_of-self c =
    (kept_inserted c.args.event c.self.inside.first (events_of c.self.inside.later) c.put.new.first (events_of c.put.new.later) c.self.inside.count c.in-Some.count c.self.invariant.0 c.in-Ok.ensures.ok (c.in-Ok.ensures.filled c.self.invariant.0.filled) (omega (arith, c.in-Some.ensures)) (omega (arith, c.in-Some.ensures)), c.put.ensures.below)
