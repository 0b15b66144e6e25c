-- The stamps stay the same.
use Rattle.std.proofs.Common.{length}
use Rattle.hla_order_queues.specs.Names.{without_passed, Keeps}
use Rattle.hla_order_queues.proofs.rising.drop_first.Given as goal

abbrev pub invariant-loop-passed : goal.invariant-loop-passed
invariant-loop-passed l = Keeps (without_passed l.passed l.initial.notes.items) (without_passed l.passed l.notes.items)

abbrev pub decreases-loop-passed : goal.decreases-loop-passed
decreases-loop-passed l = length l.notes.items
