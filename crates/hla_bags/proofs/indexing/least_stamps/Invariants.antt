-- No stamp of the messages so far is below the bounds.
use Rattle.std.proofs.Common.{take}
use Rattle.hla_bags.specs.Bags.{AreNotBelow}
use Rattle.hla_bags.proofs.indexing.least_stamps.Given as goal

abbrev pub invariant-loop-message : goal.invariant-loop-message
invariant-loop-message l = AreNotBelow l.ordered l.demoted (take l.message-index l.waiting)
