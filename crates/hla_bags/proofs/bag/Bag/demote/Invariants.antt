-- The messages that were visited are demoted.
use Rattle.std.proofs.Common.{◌≡◌, take}
use Rattle.hla_bags.specs.Bags.{waiting_at, with_listed_demoted, AreApart}
use Rattle.hla_bags.proofs.bag.Bag.demote.Given as goal

abbrev pub invariant-loop-event : goal.invariant-loop-event
invariant-loop-event l = (waiting_at l.self ≡ with_listed_demoted (take l.event-index l.events) (waiting_at l.initial.self)) × AreApart l.self
