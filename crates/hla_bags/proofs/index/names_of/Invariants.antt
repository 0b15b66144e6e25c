-- The names of the events that were visited are in the set, and no others.
use Rattle.std.proofs.Common.{take}
use Rattle.hla_bags.specs.Indexes.{HasNamesOf}
use Rattle.hla_bags.proofs.index.names_of.Given as goal

abbrev pub invariant-loop-event : goal.invariant-loop-event
invariant-loop-event l = HasNamesOf l.names (take l.event-index l.events)
