-- The messages that were visited are in the index, and no others.
use Rattle.std.proofs.Common.{◌+◌, take}
use Rattle.hla_bags.specs.Indexes.{delivery_at, IsIndexOf}
use Rattle.hla_bags.proofs.index.Index.extend.Given as goal

abbrev pub invariant-loop-message : goal.invariant-loop-message
invariant-loop-message l = IsIndexOf l.self (delivery_at (take (l.from + l.message-index) l.waiting))
