-- A block goes if it is empty, and else none is.
use Rattle.std.proofs.Common.{arith}
use Rattle.hla_order_queues.proofs.UnderSeparators.PutLemmas.{IsDropped, dropped, still_filled}
use Rattle.hla_order_queues.proofs.blocks.drop_empty.Goals as goal
use Rattle.hla_order_queues.proofs.blocks.drop_empty.Goals.{After-remove}

gone : (c : After-remove) → IsDropped c.args.separators.now c.remove.new.self
gone c = dropped c.args.separator c.args.separators.now c.remove.new.self c.len_at.result c.requires.at c.requires.separatored c.requires.filled c.len_at.ensures c.if-len_at-eq0.true c.remove.ensures.rest

pub returns-then-len_at-eq0-clause-events : goal.returns-then-len_at-eq0-clause-events
returns-then-len_at-eq0-clause-events c = (gone (goal.at.returns-then-len_at-eq0-clause-events c).After-remove).events

pub returns-then-len_at-eq0-clause-separatored : goal.returns-then-len_at-eq0-clause-separatored
returns-then-len_at-eq0-clause-separatored c = (gone (goal.at.returns-then-len_at-eq0-clause-separatored c).After-remove).separatored

pub returns-then-len_at-eq0-clause-filled : goal.returns-then-len_at-eq0-clause-filled
returns-then-len_at-eq0-clause-filled c = (gone (goal.at.returns-then-len_at-eq0-clause-filled c).After-remove).filled

pub returns-then-len_at-eq0-clause-below : goal.returns-then-len_at-eq0-clause-below
returns-then-len_at-eq0-clause-below c = (gone (goal.at.returns-then-len_at-eq0-clause-below c).After-remove).below

pub returns-else-len_at-eq0-clause-filled : goal.returns-else-len_at-eq0-clause-filled
returns-else-len_at-eq0-clause-filled c = still_filled c.args.separator c.args.separators.now c.len_at.result c.requires.at c.requires.filled c.len_at.ensures (omega arith)
