-- A long block is there, and is split.
use Rattle.std.proofs.Common.{arith}
use Rattle.hla_order_queues.proofs.UnderSeparators.PutLemmas.{many_there}
use Rattle.hla_order_queues.proofs.blocks.roomy_separator.Goals as goal

pub split_at-requires-clause-many : goal.split_at-requires-clause-many
split_at-requires-clause-many c = many_there _ c.len_at.result c.len_at.ensures (omega arith)
