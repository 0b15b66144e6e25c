-- The table has nothing from the next serial on.
use Rattle.std.proofs.Common.{◌+◌, ◌*◌}
use Rattle.hla_retraction.specs.SentRows.{sent_of}
use Rattle.hla_retraction.proofs.FreeLemmas.{IsFreeFrom}
use Rattle.hla_part_tests.proofs.retraction.many_sent.Given as goal

abbrev pub invariant-loop-i : goal.invariant-loop-i
invariant-loop-i g l = IsFreeFrom (2 * l.i + 1) (sent_of l.sent)
