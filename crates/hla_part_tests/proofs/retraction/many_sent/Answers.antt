-- The next serial is above the one that was noted.
use Rattle.std.proofs.Common.{◌+◌, ◌*◌, arith}
use Rattle.hla_retraction.specs.SentRows.{sent_of}
use Rattle.hla_retraction.proofs.FreeLemmas.{free_from-upd}
use Rattle.hla_part_tests.proofs.retraction.many_sent.Goals as goal

pub loop-i-preserved : goal.loop-i-preserved
loop-i-preserved g c = free_from-upd (sent_of c.loop-i.sent) (sent_of c.note.new.self) (2 * c.loop-i.i + 1) (2 * (c.loop-i.i + 1) + 1) _ (rw c.expect.ensures at c.note.ensures.ok) c.loop-i.invariant (omega arith)
