-- The second serial is above the first.
use Rattle.std.proofs.Common.{ap, arith}
use Rattle.hla_retraction.specs.SentRows.{sent_of}
use Rattle.hla_retraction.proofs.FreeLemmas.{free_from-upd}
use Rattle.hla_part_tests.proofs.retraction.two_sent.Goals as goal

pub note-requires-2 : goal.note-requires-2
note-requires-2 g c = free_from-upd (sent_of c.new-sent.result) (sent_of c.note.new.self) 3 5 _ (rw c.expect.ensures at c.note.ensures.ok) (λ m high. ap (λ t. t m) c.new-sent.ensures) (omega arith)
