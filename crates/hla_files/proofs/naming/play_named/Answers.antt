use Rattle.std.proofs.Common.{refl}
use Rattle.hla_files.specs.Program.{TextsRead, TextUnread}
use Rattle.hla_files.proofs.naming.play_named.Goals as goal

pub returns-in-Ok-clause-ends : goal.returns-in-Ok-clause-ends
returns-in-Ok-clause-ends g c = TextsRead c.both.result.0.now c.both.result.1.now (rw (c.both.ensures.fed, c.both.ensures.script) c.in-Ok.ensures.read) c.play_bytes.ensures.ends

pub returns-in-Err-clause-ends : goal.returns-in-Err-clause-ends
returns-in-Err-clause-ends g c = TextUnread c.in-Err.unread.name.now c.in-Err.unread.fault c.in-Err.ensures.unread refl c.tell_load_stop.ensures.line c.tell_load_stop.ensures.status
