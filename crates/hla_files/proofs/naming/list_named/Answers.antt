use Rattle.std.proofs.Common.{refl}
use Rattle.hla_files.specs.Program.{FileRead, FileUnread}
use Rattle.hla_transcript.specs.Watching.{stream_of}
use Rattle.hla_files.proofs.TaskLemmas.{taken_of, stopped_of}
use Rattle.hla_files.proofs.naming.list_named.Goals as goal

pub returns-in-Ok-clause-ends : goal.returns-in-Ok-clause-ends
returns-in-Ok-clause-ends g c = FileRead c.as_slice.result.now (rw c.as_slice.ensures.value (taken_of _ _ _ _ _ c.open-file.ensures.bytes c.open-file.ensures.sound c.in-Ok.ensures.taken)) c.list_bytes.ensures.ends

pub returns-clause-ends : goal.returns-clause-ends
returns-clause-ends g c = FileUnread c.in-Err.fault (stopped_of _ (stream_of g.O.Input.Read.remaining c.load.new.reader) _ _ c.open-file.ensures.bytes c.open-file.ensures.sound c.in-Err.ensures.stopped) refl c.tell_load_stop.ensures.line c.tell_load_stop.ensures.status
