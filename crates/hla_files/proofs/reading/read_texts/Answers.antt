use Rattle.std.proofs.Common.{sym, ◌∙◌}
use Rattle.hla_transcript.specs.Watching.{stream_of}
use Rattle.hla_files.proofs.TaskLemmas.{taken_of, stopped_of, shared_unread, fed_unread, script_unread}
use Rattle.hla_files.proofs.reading.read_texts.Goals as goal
use Rattle.hla_files.proofs.reading.read_texts.Goals.{in-Ok, in-Err}

pub returns-then-share_input-clause-unread : goal.returns-then-share_input-clause-unread
returns-then-share_input-clause-unread g c = elim c.match-load.branch [
  | in-Ok w ↦ rw w.result-is tt
  | in-Err w ↦ rw w.result-is (shared_unread (g.O.Opener.bytes_of c.args.opener.now) c.args.fed_name.now c.args.script_name.now w.in-Err.fault (sym c.share_input.ensures ∙ c.if-share_input.true)
      (stopped_of _ (stream_of g.O.Input.Read.remaining c.load.new.reader) _ _ c.open-input.ensures.bytes c.open-input.ensures.sound w.in-Err.ensures.stopped))
]

pub returns-in-Err-load-clause-unread : goal.returns-in-Err-load-clause-unread
returns-in-Err-load-clause-unread g c = fed_unread (g.O.Opener.bytes_of c.args.opener.now) c.args.fed_name.now c.args.script_name.now c.in-Err-load.fault (sym c.share_input.ensures ∙ c.if-share_input.false)
    (stopped_of _ (stream_of g.O.Input.Read.remaining c.load-2.new.reader) _ _ c.open-fed.ensures.bytes c.open-fed.ensures.sound c.in-Err-load.ensures.stopped)

pub returns-clause-unread : goal.returns-clause-unread
returns-clause-unread g c = script_unread (g.O.Opener.bytes_of c.args.opener.now) c.args.fed_name.now c.args.script_name.now c.in-Err-load-2.fault (sym c.share_input.ensures ∙ c.if-share_input.false)
    (c.in-Ok-load.fed.items, taken_of _ _ _ _ _ c.open-fed.ensures.bytes c.open-fed.ensures.sound c.in-Ok-load.ensures.taken)
    (stopped_of _ (stream_of g.O.Input.Read.remaining c.load-3.new.reader) _ _ c.open-script.ensures.bytes c.open-script.ensures.sound c.in-Err-load-2.ensures.stopped)
