use Rattle.std.proofs.Common.{sym, ◌∙◌}
use Rattle.hla_transcript.specs.Watching.{stream_of}
use Rattle.hla_program.specs.Program.{Ran, RunStopped}
use Rattle.hla_files.proofs.EndLemmas.{or-false}
use Rattle.hla_program.proofs.RunLemmas.{run_cause, run_stop_nonzero}
use Rattle.hla_program.proofs.threads.run_bytes.Goals as goal

pub returns-in-Err-clause-ends : goal.returns-in-Err-clause-ends
returns-in-Err-clause-ends g c = RunStopped c.in-Err.fault c.in-Err.ensures.stopped c.in-Err.ensures.watched (run_cause c.in-Err.fault _ _ c.in-Err.ensures.failure) c.tell_run_stop.ensures.line c.tell_run_stop.ensures.status

pub returns-clause-ends : goal.returns-clause-ends
returns-clause-ends g c = Ran (stream_of g.W.Write.contents c.run_recorded-ran.new.out) c.in-Ok.ensures.written (c.in-Ok.ensures.failure ∙ or-false _) c.in-Ok.ran.closed c.judge.ensures.run c.in-Ok.ensures.recorded c.in-Ok.ran.seen c.in-Ok.ensures.seen c.judge.ensures.ends

pub returns-in-Err-clause-handed_on : goal.returns-in-Err-clause-handed_on
returns-in-Err-clause-handed_on g c = λ done. absurd (run_stop_nonzero c.in-Err.fault (sym c.tell_run_stop.ensures.status ∙ done))
