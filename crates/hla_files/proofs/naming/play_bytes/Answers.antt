use Rattle.std.proofs.Common.{refl, sym, ◌∙◌}
use Rattle.hla_files.specs.Program.{Played, PlayStopped}
use Rattle.hla_files.proofs.EndLemmas.{flushed, played_kept, played_unheld, play_cause}
use Rattle.hla_stage.specs.declared.player.PlayFault.TheVariants as stop
use Rattle.hla_files.proofs.naming.play_bytes.Goals as goal

pub returns-in-Err-clause-ends : goal.returns-in-Err-clause-ends
returns-in-Err-clause-ends g c = PlayStopped c.in-Err.fault c.in-Err.ensures.stopped (play_cause c.in-Err.fault _ _ c.in-Err.ensures.failure) c.tell_play_stop.ensures.line c.tell_play_stop.ensures.status

pub returns-then-has_failed-clause-ends : goal.returns-then-has_failed-clause-ends
returns-then-has_failed-clause-ends g c = PlayStopped stop.Write (played_unheld c.args.fed.now c.args.script.now _ _ _ c.in-Ok.records c.in-Ok.ensures.played c.in-Ok.ensures.next c.flush.ensures.bytes) (sym c.has_failed.ensures ∙ c.if-has_failed.true) c.tell_play_stop-then-has_failed.ensures.line c.tell_play_stop-then-has_failed.ensures.status

pub returns-clause-ends : goal.returns-clause-ends
returns-clause-ends g c = Played c.in-Ok.records (played_kept c.args.fed.now c.args.script.now _ _ _ c.in-Ok.records c.in-Ok.ensures.played c.flush.ensures.bytes) c.in-Ok.ensures.next c.in-Ok.ensures.run (sym c.has_failed.ensures ∙ c.if-has_failed.false) refl refl

pub returns-clause-handed_on : goal.returns-clause-handed_on
returns-clause-handed_on g c = λ _. flushed _ _ _ _ c.flush.ensures.failure (sym c.has_failed.ensures ∙ c.if-has_failed.false) c.flush.ensures.handed_on
