use Rattle.std.proofs.Common.{refl, sym, ◌∙◌}
use Rattle.hla_files.specs.Program.{Listed, ListStopped}
use Rattle.hla_files.proofs.EndLemmas.{flushed, listed_kept, listed_unheld, list_cause}
use Rattle.hla_transcript.specs.declared.listing.ListFault.TheVariants as stop
use Rattle.hla_files.proofs.naming.list_bytes.Goals as goal

pub returns-in-Err-clause-ends : goal.returns-in-Err-clause-ends
returns-in-Err-clause-ends g c = ListStopped c.in-Err.fault c.in-Err.ensures.stopped (list_cause c.in-Err.fault _ _ c.in-Err.ensures.failure) c.tell_list_stop.ensures.line c.tell_list_stop.ensures.status

pub returns-then-has_failed-clause-ends : goal.returns-then-has_failed-clause-ends
returns-then-has_failed-clause-ends g c = ListStopped stop.Write (listed_unheld c.args.fed.now _ _ _ c.in-Ok.ensures.listed c.flush.ensures.bytes) (sym c.has_failed.ensures ∙ c.if-has_failed.true) c.tell_list_stop-then-has_failed.ensures.line c.tell_list_stop-then-has_failed.ensures.status

pub returns-clause-ends : goal.returns-clause-ends
returns-clause-ends g c = Listed (listed_kept c.args.fed.now _ _ _ c.in-Ok.ensures.listed c.flush.ensures.bytes) (sym c.has_failed.ensures ∙ c.if-has_failed.false) refl refl

pub returns-clause-handed_on : goal.returns-clause-handed_on
returns-clause-handed_on g c = λ _. flushed _ _ _ _ c.flush.ensures.failure (sym c.has_failed.ensures ∙ c.if-has_failed.false) c.flush.ensures.handed_on
