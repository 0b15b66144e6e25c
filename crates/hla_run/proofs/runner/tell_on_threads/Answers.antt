use Rattle.std.proofs.Common.{◌∙◌}
use Rattle.hla_history.specs.Creating.{catalogue_from}
use Rattle.hla_run.proofs.WholeLemmas.{told_run}
use Rattle.hla_run.proofs.runner.tell_on_threads.Goals as goal

pub returns-clause-recorded : goal.returns-clause-recorded
returns-clause-recorded g c =
    told_run c.close_seen.result (catalogue_from c.args.fed.now) c.args.catalogue.now c.args.lines.now c.run_lines-ran.new.outcomes c.in-Ok-ran.lefts.items c.run_lines-ran.new.rti _ _ (c.in-Ok-ran.ensures.each ∙ c.in-Ok.ensures.length) c.in-Ok-ran.ensures.done c.in-Ok-ran.ensures.recorded
    c.close_seen.ensures.told c.close_seen.ensures.agree c.close_seen.ensures.theirs c.close_seen.ensures.own c.close_seen.ensures.here
