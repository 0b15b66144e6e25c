use Rattle.hla_in_order.proofs.LeadLemmas.{ended_done}
use Rattle.hla_in_order.proofs.StopLemmas.{ended_stopped}
use Rattle.hla_in_order.proofs.in_order.tell_in_order.Goals as goal

pub returns-in-Ok-played-clause-told : goal.returns-in-Ok-played-clause-told
returns-in-Ok-played-clause-told g c =
    ended_done c.args.catalogue.now c.args.fed.now c.args.lines.now c.play_lines-played.new.outcomes c.play_lines-played.new.rti c.in-Ok-played.lefts.items _ _ c.close_seen.result c.in-Ok-played.ensures c.close_seen.ensures.told c.close_seen.ensures.agree c.close_seen.ensures.theirs

pub returns-in-Ok-played-clause-stopped : goal.returns-in-Ok-played-clause-stopped
returns-in-Ok-played-clause-stopped g c =
    ended_stopped c.args.catalogue.now c.args.fed.now c.args.lines.now c.play_lines-played.new.outcomes c.play_lines-played.new.rti c.in-Ok-played.lefts.items _ _ c.close_seen.result c.in-Ok-played.ensures c.close_seen.ensures.stopped
