use Rattle.std.proofs.Common.{true}
use Rattle.hla_stage.proofs.PlayLemmas.{played_whole}
use Rattle.hla_stage.proofs.BreakLemmas.{begun_by}
use Rattle.hla_stage.proofs.player.play_whole_over.Goals as goal

pub returns-clause-played : goal.returns-clause-played
returns-clause-played g c = played_whole _ _ _ _ c.play_from.result c.play_from.ensures.played

pub returns-clause-begun : goal.returns-clause-begun
returns-clause-begun g c = begun_by true c.args.fed.now c.args.script.now _ _ c.play_from.result c.play_from.ensures.stopped
