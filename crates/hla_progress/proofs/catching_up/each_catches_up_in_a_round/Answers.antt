use Rattle.hla_progress.proofs.CatchUp.FirstRound.{catches_up}
use Rattle.hla_progress.proofs.catching_up.each_catches_up_in_a_round.Goals as goal

pub returns : goal.returns
returns c = catches_up
