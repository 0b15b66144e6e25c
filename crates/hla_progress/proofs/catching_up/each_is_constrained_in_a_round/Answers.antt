use Rattle.hla_progress.proofs.CatchUp.Constraining.{is_constrained_soon}
use Rattle.hla_progress.proofs.catching_up.each_is_constrained_in_a_round.Goals as goal

pub returns : goal.returns
returns c = is_constrained_soon
