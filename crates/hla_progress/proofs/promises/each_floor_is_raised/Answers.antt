use Rattle.hla_progress.proofs.Keeping.Steps.{floor_raised}
use Rattle.hla_progress.proofs.promises.each_floor_is_raised.Goals as goal

pub returns : goal.returns
returns c = floor_raised
