use Rattle.hla_progress.proofs.Telling.Closing.{point_closes}
use Rattle.hla_progress.proofs.synchronizing.each_point_closes.Goals as goal

pub returns : goal.returns
returns c = point_closes
