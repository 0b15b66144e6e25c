use Rattle.hla_components.proofs.Refinement.Runs.{each_counts}
use Rattle.hla_components.proofs.headline.each_epoch_counts.Goals as goal

pub returns : goal.returns
returns c = λ catalogue steps. each_counts catalogue steps
