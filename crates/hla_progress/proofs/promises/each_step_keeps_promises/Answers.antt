use Rattle.hla_progress.proofs.Keeping.Steps.{step_keeps}
use Rattle.hla_progress.proofs.promises.each_step_keeps_promises.Goals as goal

pub returns : goal.returns
returns c = step_keeps
