use Rattle.hla_progress.proofs.Keeping.Steps.{wire_ends}
use Rattle.hla_progress.proofs.promises.each_wire_ends_at_the_last.Goals as goal

pub returns : goal.returns
returns c = wire_ends
