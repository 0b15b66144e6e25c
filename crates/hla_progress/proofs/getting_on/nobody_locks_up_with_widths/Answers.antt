use Rattle.hla_progress.proofs.GettingOn.Nobody.{nobody_locks_up_with_widths}
use Rattle.hla_progress.proofs.getting_on.nobody_locks_up_with_widths.Goals as goal

pub returns : goal.returns
returns c = nobody_locks_up_with_widths
