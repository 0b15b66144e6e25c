use Rattle.hla_progress.proofs.Keeping.Steps.{led_keeps}
use Rattle.hla_progress.proofs.promises.each_list_keeps_promises.Goals as goal

pub returns : goal.returns
returns c = led_keeps
