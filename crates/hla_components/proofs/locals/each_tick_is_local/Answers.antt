use Rattle.hla_components.proofs.Services.Locals.{each_tick}
use Rattle.hla_components.proofs.locals.each_tick_is_local.Goals as goal

pub returns : goal.returns
returns c = each_tick
