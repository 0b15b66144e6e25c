use Rattle.hla_components.proofs.Services.Locals.{each_arrival}
use Rattle.hla_components.proofs.locals.each_arrival_is_local.Goals as goal

pub returns : goal.returns
returns c = each_arrival
