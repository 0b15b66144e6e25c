use Rattle.hla_components.proofs.Services.Locals.{each_message}
use Rattle.hla_components.proofs.locals.each_message_may_come.Goals as goal

pub returns : goal.returns
returns c = each_message
