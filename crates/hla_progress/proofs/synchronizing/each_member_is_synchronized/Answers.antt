use Rattle.hla_progress.proofs.Telling.Closing.{member_synchronized}
use Rattle.hla_progress.proofs.synchronizing.each_member_is_synchronized.Goals as goal

pub returns : goal.returns
returns c = member_synchronized
