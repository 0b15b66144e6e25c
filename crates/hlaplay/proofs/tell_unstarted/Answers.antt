use Rattle.std.proofs.Common.{refl}
use Rattle.hlaplay.specs.Run.{RefusalTold, RefusalUntold}
use Rattle.hlaplay.proofs.tell_unstarted.Goals as goal

pub returns-in-InvalidData : goal.returns-in-InvalidData
returns-in-InvalidData g c = RefusalTold _ c.tell.ensures refl

pub returns-in_default : goal.returns-in_default
returns-in_default g c = RefusalUntold c.tell_out_of_memory.ensures.line c.tell_out_of_memory.ensures.status
