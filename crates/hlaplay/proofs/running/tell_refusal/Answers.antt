use Rattle.std.proofs.Common.{refl}
use Rattle.hlaplay.specs.Run.{RefusalTold, RefusalUntold}
use Rattle.hlaplay.proofs.running.tell_refusal.Goals as goal

pub returns-in-Ok-clause-ends : goal.returns-in-Ok-clause-ends
returns-in-Ok-clause-ends g c = RefusalTold c.as_str.result.now c.tell.ensures refl

pub returns-clause-ends : goal.returns-clause-ends
returns-clause-ends g c = RefusalUntold c.tell_out_of_memory.ensures.line c.tell_out_of_memory.ensures.status
