use Rattle.std.proofs.Common.{refl}
use Rattle.hla_files.specs.Program.{CheckStopped}
use Rattle.hla_files.proofs.CheckLemmas.{checked}
use Rattle.hla_files.proofs.checking.check_bytes.Goals as goal

pub returns-in-Ok-clause-ends : goal.returns-in-Ok-clause-ends
returns-in-Ok-clause-ends g c = checked c.args.fed.now c.args.script.now c.in-Ok.finding _ _ _ _ _ c.in-Ok.ensures.ok c.tell_finding.ensures.ends

pub returns-in-Err-clause-ends : goal.returns-in-Err-clause-ends
returns-in-Err-clause-ends g c = CheckStopped c.in-Err.fault c.in-Err.ensures.err refl c.tell_play_stop.ensures.line c.tell_play_stop.ensures.status
