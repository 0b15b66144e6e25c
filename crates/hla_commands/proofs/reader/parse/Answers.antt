use Rattle.hla_commands.proofs.LineLemmas.{fails_as}
use Rattle.hla_commands.proofs.reader.parse.Goals as goal

pub returns-in-Err : goal.returns-in-Err
returns-in-Err c = fails_as c.loop-line.found c.loop-line.number _ _ c.in-Err.kind _ c.in-Err.ensures (rw c.in-Some.ensures.steps at c.loop-line.invariant.read)
