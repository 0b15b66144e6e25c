use Rattle.hla_files.proofs.CheckLemmas.{found_of, unjudged}
use Rattle.hla_files.proofs.checking.judge_script.Goals as goal

-- a script's records are a run, so none differs
pub returns-in-Some-clause-ok : goal.returns-in-Some-clause-ok
returns-in-Some-clause-ok g c =
    found_of c.args.fed.now c.args.script.now c.as_slice.result.now c.in-Some.finding (rw c.as_slice.ensures c.in-Ok.ensures.ok) (rw c.as_slice.ensures c.in-Ok.ensures.run) c.in-Some.ensures

pub returns-clause-err : goal.returns-clause-err
returns-clause-err g c = unjudged c.args.fed.now c.args.script.now _ c.in-Ok.ensures.ok
