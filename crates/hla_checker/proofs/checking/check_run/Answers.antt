use Rattle.std.proofs.Common.{◌<◌, length, arith}
use Rattle.hla_checker.proofs.Executions.Runs.{run_more}
use Rattle.hla_checker.proofs.checking.check_run.Goals as goal

pub loop-place-preserved : goal.loop-place-preserved
loop-place-preserved c =
    let within : c.loop-place.place < length c.args.records.now = omega (arith, c.loop-place-test.true, c.loop-place.auto.place-end) in
    run_more c.args.records.now c.loop-place.place c.loop-place.table c.judge.new.self c.index-records-place.result c.loop-place.invariant.0 within c.index-records-place.is
    (rw c.in-Ok-Allowed.field-0-is at c.in-Ok-Allowed.ensures.ok)
