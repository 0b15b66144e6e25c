use Rattle.std.proofs.Common.{◌≡◌, length}
use Rattle.hla_run.specs.Recorded.{GathersCallers, GathersCalls, GathersInTurn, GathersRecorded}
use Rattle.hla_run.proofs.runner.gather_all.Given as goal

-- of the lives so far
abbrev pub invariant-loop-life : goal.invariant-loop-life
invariant-loop-life g l = record {
  each : length l.outcomes ≡ length l.fn.outcomes;
  recorded : GathersRecorded l.yielded l.lefts.items l.fn.outcomes l.outcomes;
  calls : GathersCalls l.yielded l.fn.outcomes l.outcomes;
  turns : GathersInTurn l.yielded l.lefts.items l.outcomes;
  callers : GathersCallers l.yielded l.lefts.items;
}
