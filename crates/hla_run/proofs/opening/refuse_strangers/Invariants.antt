use Rattle.std.proofs.Common.{◌≡◌, length}
use Rattle.hla_run.specs.Recorded.{KeepsOpenings, KeepsRecorded, is_stranger}
use Rattle.hla_run.proofs.opening.refuse_strangers.Given as goal

abbrev pub invariant-loop-place : goal.invariant-loop-place
invariant-loop-place g l = record {
  each : length l.outcomes ≡ length l.fn.outcomes;
  recorded : KeepsRecorded l.lines (is_stranger l.lives) l.fn.outcomes l.outcomes;
  openings : KeepsOpenings l.lines l.fn.outcomes l.outcomes;
}
