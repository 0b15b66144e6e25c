use Rattle.std.proofs.Common.{List, ℕ}
use Rattle.hla_run.specs.Recorded.{IsLifeOf, IsLifeRecorded, IsToldTo}
use Rattle.hla_run.proofs.life.live.Given as goal

abbrev pub invariant-loop-place : goal.invariant-loop-place
invariant-loop-place g l = record {
  same : IsLifeOf l.initial.life l.life;
  recorded : (execution : List ℕ) → IsLifeRecorded l.stage.catalogue.now l.stage.lines.now execution l.initial.life → IsLifeRecorded l.stage.catalogue.now l.stage.lines.now execution l.life;
  told : IsToldTo l.stage.lines.now 0 l.initial.life → IsToldTo l.stage.lines.now l.place l.life;
}
