use Rattle.std.proofs.Common.{◌≡◌, ◌<◌, ℕ, Some}
use Rattle.std.specs.Prelude.{slice_get}
use Rattle.hla_commands.specs.declared.lines.Line.{Line}
use Rattle.hla_outcomes.specs.Running.{IsDealtWith}
use Rattle.hla_outcomes.proofs.outcomes.are_all_done.Given as goal

abbrev pub invariant-loop-place : goal.invariant-loop-place
invariant-loop-place l = (k : ℕ) (x : Line) → k < l.place → slice_get l.lines k ≡ Some x → IsDealtWith l.outcomes k x
