use Rattle.std.proofs.Common.{◌≡◌, ◌++◌, take}
use Rattle.std.specs.List.{flat_map, enumerate_from}
use Rattle.hla_outcomes.specs.Running.{told_at}
use Rattle.hla_outcomes.proofs.outcomes.print_all.Given as goal

abbrev pub invariant-loop-place : goal.invariant-loop-place
invariant-loop-place l = l.text ≡ l.fn.text ++ flat_map (λ p. told_at l.catalogue l.outcomes p.0 p.1) (take l.place (enumerate_from 0 l.lines))
