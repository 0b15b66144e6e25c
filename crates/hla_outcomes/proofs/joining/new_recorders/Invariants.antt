use Rattle.std.proofs.Common.{◌≡◌, []}
use Rattle.std.specs.Prelude.{vec_len}
use Rattle.std.specs.List.{All}
use Rattle.hla_outcomes.proofs.joining.new_recorders.Given as goal

abbrev pub invariant-loop : goal.invariant-loop
invariant-loop l = (vec_len l.recorders ≡ l.counter) × All (λ r. r.heard ≡ []) l.recorders.items
