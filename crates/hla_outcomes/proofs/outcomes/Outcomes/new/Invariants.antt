use Rattle.std.proofs.Common.{◌≡◌, length, replicate, None}
use Rattle.hla_outcomes.proofs.outcomes.Outcomes.new.Given as goal

abbrev pub invariant-loop : goal.invariant-loop
invariant-loop l = (length l.by_place.items ≡ l.counter) × (l.by_place.items ≡ replicate l.counter None)
