use Rattle.std.proofs.Common.{◌≡◌, length}
use Rattle.hla_outcomes.specs.Running.{with_lines_noted}
use Rattle.hla_outcomes.proofs.outcomes.Outcomes.note_all.Given as goal

-- those that are left, noted one after another, make what all make
abbrev pub invariant-loop-told : goal.invariant-loop-told
invariant-loop-told l = (length l.self ≡ length l.fn.self) × (with_lines_noted l.self l.told-iterator.rest.items ≡ with_lines_noted l.fn.self l.fn.all.items)
