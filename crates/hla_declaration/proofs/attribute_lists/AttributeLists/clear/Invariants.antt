use Rattle.std.proofs.Common.{◌≡◌, ℕ, ◌<◌, get_or, None}
use Rattle.hla_declaration.proofs.attribute_lists.AttributeLists.clear.Given as goal

-- nothing stands at the places so far
abbrev pub invariant-loop-list : goal.invariant-loop-list
invariant-loop-list l = (k : ℕ) → k < l.list-index → get_or l.list-items k None ≡ None
