use Rattle.std.proofs.Common.{◌≡◌, ◌<◌, ◌++◌, ℕ, None, length, get_or, take, drop, arith}
use Rattle.std.proofs.lemmas.Grind.{common_steps}
use Rattle.hla_declaration.proofs.EntryLemmas.{entry_absent}
use Rattle.hla_declaration.proofs.attribute_lists.AttributeLists.clear.Goals as goal

pub returns-clause-nothing : goal.returns-clause-nothing
returns-clause-nothing c =
    let whole : take c.self.inside.lists.len (c.loop-list.list-items ++ drop (length c.loop-list.list-items) c.self.inside.lists.items) ≡ c.loop-list.list-items = grind (arith, common_steps) in
    let nothing : (k : ℕ) → k < length c.loop-list.list-items → get_or c.loop-list.list-items k None ≡ None = λ k within. c.loop-list.invariant k (omega arith) in
    rw whole (entry_absent None c.loop-list.list-items nothing)
