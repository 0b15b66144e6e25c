-- The closure gives a row's serial, and the slice is the rows.
use Rattle.std.proofs.Common.{rules}
use Rattle.std.proofs.lemmas.List.Sorted.{answers_always}
use Rattle.hla_retraction.specs.declared.sent.SentRow.{SentRow}
use Rattle.hla_retraction.proofs.SearchLemmas.{searched}
use Rattle.hla_retraction.proofs.sent.Sent.place_of.Goals as goal

pub returns : goal.returns
returns c =
    let facts = c.binary_search_by_key.ensures in
    let by_key = facts.position (λ (row : SentRow). row.serial) (answers_always _ _ _ (λ f a r g called. search rules)) in
    rw (c.ok.ensures.value, ← c.self.view_is, ← c.deref.ensures.value) (searched _ (rw c.deref.ensures.value c.self.invariant) c.args.serial _ facts.bound by_key)
