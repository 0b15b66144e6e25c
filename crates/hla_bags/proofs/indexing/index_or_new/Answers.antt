-- A new index is one of the first 0 messages.
use Rattle.std.proofs.Common.{◌≡◌, ℕ, take, subst, sym, ap, ◌∙◌}
use Rattle.hla_bags.specs.Indexes.{delivery_at, IsIndexOf, IsHead}
use Rattle.hla_bags.proofs.Bags.Places.{delivered_nil}
use Rattle.hla_bags.proofs.indexing.index_or_new.Goals as goal

pub returns-in-None : goal.returns-in-None
returns-in-None c k ws head =
    let none : k ≡ 0 = subst (λ o. IsHead o k (take k ws)) c.in-None.is head in
    subst (λ t. IsIndexOf c.new.result t) (sym (ap (λ (n : ℕ). delivery_at (take n ws)) none ∙ delivered_nil)) c.new.ensures
