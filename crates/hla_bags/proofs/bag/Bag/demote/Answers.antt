-- Where nothing waits, nothing changes.
use Rattle.std.proofs.Common.{◌≡◌, eqb, true, List, [], ◌∷◌, length, refl, sym, subst, ◌∙◌, arith, eqb-true}
use Rattle.hla_bags.specs.declared.bag.Waiting.{Waiting}
use Rattle.hla_bags.specs.Bags.{waiting_at, with_listed_demoted}
use Rattle.hla_bags.proofs.Bags.Contents.{waiting_at-demote}
use Rattle.hla_bags.proofs.bag.Bag.demote.Goals as goal

none_waits : (ws : List Waiting) → eqb (length ws) 0 ≡ true → ws ≡ []
none_waits [] e = refl
none_waits (w ∷ ws) e = absurd (let none = eqb-true _ _ e in omega (arith, none))

pub returns-then-is_empty-clause-table : goal.returns-then-is_empty-clause-table
returns-then-is_empty-clause-table c =
    let none : c.args.self.now ≡ [] = sym (c.as_slice.ensures ∙ c.self.view_is) ∙ none_waits c.as_slice.result.now (sym c.is_empty.ensures ∙ c.if-is_empty.true) in
    subst (λ (ws : List Waiting). waiting_at ws ≡ with_listed_demoted c.args.events.now (waiting_at ws)) (sym none) (waiting_at-demote c.args.events.now [])
