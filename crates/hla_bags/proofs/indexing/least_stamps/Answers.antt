-- The bounds are lowered to the stamp of one message more.
use Rattle.std.proofs.Common.{◌≡◌, ◌++◌, ◌∷◌, ◌+◌, [], take, sym, subst, ap, ◌∙◌}
use Rattle.std.proofs.lemmas.List.{take_more}
use Rattle.hla_bags.specs.declared.bag.Waiting.{Waiting}
use Rattle.hla_bags.specs.Bags.{AreNotBelow}
use Rattle.hla_bags.proofs.Bags.Stamps.{bounds_push, lesser_bounds}
use Rattle.hla_bags.proofs.indexing.least_stamps.Goals as goal

pub loop-message-preserved : goal.loop-message-preserved
loop-message-preserved c =
    let items = c.args.waiting.now in
    let i = c.loop-message.message-index in
    let w : Waiting = c.message-item.result in
    let more : take (i + 1) items ≡ take i items ++ w ∷ [] = take_more items i w c.loop-message-test.true ∙ ap (λ (x : Waiting). take i items ++ x ∷ []) (sym c.message-item.is) in
    let p = c.lower.new.ordered in
    let e = c.lower.new.demoted in
    let was = lesser_bounds c.loop-message.ordered c.loop-message.demoted p e (take i items) c.lower.ensures.ordered c.lower.ensures.demoted c.loop-message.invariant in
    subst (AreNotBelow p e) (sym more) (bounds_push p e (take i items) w was c.lower.ensures.kept)
