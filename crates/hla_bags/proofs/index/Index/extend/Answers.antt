-- One message after another comes in.
use Rattle.std.proofs.Common.{◌≡◌, ◌<◌, ◌+◌, ◌-◌, ◌++◌, ◌∷◌, [], ℕ, List, None, length, take, drop, get_or, subst, sym, ap, ◌∙◌, arith, length-drop}
use Rattle.std.proofs.lemmas.List.{get_or-drop, take_all, take_more}
use Rattle.hla_bags.specs.declared.bag.Waiting.{Waiting}
use Rattle.hla_bags.specs.Bags.{waiting_at}
use Rattle.hla_bags.specs.Indexes.{delivery_at, IsIndexOf}
use Rattle.hla_bags.proofs.Bags.Places.{free_before, delivered_push, undelivered_back}
use Rattle.hla_bags.proofs.index.Index.extend.Goals as goal

pub loop-message-init : goal.loop-message-init
loop-message-init c = subst (λ (k : ℕ). IsIndexOf c.args.self.now (delivery_at (take k c.args.waiting.now))) (let same : c.args.from ≡ c.args.from + 0 = omega arith in same) c.requires.known

pub loop-message-preserved : goal.loop-message-preserved
loop-message-preserved c =
    let ws = c.args.waiting.now in
    let k = c.args.from in
    let i = c.loop-message.message-index in
    let w = c.message-item.result in
    let tail : take (length ws - k) (drop k ws) ≡ drop k ws = take_all (length ws - k) (drop k ws) (omega (arith, length-drop k ws)) in
    let low = subst (λ (vs : List Waiting). i < length vs) tail c.loop-message-test.true in
    let inside : k + i < length ws = omega (arith, low, length-drop k ws) in
    let item = subst (λ (vs : List Waiting). w ≡ get_or vs i w) tail c.message-item.is in
    let read : w ≡ get_or ws (k + i) w = item ∙ get_or-drop k ws i w in
    let free = subst (λ (x : Waiting). waiting_at (take (k + i) ws) x.event.sender x.event.serial ≡ None) (sym read) (free_before ws c.requires.apart (k + i) w inside) in
    let grown : take (k + (i + 1)) ws ≡ take (k + i) ws ++ w ∷ [] =
    ap (λ (n : ℕ). take n ws) (let same : k + (i + 1) ≡ k + i + 1 = omega arith in same) ∙ take_more ws (k + i) w inside ∙ ap (λ (x : Waiting). take (k + i) ws ++ x ∷ []) (sym read) in
    subst (λ t. IsIndexOf c.add.new.self t) (sym (ap delivery_at grown ∙ delivered_push (take (k + i) ws) w free)) (c.in_ok-add.ensures (delivery_at (take (k + i) ws)) c.loop-message.invariant (undelivered_back (take (k + i) ws) w.event.sender w.event.serial free))
