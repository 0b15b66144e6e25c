-- What is written behind the gap is written in the list.
use Rattle.std.proofs.Common.{◌<◌, List, length, drop, set, get_or, subst, sym, ap, ◌∙◌, arith, length-drop}
use Rattle.hla_bags.specs.declared.bag.Waiting.{Waiting}
use Rattle.hla_bags.proofs.Bags.Lines.{set_behind}
use Rattle.hla_bags.proofs.line.WaitingLine.set_delivery.Goals as goal

pub returns : goal.returns
returns c d =
    let ws = c.self.inside.waiting.items in
    let s = c.self.inside.start in
    let place = c.args.place in
    let x = c.index_mut.result.now in
    let inside : place < length (drop s ws) = subst (λ (vs : List Waiting). place < length vs) (sym c.self.view_is) c.requires in
    set_behind s place ws x d c.args.delivery (omega (arith, inside, length-drop s ws)) c.index_mut.ensures.value
    ∙ ap (λ (vs : List Waiting). set vs place (record (get_or vs place d) { delivery = c.args.delivery })) c.self.view_is
