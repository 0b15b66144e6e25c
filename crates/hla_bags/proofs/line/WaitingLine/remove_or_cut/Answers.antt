-- The last message is cut off.
use Rattle.std.proofs.Common.{◌≡◌, ◌≤◌, ◌+◌, List, length, drop, ap, ◌∙◌, arith}
use Rattle.std.specs.List.{remove}
use Rattle.hla_bags.specs.declared.bag.Waiting.{Waiting}
use Rattle.hla_bags.proofs.Bags.Lines.{drop-remove, last_alone}
use Rattle.hla_bags.proofs.line.WaitingLine.remove_or_cut.Goals as goal

pub returns-then-place-len : goal.returns-then-place-len
returns-then-place-len c =
    let ws = c.self.inside.waiting.items in
    let s = c.self.inside.start in
    let place = c.args.place in
    let none : s ≡ 0 = omega (arith, c.if-self-eq0.true) in
    let end : length ws ≤ place + 1 = omega (arith, c.len.ensures, c.if-place-len.true) in
    let here : place ≡ s + place = omega (arith, none) in
    ap (drop s) (c.truncate.ensures.items ∙ last_alone place ws end)
    ∙ ap (λ n. drop s (remove ws n)) here
    ∙ drop-remove s place ws (omega (arith, none, c.len.ensures, c.if-place-len.true))
    ∙ ap (λ (vs : List Waiting). remove vs place) c.self.view_is
