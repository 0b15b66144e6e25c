-- The message goes to the front and then into the gap, or those behind it move up.
use Rattle.std.proofs.Common.{◌≡◌, ◌+◌, ◌-◌, drop, length, sym, ap, ◌∙◌, arith}
use Rattle.std.specs.List.{remove}
use Rattle.hla_bags.proofs.Bags.Lines.{drop-remove, last_alone}
use Rattle.hla_bags.proofs.line.take_out.Goals as goal

pub returns-else-place-as_slice-clause-rest : goal.returns-else-place-as_slice-clause-rest
returns-else-place-as_slice-clause-rest c =
    let s = c.args.start in
    let p = c.args.place - s in
    let at : s + p ≡ c.args.place = omega (arith, c.requires.some) in
    ap (drop s) (c.remove.ensures.items ∙ ap (remove c.args.waiting.now.items) (sym at)) ∙ drop-remove s p c.args.waiting.now.items (omega (arith, c.requires.some, c.requires.within))

pub returns-then-place-as_slice-clause-rest : goal.returns-then-place-as_slice-clause-rest
returns-then-place-as_slice-clause-rest c =
    let s = c.args.start in
    let ws = c.args.waiting.now.items in
    let size = ap length c.as_slice.ensures.value in
    let p = c.args.place - s in
    let at : s + p ≡ c.args.place = omega (arith, c.requires.some) in
    ap (drop s) (c.truncate.ensures.items ∙ last_alone c.args.place ws (omega (arith, size, c.if-place-as_slice.true)) ∙ ap (remove ws) (sym at)) ∙ drop-remove s p ws (omega (arith, c.requires.some, c.requires.within))
