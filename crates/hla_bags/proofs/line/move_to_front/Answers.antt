-- The part that turns is put back.
use Rattle.std.proofs.Common.{◌≡◌, ◌+◌, ◌-◌, ◌++◌, ℕ, length, take, drop, subst, sym, arith}
use Rattle.std.specs.List.{remove}
use borrow.Rule.Slice.PartMut.{put_mid, mid_of}
use Rattle.hla_bags.proofs.Bags.Lines.{put_front, front_alone}
use Rattle.hla_bags.proofs.line.move_to_front.Goals as goal

pub returns-then-start-place-clause-rest : goal.returns-then-start-place-clause-rest
returns-then-start-place-clause-rest c =
    let ws = c.args.waiting.now in
    let ys = c.rotate_right.new.self in
    let s = c.args.start in
    let p = c.args.place - c.args.start in
    let count : c.args.place + 1 - s ≡ p + 1 = omega (arith, c.requires.some) in
    let after = subst (λ (n : ℕ). ys ≡ drop (length (mid_of s n ws) - 1) (mid_of s n ws) ++ take (length (mid_of s n ws) - 1) (mid_of s n ws)) count c.rotate_right.ensures.after in
    subst (λ (n : ℕ). drop (s + 1) (put_mid s n ws ys) ≡ remove (drop s ws) p) (sym count) (put_front s p ws ys (omega (arith, c.requires.some, c.requires.within)) after)

pub returns-else-start-place-clause-rest : goal.returns-else-start-place-clause-rest
returns-else-start-place-clause-rest c = front_alone c.args.start (c.args.place - c.args.start) c.args.waiting.now (omega (arith, c.requires.some, c.if-start-place.false))
