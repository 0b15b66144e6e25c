-- One after another is told; where one is refused, it is taken back from those before it.
use Rattle.std.proofs.Common.{◌≡◌, List, ◌++◌, map, take, drop, set, length, true, false, is_err, sym, ap, ◌∙◌, arith}
use Rattle.hla_members.specs.Rooms.{RoomyMember}
use Rattle.hla_members.specs.Telling.{member_told, member_untold}
use Rattle.hla_members.proofs.Tidings.{changed_more, undone, set_kept, held_ok, held_err}
use Rattle.hla_members.proofs.telling.tell_each.Goals as goal

pub loop-place-preserved : goal.loop-place-preserved
loop-place-preserved c =
    let told : is_err c.tell.result ≡ false = sym c.is_err.ensures.value ∙ c.if-is_err.false in
    changed_more (member_told c.args.notices.now) c.args.members.now.items c.loop-place.members.items c.loop-place.place c.index_mut.result.now c.tell.new.self
    (omega (arith, c.loop-place-test.true, c.len-place-end.ensures)) c.loop-place.invariant c.index_mut.ensures.value (held_ok c.tell.result told c.tell.ensures.ok)

pub returns-then-is_err-clause-unchanged : goal.returns-then-is_err-clause-unchanged
returns-then-is_err-clause-unchanged c =
    let k = c.loop-place.place in
    let count = length c.args.notices.now in
    let refused : is_err c.tell.result ≡ true = sym c.is_err.ensures.value ∙ c.if-is_err.true in
    let kept = ap (set c.loop-place.members.items k) (held_err c.tell.result refused c.tell.ensures.unchanged)
    ∙ set_kept c.loop-place.members.items k c.index_mut.result.now c.index_mut.ensures.value ∙ c.loop-place.invariant in
    c.untell_first.ensures
    ∙ ap (λ (l : List RoomyMember). map (member_untold count) (take k l) ++ drop k l) kept
    ∙ undone c.args.notices.now c.args.members.now.items k
