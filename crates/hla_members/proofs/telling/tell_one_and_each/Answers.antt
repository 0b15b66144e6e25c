-- Where the others are refused, it is taken back from the one.
use Rattle.std.proofs.Common.{◌≡◌, true, is_err, sym, ◌∙◌}
use Rattle.hla_members.proofs.Tidings.{put_back, held_err}
use Rattle.hla_members.proofs.telling.tell_one_and_each.Goals as goal

pub returns-then-is_err-clause-unchanged : goal.returns-then-is_err-clause-unchanged
returns-then-is_err-clause-unchanged c =
    let refused : is_err c.tell_each.result ≡ true = sym c.is_err.ensures.value ∙ c.if-is_err.true in
    put_back c.args.first.now c.args.members.now.items c.tell_each.new.members.items c.args.place c.index_mut.result.now c.tell.new.self c.index_mut-then-is_err.result.now c.untell.new.self
    c.requires c.index_mut.ensures.value c.in_ok-tell.ensures.ok (held_err c.tell_each.result refused c.tell_each.ensures.unchanged) c.index_mut-then-is_err.ensures.value c.untell.ensures
