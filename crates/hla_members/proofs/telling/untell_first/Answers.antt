-- One after another is changed.
use Rattle.std.proofs.Common.{arith}
use Rattle.hla_members.specs.Telling.{member_untold}
use Rattle.hla_members.proofs.Tidings.{changed_more}
use Rattle.hla_members.proofs.telling.untell_first.Goals as goal

pub loop-place-preserved : goal.loop-place-preserved
loop-place-preserved c = changed_more (member_untold c.args.count) c.args.members.now.items c.loop-place.members.items c.loop-place.place c.index_mut.result.now c.untell.new.self
    (omega (arith, c.loop-place-test.true, c.requires)) c.loop-place.invariant c.index_mut.ensures.value c.untell.ensures
