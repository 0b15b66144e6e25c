-- The first note is of an event that is gone.
use Rattle.std.proofs.Common.{sym, ◌∙◌}
use Rattle.hla_order_queues.specs.Names.{without_passed}
use Rattle.hla_order_queues.proofs.ByName.PassedLemmas.{swept_first, first_swept_unpassed, some_first}
use Rattle.hla_order_queues.proofs.rising.drop_first.Goals as goal

pub loop-passed-init : goal.loop-passed-init
loop-passed-init c = swept_first c.args.passed c.args.notes.now.items c.requires

pub loop-passed-preserved : goal.loop-passed-preserved
loop-passed-preserved c =
    first_swept_unpassed c.args.passed (without_passed c.args.passed c.args.notes.now.items) c.loop-passed.notes.items c.pop_front.new.self.items c.loop-passed.invariant (sym c.is_first_gone.ensures ∙ c.loop-passed-test.true) c.pop_front.ensures.rest

pub loop-passed-smaller : goal.loop-passed-smaller
loop-passed-smaller c = some_first c.args.passed c.loop-passed.notes.items c.pop_front.new.self.items (sym c.is_first_gone.ensures ∙ c.loop-passed-test.true) c.pop_front.ensures.rest
