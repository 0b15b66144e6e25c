-- One after another the events are compared with those that follow.
use Rattle.std.proofs.Common.{◌∙◌, sym}
use Rattle.hla_accounts.proofs.Tests.Calls.{distinct_rest}
use Rattle.hla_verdicts.proofs.constraining.are_moved_once.Goals as goal

pub loop-place-preserved : goal.loop-place-preserved
loop-place-preserved c = c.loop-place.invariant ∙ distinct_rest c.args.events.now c.loop-place.place _ c.loop-place-test.true (sym c.is_moved.ensures ∙ c.if-is_moved.false)
