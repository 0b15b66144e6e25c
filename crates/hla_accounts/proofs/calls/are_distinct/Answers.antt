-- One after another the events are compared with those that follow.
use Rattle.std.proofs.Common.{◌∙◌, sym}
use Rattle.hla_accounts.proofs.Tests.Calls.{distinct_rest}
use Rattle.hla_accounts.proofs.calls.are_distinct.Goals as goal

pub loop-place-preserved : goal.loop-place-preserved
loop-place-preserved c = c.loop-place.invariant ∙ distinct_rest c.args.events.now c.loop-place.place _ c.loop-place-test.true (sym c.is_listed.ensures ∙ c.if-is_listed.false)
