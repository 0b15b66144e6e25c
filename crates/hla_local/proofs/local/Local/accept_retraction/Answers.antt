-- What is found in time-stamp order waits nowhere else; what is found nowhere leaves both queues as they are.
use Rattle.std.proofs.Common.{sym, ◌∙◌}
use Rattle.hla_local.proofs.Retracting.{found_in_order, found_nowhere}
use Rattle.hla_local.proofs.local.Local.accept_retraction.Goals as goal

pub returns-then-is_some-clause-ok : goal.returns-then-is_some-clause-ok
returns-then-is_some-clause-ok c =
    found_in_order c.args.from c.args.serial _ c.args.self.now c.remove.result c.remove.new.self c.self.view_is c.requires c.remove.ensures.found c.remove.ensures.rest (sym c.is_some.ensures ∙ c.if-is_some.true)

pub returns-then-is_err-clause-unchanged : goal.returns-then-is_err-clause-unchanged
returns-then-is_err-clause-unchanged c =
    found_nowhere c.args.from c.args.serial _ c.args.self.now c.remove.result c.remove-2.result c.remove.new.self c.remove-2.new.self.events c.reserve.new.self.items c.self.view_is c.remove.ensures.found c.remove.ensures.rest (sym c.is_some.ensures ∙ c.if-is_some.false) c.remove-2.ensures.found c.remove-2.ensures.rest (sym c.is_some-2.ensures ∙ c.if-is_some-2.false) c.reserve.ensures.items
