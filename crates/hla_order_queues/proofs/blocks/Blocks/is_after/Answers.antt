-- The first separator tells of all.
use Rattle.std.proofs.Common.{true, subst, sym, ◌∙◌, ap}
use Rattle.std.specs.Ordering.{is_lt}
use Rattle.hla_order_queues.proofs.UnderSeparators.SeparatorLemmas.{less_is}
use Rattle.hla_order_queues.proofs.UnderSeparators.JoinedLemmas.{TellsWhether, told_first, told_none, no_first}
use Rattle.hla_order_queues.proofs.blocks.Blocks.is_after.Goals as goal
use Rattle.hla_order_queues.proofs.blocks.Blocks.is_after.Goals.{After-is_lt, In-None}

told : (c : After-is_lt) → TellsWhether c.args.key c.args.self.now c.is_lt.result
told c =
    subst (λ es. TellsWhether c.args.key es c.is_lt.result) c.self.view_is (told_first c.args.key c.in-Some.separator.now c.self.inside.separators c.is_lt.result c.self.invariant c.in-Some.ensures (c.is_lt.ensures ∙ ap is_lt c.cmp.ensures ∙ less_is c.args.key c.in-Some.separator.now))

pub returns-in-Some-clause-after : goal.returns-in-Some-clause-after
returns-in-Some-clause-after c = (told c).after

pub returns-in-Some-clause-events : goal.returns-in-Some-clause-events
returns-in-Some-clause-events c = (told c).events

pub returns-in-Some-clause-within : goal.returns-in-Some-clause-within
returns-in-Some-clause-within c = (told c).within

told_empty : (c : In-None) → TellsWhether c.args.key c.args.self.now true
told_empty c = told_none c.args.key c.args.self.now (sym c.self.view_is ∙ no_first c.self.inside.separators c.in-None.ensures)

pub returns-in-None-clause-after : goal.returns-in-None-clause-after
returns-in-None-clause-after c = (told_empty c).after

pub returns-in-None-clause-events : goal.returns-in-None-clause-events
returns-in-None-clause-events c = (told_empty c).events

pub returns-in-Some-clause-some : goal.returns-in-Some-clause-some
returns-in-Some-clause-some c = (told c).some
