-- The block at the place of the separator.
use Rattle.std.proofs.Common.{◌∙◌}
use Rattle.hla_order_queues.proofs.UnderSeparators.PlacesLemmas.{there_is, none_there}
use Rattle.hla_order_queues.proofs.separators.Separators.get.Goals as goal

pub returns-in-Some : goal.returns-in-Some
returns-in-Some c = c.get-in-Some.ensures ∙ there_is c.args.separator c.in-Some.place.now c.self.invariant c.self.view_is c.in-Some.ensures.value

pub returns-in-None : goal.returns-in-None
returns-in-None c = none_there c.self.inside.blocks c.args.separator c.self.invariant c.self.view_is c.in-None.ensures.value
