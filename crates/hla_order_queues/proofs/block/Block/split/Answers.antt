-- The two halves make the whole.
use Rattle.std.proofs.Common.{◌∙◌}
use Rattle.std.proofs.lemmas.List.{take-append-drop}
use Rattle.hla_order_queues.proofs.block.Block.split.Goals as goal

pub returns-clause-ok : goal.returns-clause-ok
returns-clause-ok c =
    let items = c.self.inside.events.items in
    rw (c.in_ok-greater.ensures.items, c.in_ok-greater.ensures.tail) (take-append-drop _ items ∙ c.self.view_is)
