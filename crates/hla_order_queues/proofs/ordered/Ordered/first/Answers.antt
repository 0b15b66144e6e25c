-- The first block has the first event.
use Rattle.std.proofs.Common.{ap, ◌∙◌}
use Rattle.std.specs.List.{slice_get}
use Rattle.hla_order_queues.specs.Kept.{events_of}
use Rattle.hla_order_queues.proofs.UnderSeparators.KeptLemmas.{first_event}
use Rattle.hla_order_queues.proofs.ordered.Ordered.first.Goals as goal

pub returns : goal.returns
returns c =
    c.first.ensures ∙ first_event c.self.inside.first (events_of c.self.inside.later) c.self.inside.count c.self.invariant.0 ∙ ap (λ xs. slice_get xs 0) c.self.view_is
