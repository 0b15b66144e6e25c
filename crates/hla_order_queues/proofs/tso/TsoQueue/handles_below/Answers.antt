-- As many handles are put as events were counted below the bound.
use Rattle.std.proofs.Common.{◌≡◌, ◌++◌, take, ap, ◌∙◌}
use Rattle.hla_component_rules.specs.Queues.{handles_of}
use Rattle.hla_order_queues.proofs.Events.MovingLemmas.{below_moved, all_moved}
use Rattle.hla_order_queues.proofs.tso.TsoQueue.handles_below.Goals as goal
use Rattle.hla_order_queues.proofs.tso.TsoQueue.handles_below.Goals.{After-put_handles}

listed : (c : After-put_handles) → c.put_handles.new.handles.items ≡ handles_of (take c.count_below-count.result c.args.self.now)
listed c =
    c.put_handles.ensures.put
    ∙ ap (λ xs. c.in-Ok.handles.items ++ handles_of (take c.count_below-count.result xs)) c.self.view_is
    ∙ ap (λ hs. hs ++ handles_of (take c.count_below-count.result c.args.self.now)) c.in-Ok.ensures.items

pub returns-clause-below : goal.returns-clause-below
returns-clause-below c =
    λ low. listed c ∙ ap handles_of (below_moved c.args.bound _ c.args.self.now c.count_below-count.ensures.rising c.count_below-count.ensures.count low).0

pub returns-clause-all : goal.returns-clause-all
returns-clause-all c =
    λ all. listed c ∙ ap handles_of (all_moved c.args.bound _ c.args.self.now c.count_below-count.ensures.rising c.count_below-count.ensures.count all).0
