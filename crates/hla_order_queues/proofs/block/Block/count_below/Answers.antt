-- The events are gone through from the least on, as long as they are below the bound.
use Rattle.std.proofs.Common.{ap, ◌∙◌, rules, tests}
use Rattle.std.specs.List.{prefix_len}
use Rattle.std.specs.VecDeque.Iter.{deque_iter_rest}
use Rattle.std.proofs.lemmas.List.Folds.{length-prefix_len}
use Rattle.std.proofs.lemmas.Iterator.Consumers.{count_from_yields_List, YieldsList-from_deque}
use Rattle.std.proofs.lemmas.Iterator.Search.{YieldsList-from_take_while}
use Rattle.hla_order_queues.specs.Moving.{is_moved}
use Rattle.hla_order_queues.proofs.block.Block.count_below.Goals as goal

pub returns : goal.returns
returns c =
    let items = c.self.inside.events.items in
    let source = ap deque_iter_rest c.take_while.ensures.source ∙ c.iter.ensures.rest in
    count_from_yields_List c.take_while.result _ c.count.ensures.ran
    (YieldsList-from_take_while _ (is_moved c.args.bound) (YieldsList-from_deque items source) c.take_while.ensures.closure c.take_while.ensures.done (λ x b q h. search (rules, tests)))
    ∙ length-prefix_len (is_moved c.args.bound) _
    ∙ ap (prefix_len (is_moved c.args.bound)) c.self.view_is
