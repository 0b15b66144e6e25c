-- The event goes behind all.
use Rattle.std.proofs.Common.{◌++◌, ◌∷◌, [], sym, ap, ◌∙◌}
use Rattle.hla_order_queues.proofs.Events.PlaceLemmas.{insert_event-behind}
use Rattle.hla_order_queues.proofs.block.Block.append.Goals as goal
use Rattle.hla_order_queues.proofs.block.Block.append.Goals.{in-Ok, in-Err}

pub returns-clause-ok : goal.returns-clause-ok
returns-clause-ok c =
    elim c.match-push_back.branch [
      | in-Ok w ↦ rw w.result-is (w.in-Ok.ensures.items ∙ ap (λ xs. xs ++ c.args.event ∷ []) c.self.view_is ∙ sym (insert_event-behind c.args.event c.args.self.now c.requires))
      | in-Err w ↦ rw w.result-is tt
    ]
