-- The map tells the names apart as their parts do.
use Rattle.std.proofs.Common.{sym, ◌∙◌}
use Rattle.hla_order_queues.proofs.ByName.NamesLemmas.{updated, where_true, where_ok}
use Rattle.hla_order_queues.proofs.names.insert.Goals as goal

pub returns-clause-put : goal.returns-clause-put
returns-clause-put c =
    where_true c.is_ok.result _ (λ yes. updated c.args.others.now.entries c.insert.new.self.entries _ _ (rw c.name.ensures at (where_ok c.insert.result _ c.insert.ensures.updates (sym c.is_ok.ensures.value ∙ yes)).0))
