-- The search ends behind the events that do not come later, and there the new event goes.
use Rattle.std.proofs.Common.{◌≤◌, length, not, ap, ◌∙◌, rules, arith}
use Rattle.std.specs.List.{insert}
use Rattle.std.proofs.lemmas.List.Sorted.{IsPartitionPoint-from_clause}
use Rattle.hla_base.specs.declared.content.Event.{Event}
use Rattle.hla_component_rules.specs.Queues.{insert_event}
use Rattle.hla_order_queues.specs.Kept.{is_key_before}
use Rattle.hla_order_queues.proofs.Events.PlaceLemmas.{partitioned, point_is, falls_ordered, inserted_there}
use Rattle.hla_order_queues.proofs.block.Block.insert.Goals as goal
use Rattle.hla_order_queues.proofs.block.Block.insert.Goals.{in-Ok, in-Err}

pub returns-clause-ok : goal.returns-clause-ok
returns-clause-ok c =
    let items = c.self.inside.events.items in
    let p = λ (x : Event). not (is_key_before c.of-key.result x) in
    let ordered = rw (← c.self.view_is) at c.requires in
    let point = IsPartitionPoint-from_clause p items c.partition_point-place.result c.partition_point-place.ensures.partitioned (partitioned p items (falls_ordered c.of-key.result items ordered)) (λ a r q k. search rules) in
    let within : c.partition_point-place.result ≤ length items = omega (arith, c.partition_point-place.ensures.bound, c.self.inside.events.ok.0) in
    let place = rw c.of-key.ensures at (point_is p items c.partition_point-place.result within point.0 point.1) in
    elim c.match-insert.branch [
      | in-Ok w ↦ rw w.result-is (rw w.in-Ok.ensures.items (ap (λ n. insert items n c.args.event) place ∙ inserted_there c.args.event items ∙ ap (insert_event c.args.event) c.self.view_is))
      | in-Err w ↦ rw w.result-is tt
    ]
