-- The search ends behind the lesser serials.
use Rattle.std.proofs.Common.{rules, arith}
use Rattle.std.proofs.lemmas.List.Sorted.{IsPartitionPoint-from_clause}
use Rattle.hla_order_queues.specs.Names.{is_note_before}
use Rattle.hla_order_queues.proofs.Events.PlaceLemmas.{partitioned, point_is}
use Rattle.hla_order_queues.proofs.ByName.RisingLemmas.{falls_rising}
use Rattle.hla_order_queues.proofs.rising.place_of.Goals as goal

pub returns : goal.returns
returns c =
    let qs = c.args.notes.now.items in
    let p = is_note_before c.args.serial in
    let point = IsPartitionPoint-from_clause p qs c.partition_point.result c.partition_point.ensures.partitioned (partitioned p qs (falls_rising c.args.serial qs c.requires)) (λ a r q k. search rules) in
    point_is p qs c.partition_point.result (omega (arith, c.partition_point.ensures.bound, c.args.notes.now.ok.0)) point.0 point.1
