-- First those of the first block, then those behind it.
use Rattle.std.proofs.Common.{◌≡◌, min, length, arith}
use Rattle.hla_order_queues.specs.Kept.{events_of}
use Rattle.hla_order_queues.proofs.UnderSeparators.KeptLemmas.{put_both}
use Rattle.hla_order_queues.proofs.ordered.Ordered.put_handles.Goals as goal

pub returns-clause-put : goal.returns-clause-put
returns-clause-put c =
    let size : c.min-here.result ≡ min c.args.count (length c.self.inside.first) = omega arith in
    put_both c.self.inside.first (events_of c.self.inside.later) c.args.self.now c.args.handles.now.items c.put_handles.new.handles.items c.put_handles-2.new.handles.items c.args.count c.min-here.result c.self.view_is size c.put_handles.ensures.put c.put_handles-2.ensures.put
