-- The key and the name of the message go.
use Rattle.std.proofs.Common.{None, false, refl}
use Rattle.hla_bags.proofs.Indexes.Upkeep.{key_now, number_now, keys_removed, names_written}
use Rattle.hla_bags.proofs.index.Index.remove.Goals as goal

pub returns : goal.returns
returns c t was there =
    let g = c.args.event.sender in
    let m = c.args.event.serial in
    let i = c.args.self.now in
    record {
      keys = keys_removed i.keys c.remove.new.self t g m c.args.delivery was.keys there (key_now i.keys c.remove.new.self c.of.result false g m c.args.delivery c.of.ensures c.remove.ensures.updates);
      names = names_written i.arrivals c.remove-2.new.self t g m None None was.names refl (number_now i.arrivals c.remove-2.new.self c.of-2.result None g m c.of-2.ensures c.remove-2.ensures.updates.0);
    }
