-- One key of the message goes, and the other comes in.
use Rattle.std.proofs.Common.{true, false}
use Rattle.hla_bags.proofs.Indexes.Upkeep.{key_now, keys_changed, names_kept}
use Rattle.hla_bags.proofs.index.Index.change.Goals as goal

pub returns : goal.returns
returns c t was there =
    let g = c.args.event.sender in
    let m = c.args.event.serial in
    let i = c.args.self.now in
    record {
      keys = keys_changed i.keys c.remove.new.self c.insert.new.self t g m c.args.before c.args.after was.keys there
          (key_now i.keys c.remove.new.self c.of.result false g m c.args.before c.of.ensures c.remove.ensures.updates)
          (key_now c.remove.new.self c.insert.new.self c.of-2.result true g m c.args.after c.of-2.ensures c.in_ok-insert.ensures.updates);
      names = names_kept i.arrivals t g m c.args.before c.args.after was.names there;
    }
