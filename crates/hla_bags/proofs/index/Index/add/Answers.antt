-- The key and the name of the new message come in.
use Rattle.std.proofs.Common.{Some, true, refl}
use Rattle.hla_bags.proofs.Indexes.Upkeep.{key_now, number_now, keys_added, names_written}
use Rattle.hla_bags.proofs.index.Index.add.Goals as goal

pub returns : goal.returns
returns c t was free =
    let g = c.args.event.sender in
    let m = c.args.event.serial in
    let i = c.args.self.now in
    record {
      keys = keys_added i.keys c.insert.new.self t g m c.args.delivery was.keys free (key_now i.keys c.insert.new.self c.of.result true g m c.args.delivery c.of.ensures c.in_ok-insert.ensures.updates);
      names = names_written i.arrivals c.insert-2.new.self t g m (Some i.next) (Some c.args.delivery) was.names refl (number_now i.arrivals c.insert-2.new.self c.of-2.result (Some i.next) g m c.of-2.ensures c.in_ok-insert-2.ensures.updates.0);
    }
