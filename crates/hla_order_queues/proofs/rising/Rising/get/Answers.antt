-- What is noted, if it was not passed.
use Rattle.hla_order_queues.proofs.ByName.PassedLemmas.{found_unpassed}
use Rattle.hla_order_queues.proofs.rising.Rising.get.Goals as goal

pub returns : goal.returns
returns c =
    found_unpassed c.self.inside.passed c.args.serial c.self.inside.notes.items c.args.self.now c.stamp_noted.result c.unpassed.result c.self.invariant c.self.view_is c.stamp_noted.ensures c.unpassed.ensures
