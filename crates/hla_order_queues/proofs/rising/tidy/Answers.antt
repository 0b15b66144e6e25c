-- Both sweeps keep what is noted, and so does giving room back.
use Rattle.hla_order_queues.specs.Names.{without_passed}
use Rattle.hla_order_queues.proofs.ByName.PassedLemmas.{swept_first}
use Rattle.hla_order_queues.proofs.ByName.RisingLemmas.{keeps_then}
use Rattle.hla_order_queues.proofs.rising.tidy.Goals as goal
use Rattle.hla_order_queues.proofs.rising.tidy.Goals.{then-gone-gt0, else-gone-gt0}

pub returns : goal.returns
returns c =
    let p = c.args.passed in
    let old = without_passed p c.args.notes.now.items in
    rw c.give_back.ensures.same (elim c.if-gone-gt0.branch [
      | then-gone-gt0 w ↦ rw w.notes-is (keeps_then old (without_passed p w.drop_first.new.notes.items) (without_passed p w.drop_many.new.notes.items) w.drop_first.ensures w.drop_many.ensures)
      | else-gone-gt0 w ↦ rw w.notes-is (swept_first p c.args.notes.now.items c.requires)
    ])
