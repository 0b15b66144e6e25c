-- The first note says nothing, or there is none.
use Rattle.std.proofs.Common.{arith}
use Rattle.hla_order_queues.proofs.ByName.PassedLemmas.{first_none, no_first}
use Rattle.hla_order_queues.proofs.rising.is_first_gone.Goals as goal

pub returns-in-Some : goal.returns-in-Some
returns-in-Some c =
    first_none c.args.passed c.args.notes.now.items c.in-Some.note.now c.unpassed.result c.is_none.result (omega (arith, c.args.notes.now.ok.0, c.in-Some.ensures.item.3.0)) c.in-Some.ensures.lookup c.unpassed.ensures c.is_none.ensures

pub returns-in-None : goal.returns-in-None
returns-in-None c = no_first c.args.passed c.args.notes.now.items c.in-None.ensures.item.3
