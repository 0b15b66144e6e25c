-- One more row is below the least, or has it, or is above it.
use Rattle.std.proofs.Common.{take, get_or, arith}
use Rattle.std.proofs.lemmas.List.{take_more}
use Rattle.hla_lbts.specs.declared.row.PeerRow.{PeerRow}
use Rattle.hla_lbts.proofs.RowLemmas.{push_below, push_equal, push_above}
use Rattle.hla_lbts.proofs.row.least_of.Goals as goal
use Rattle.hla_lbts.proofs.row.least_of.Goals.{then-row-least, else-row-least+then-row-least-2, else-row-least+else-row-least-2}

pub loop-row-preserved : goal.loop-row-preserved
loop-row-preserved c =
    let none : PeerRow = record { epoch = 0; bound = 0 } in
    let row = get_or c.args.rows.now c.loop-row.row-index none in
    let so_far = take c.loop-row.row-index c.args.rows.now in
    let more = take_more c.args.rows.now c.loop-row.row-index none c.loop-row-test.true in
    elim c.if-row-least.branch [
      | then-row-least w ↦ rw (w.least-is, w.holders-is, more) (push_below so_far c.loop-row.least c.loop-row.holders row c.loop-row.invariant w.if-row-least.true)
      | else-row-least+then-row-least-2 w ↦ rw (w.least-is, w.holders-is, more) (push_equal so_far c.loop-row.least c.loop-row.holders row c.loop-row.invariant w.if-row-least-2.true)
      | else-row-least+else-row-least-2 w ↦ rw (w.least-is, w.holders-is, more) (push_above so_far c.loop-row.least c.loop-row.holders row c.loop-row.invariant (omega arith) (omega arith))
    ]
