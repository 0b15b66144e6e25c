-- The note at the place has the serial, or none has.
use Rattle.hla_order_queues.proofs.ByName.RisingLemmas.{stamp_found, stamp_missed, no_stamp}
use Rattle.hla_order_queues.proofs.rising.stamp_at.Goals as goal

pub returns-then-note-serial : goal.returns-then-note-serial
returns-then-note-serial c =
    stamp_found c.args.serial c.args.notes.now.items c.args.place c.in-Some.note.now c.requires.rising c.requires.place c.in-Some.ensures.item.3.0 c.in-Some.ensures.lookup c.if-note-serial.true

pub returns-else-note-serial : goal.returns-else-note-serial
returns-else-note-serial c =
    stamp_missed c.args.serial c.args.notes.now.items c.args.place c.in-Some.note.now c.requires.rising c.requires.place c.in-Some.ensures.item.3.0 c.in-Some.ensures.lookup c.if-note-serial.false

pub returns-in_default : goal.returns-in_default
returns-in_default c =
    no_stamp c.args.serial c.args.notes.now.items c.args.place c.requires.rising c.requires.place (rw c.in_default.is at c.get.ensures.item).3
