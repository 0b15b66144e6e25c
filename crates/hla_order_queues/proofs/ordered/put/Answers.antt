-- The event goes to the first block where all later separators come after it, and else behind that.
use Rattle.std.proofs.Common.{◌≡◌, ◌<◌, ◌++◌, length, sym, ap, subst, arith}
use Rattle.hla_order_queues.specs.declared.key.EventKey.{EventKey}
use Rattle.hla_order_queues.specs.Kept.{events_of, IsInOrder, IsUnique, AreAfter}
use Rattle.hla_order_queues.proofs.Events.OrderLemmas.{parts_of}
use Rattle.hla_order_queues.proofs.UnderSeparators.SplitLemmas.{unique_parts}
use Rattle.hla_order_queues.proofs.UnderSeparators.KeptLemmas.{put_front, put_in_later, put_below, put_filled, none_in_front}
use Rattle.hla_order_queues.proofs.ordered.put.Goals as goal

pub insert-requires : goal.insert-requires
insert-requires c = (parts_of c.has_room.new.first (events_of c.has_room.new.later) (subst IsInOrder (sym c.has_room.ensures.same) c.requires.ordered)).front

pub insert-requires-else-is_after : goal.insert-requires-else-is_after
insert-requires-else-is_after c = (unique_parts c.has_room.new.first (events_of c.has_room.new.later) (subst IsUnique (sym c.has_room.ensures.same) c.requires.unique)).1

pub returns-then-is_after-clause-ok : goal.returns-then-is_after-clause-ok
returns-then-is_after-clause-ok c =
    put_front c.args.event c.has_room.new.first c.insert.new.self (events_of c.has_room.new.later) (c.args.first.now ++ events_of c.args.later.now) c.insert.result c.has_room.ensures.same (rw c.of-key.ensures at (c.is_after.ensures.events c.if-is_after.true)) c.insert.ensures.ok

pub returns-then-is_after-clause-below : goal.returns-then-is_after-clause-below
returns-then-is_after-clause-below c =
    put_below c.args.event c.has_room.new.first c.insert.new.self c.has_room.new.later c.insert.result c.insert.ensures.ok c.insert.ensures.unchanged (subst (λ (k : EventKey). AreAfter k c.has_room.new.later) c.of-key.ensures (c.is_after.ensures.after c.if-is_after.true)) c.has_room.ensures.below

pub returns-then-is_after-clause-filled : goal.returns-then-is_after-clause-filled
returns-then-is_after-clause-filled c =
    λ filled. put_filled c.args.event c.has_room.new.first c.insert.new.self (events_of c.has_room.new.later) c.insert.result c.insert.ensures.ok c.insert.ensures.unchanged (c.has_room.ensures.filled filled)

pub returns-else-is_after-clause-ok : goal.returns-else-is_after-clause-ok
returns-else-is_after-clause-ok c =
    put_in_later c.args.event c.has_room.new.first (events_of c.has_room.new.later) (events_of c.insert-else-is_after.new.self) (c.args.first.now ++ events_of c.args.later.now) c.insert-else-is_after.result c.has_room.ensures.same (none_in_front _ c.has_room.new.first c.has_room.new.later (rw c.of-key.ensures at (c.is_after.ensures.within c.if-is_after.false)) c.has_room.ensures.below) c.insert-else-is_after.ensures.ok

pub returns-else-is_after-clause-filled : goal.returns-else-is_after-clause-filled
returns-else-is_after-clause-filled c =
    λ filled none.
    let empty : length (events_of c.has_room.new.later) ≡ 0 = ap length (c.has_room.ensures.filled filled none) in
    let some : 0 < length (events_of c.has_room.new.later) = c.is_after.ensures.some c.if-is_after.false in
    absurd (omega arith)
