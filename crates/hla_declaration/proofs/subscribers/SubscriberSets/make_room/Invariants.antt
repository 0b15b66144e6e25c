use Rattle.std.proofs.Common.{◌≡◌, ℕ, ◌≤◌, length}
use Rattle.hla_declaration.specs.Entries.{entry_at}
use Rattle.hla_declaration.proofs.subscribers.SubscriberSets.make_room.Given as goal

-- nobody subscribes other classes, and there is room for those so far
abbrev pub invariant-loop-class : goal.invariant-loop-class
invariant-loop-class l =
    record {
      same : (class : ℕ) → entry_at 0 l.self-inside.sets.items class ≡ entry_at 0 l.fn.self class;
      room : length l.self-inside.sets.items ≡ l._class;
      kept : length l.fn.self ≤ length l.self-inside.sets.items;
    }
