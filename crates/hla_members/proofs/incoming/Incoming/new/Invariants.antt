use Rattle.std.proofs.Common.{◌≡◌, ◌<◌, ℕ, [], length, get_or}
use Rattle.hla_members.proofs.incoming.Incoming.new.Given as goal

-- one wire for each turn, with nothing on it
abbrev pub invariant-loop-made : goal.invariant-loop-made
invariant-loop-made l = record {
  many : length l.wires.items ≡ l._made;
  quiet : (k : ℕ) → k < l._made → (get_or l.wires.items k (record { messages = []; room = 0 })).messages ≡ [];
}
