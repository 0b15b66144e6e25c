use Rattle.std.proofs.Common.{◌≡◌, ◌<◌, ℕ, [], length, get_or}
use Rattle.hla_members.proofs.incoming.Incoming.clear.Given as goal

-- nothing is on the wires so far
abbrev pub invariant-loop-k : goal.invariant-loop-k
invariant-loop-k l = record {
  many : length l.self-inside.wires.items ≡ length l.initial.self-inside.wires.items;
  quiet : (j : ℕ) → j < l.k → (get_or l.self-inside.wires.items j (record { messages = []; room = 0 })).messages ≡ [];
}
