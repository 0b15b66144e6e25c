-- Wires from one federate to each other one, or to one from each other one
use Rattle.std.specs.Prelude.{ℕ, eqb, Bool}
use Rattle.hla_members.specs.declared.direction.Direction.{Direction}
use Rattle.hla_members.specs.declared.direction.Direction.TheVariants.{From, To}

abbrev pub source : Direction → ℕ → ℕ
source (From f) peer = f
source (To f) peer = peer

abbrev pub target : Direction → ℕ → ℕ
target (From f) peer = peer
target (To f) peer = f

-- is the wire from g to h one of them
abbrev pub is_along : Direction → ℕ → ℕ → Bool
is_along (From f) g h = eqb f g
is_along (To f) g h = eqb f h

-- and who is at its other end
abbrev pub peer_along : Direction → ℕ → ℕ → ℕ
peer_along (From f) g h = h
peer_along (To f) g h = g
