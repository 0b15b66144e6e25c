-- The discoveries of a new object, and to whom it becomes known
use Rattle.std.specs.Prelude.{ℕ, ◌<◌, ◌≤◌, Bool, true, List, [], ◌∷◌}
use Rattle.std.specs.List.{All}
use Rattle.hla_base.specs.Limits.{max_joins}
use Rattle.hla_base.specs.Tables.{upd2}
use Rattle.hla_declaration.specs.declared.receiver.Receiver.{Receiver}
use Rattle.hla_null_message.specs.declared.message.Message.{Message}
use Rattle.hla_null_message.specs.declared.message.Message.TheVariants as message

-- numbers that federates may have
pub record IsFederate (r : Receiver) : Type 0 where
  pub some : 0 < r.federate
  pub within : r.federate ≤ max_joins

abbrev pub AreFederates : List Receiver → Type 0
AreFederates receivers = All IsFederate receivers

-- what a receiver is to discover
abbrev pub discovery_to : ℕ → List ℕ → Receiver → List Message
discovery_to object name r = message.Discovery (record { object = object; class = r.class; name = name }) ∷ []

-- the object is known to each of the receivers
abbrev pub with_known_among : List Receiver → ℕ → (ℕ → ℕ → Bool) → ℕ → ℕ → Bool
with_known_among [] object known = known
with_known_among (r ∷ rs) object known = with_known_among rs object (upd2 known object r.federate true)
