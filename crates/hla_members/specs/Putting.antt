-- Events that are put on wires, and are taken back where memory runs out before all of them are there
use Rattle.std.specs.Prelude.{ℕ, ◌+◌, ◌-◌, cond, eqb, Bool, List, [], ◌∷◌, ◌++◌, length, take, slice_set}
use Rattle.hla_null_message.specs.declared.message.Message.{Message}
use Rattle.hla_execution.specs.MemberValue.{MemberValue, item}

-- the wires to one member, the one from f without its last message
abbrev pub without_last : ℕ → List (List Message) → List (List Message)
without_last f wires = slice_set wires (f - 1) (take (length (item [] wires f) - 1) (item [] wires f))

abbrev pub member_without_last : ℕ → MemberValue → MemberValue
member_without_last f m = record m { incoming = without_last f m.incoming }

-- the members, by number from one on: those that were told something by f without the last message from it
unfoldable pub taken_back_from : ℕ → ℕ → (ℕ → Bool) → List MemberValue → List MemberValue
taken_back_from n f told [] = []
taken_back_from n f told (m ∷ ms) = cond (told n) (member_without_last f m) m ∷ taken_back_from (n + 1) f told ms

abbrev pub taken_back : ℕ → (ℕ → Bool) → List MemberValue → List MemberValue
taken_back f told members = taken_back_from 1 f told members

-- the wires from f with messages behind the others
abbrev pub wires_with : ℕ → (ℕ → List Message) → (ℕ → ℕ → List Message) → ℕ → ℕ → List Message
wires_with f messages wire = λ g h. cond (eqb f g) (wire g h ++ messages h) (wire g h)
