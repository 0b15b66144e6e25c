-- How much the wires to members take without more memory
use Rattle.std.specs.Prelude.{ℕ, List, [], map}
use Rattle.hla_null_message.specs.declared.message.Message.{Message}
use Rattle.hla_null_message.specs.Wires.{WireValue}
use Rattle.hla_execution.specs.MemberValue.{MemberValue, item}

-- the wires to one member, by sender, counted from 1
pub record IncomingValue : Type 0 where
  pub wires : List (List Message)
  pub rooms : List ℕ  -- how many more messages each takes without more memory

abbrev pub incoming_of : List WireValue → IncomingValue
incoming_of wires = record { wires = map (λ (w : WireValue). w.messages) wires; rooms = map (λ (w : WireValue). w.room) wires }

-- a member, and the room on the wires to it
pub record RoomyMember : Type 0 where
  pub shown : MemberValue
  pub rooms : List ℕ

-- all of them, by number, counted from 1
pub record RoomyMembers : Type 0 where
  pub shown : List MemberValue
  pub rooms : List (List ℕ)
  pub spare : ℕ  -- how many more members there are without more memory

abbrev pub roomy_members : List RoomyMember → ℕ → RoomyMembers
roomy_members members spare = record { shown = map (λ (m : RoomyMember). m.shown) members; rooms = map (λ (m : RoomyMember). m.rooms) members; spare = spare }

-- how many more messages a wire takes without more memory
abbrev pub room_in : List (List ℕ) → ℕ → ℕ → ℕ
room_in rooms g h = item 0 (item [] rooms h) g
