-- What is done with the members of a federation and their wires
use Rattle.std.specs.Prelude.{ℕ, ◌+◌, ◌≡◌, ◌<◌, ◌≤◌, cond, eqb, ltb, not, ◌&&◌, Bool, true, false, List, [], ◌∷◌, ◌++◌, length, drop}
use Rattle.hla_base.specs.Tables.{upd, upd2, upd_row, upd_whole_column, is_other}
use Rattle.hla_lbts.specs.declared.row.PeerRow.{PeerRow}
use Rattle.hla_lbts.specs.Peers.{peers_of}
use Rattle.hla_null_message.specs.declared.message.Message.{Message}
use Rattle.hla_null_message.specs.declared.message.Message.TheVariants as message
use Rattle.hla_null_message.specs.Wires.{put_behind, put_all_behind}
use Rattle.hla_machine.specs.declared.step.Carried.{Carried}
use Rattle.hla_machine.specs.declared.step.Carried.TheVariants as carried
use Rattle.hla_component_rules.specs.LocalValue.{LocalValue, new_local, resigned_local}
use Rattle.hla_component_rules.specs.Arriving.{MayCome, message_takes_memory, local_accepting, peers_accepting}
use Rattle.hla_components.specs.Locals.{carried_by}
use Rattle.hla_execution.specs.MemberValue.{MemberValue, MemberTables, item}
use Rattle.hla_members.specs.declared.direction.Direction.{Direction}
use Rattle.hla_members.specs.declared.direction.Direction.TheVariants.{From, To}
use Rattle.hla_members.specs.Wiring.{is_along, peer_along}
use Rattle.hla_members.specs.Rooms.{room_in}

-- ---- one member
-- nothing is on these wires
abbrev pub AreQuiet : List (List Message) → Type 0
AreQuiet wires = (g : ℕ) → item [] wires g ≡ []

-- a federate that has just joined, and one that has resigned
abbrev pub new_member : List ℕ → List PeerRow → List (List Message) → MemberValue
new_member name peers incoming = record { name = name; joined = true; next_serial = 1; local = new_local peers; sent = []; incoming = incoming }

abbrev pub resigned_member : MemberValue → List (List Message) → MemberValue
resigned_member m incoming = record m { joined = false; local = resigned_local m.local; incoming = incoming }

-- ---- the first message on a wire from g
abbrev pub carried_of : ℕ → List Message → Carried
carried_of g [] = carried.Nothing
carried_of g (m ∷ ms) = carried_by g m

-- it may come to this component
abbrev pub MayArrive : ℕ → List Message → LocalValue → Type 0
MayArrive g [] l = Unit {0}
MayArrive g (m ∷ ms) l = MayCome g m l

-- and what the component is after it came
abbrev pub HasAccepted : ℕ → List Message → LocalValue → LocalValue → Type 0
HasAccepted g [] old new = new ≡ old
HasAccepted g (m ∷ ms) old new = (new ≡ record (local_accepting g m old) { peers = new.peers }) × (peers_of new.peers ≡ peers_accepting g m (peers_of old.peers))

-- whether its coming takes memory
abbrev pub arrival_takes_memory : List Message → Bool
arrival_takes_memory [] = false
arrival_takes_memory (m ∷ ms) = message_takes_memory m

-- is f below the end and counted from 1
abbrev pub is_number : ℕ → ℕ → Bool
is_number end f = not (eqb f 0) && ltb f end

-- ---- messages along the wires from one federate, or to one
-- the wires after the messages for the peers below a number were put
abbrev pub wires_posted_below : Direction → (ℕ → List Message) → ℕ → (ℕ → ℕ → List Message) → ℕ → ℕ → List Message
wires_posted_below along messages end wire = λ g h. cond (is_along along g h && is_number end (peer_along along g h)) (put_all_behind (messages (peer_along along g h)) (wire g h)) (wire g h)

-- there is room for the messages for the peers from a number to another
abbrev pub HasRoom : Direction → (ℕ → List Message) → ℕ → ℕ → List (List ℕ) → Type 0
HasRoom along messages start end rooms =
    (g h : ℕ) → is_along along g h ≡ true → start ≤ peer_along along g h → peer_along along g h < end → length (messages (peer_along along g h)) ≤ room_in rooms g h

-- each wire along has less room by no more than the messages for the peer at its end
abbrev pub IsLessRoom : Direction → (ℕ → List Message) → List (List ℕ) → List (List ℕ) → Type 0
IsLessRoom along messages old new =
    (g h : ℕ) → is_along along g h ≡ true → room_in old g h ≤ room_in new g h + length (messages (peer_along along g h))

-- the one end of the wires is a federate that has joined
abbrev pub IsEnd : Direction → ℕ → Type 0
IsEnd (From f) next = (0 < f) × (f < next)
IsEnd (To f) next = (0 < f) × (f < next)

-- ---- joining, resigning, arriving, picking up
abbrev pub with_member_admitted : MemberTables → List ℕ → LocalValue → MemberTables
with_member_admitted m name local = record m {
  next_federate = m.next_federate + 1;
  joined = upd m.joined m.next_federate true;
  name = upd m.name m.next_federate name;
  local = upd m.local m.next_federate local;
}

abbrev pub with_member_withdrawn : MemberTables → ℕ → MemberTables
with_member_withdrawn m f = record m { joined = upd m.joined f false; local = upd m.local f (resigned_local (m.local f)); wire = upd_whole_column m.wire f [] }

-- the first message on the wire from g to f has come, and f's component is another
abbrev pub with_arrival : ℕ → ℕ → LocalValue → MemberTables → MemberTables
with_arrival g f local m = record m { local = upd m.local f local; wire = upd2 m.wire g f (drop 1 (m.wire g f)) }

abbrev pub with_component : MemberTables → ℕ → LocalValue → MemberTables
with_component m f local = record m { local = upd m.local f local }

-- a null message from f lies at the end of its wires, in the place of one of its epoch that was there
abbrev pub with_null_sent : MemberTables → ℕ → ℕ → ℕ → MemberTables
with_null_sent m f epoch bound = record m { wire = upd_row m.wire m.joined f (λ _. put_behind (message.Null epoch bound)) }

-- the wires on which it lies there already, where the peers below a number were sent it
abbrev pub nulls_below : MemberTables → ℕ → ℕ → ℕ → ℕ → ℕ → ℕ → List Message
nulls_below m f epoch bound end = upd_row m.wire (λ h. m.joined h && ltb h end) f (λ _. put_behind (message.Null epoch bound))

-- there is room for one message to each other joined federate from a number to another
abbrev pub HasRoomForOthers : (ℕ → Bool) → ℕ → ℕ → ℕ → List (List ℕ) → Type 0
HasRoomForOthers joined f start end rooms = (h : ℕ) → start ≤ h → h < end → is_other joined f h ≡ true → 0 < room_in rooms f h

-- and so does a retraction, on the wire to each other one that is joined and was sent the message
abbrev pub with_retraction_sent : MemberTables → ℕ → ℕ → MemberTables
with_retraction_sent m f k = record m { wire = upd_row m.wire m.joined f (λ h ms. cond (is_other m.joined f h && (m.sent f k).receivers h) (ms ++ message.Retraction k ∷ []) ms) }
