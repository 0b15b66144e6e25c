-- The messages of services, by receiver
use Rattle.std.specs.Prelude.{ℕ, ◌+◌, ◌≡◌, ◌&&◌, cond, eqb, ltb, Bool, None, Option, Some, is_some, option_map, unwrap_or, List, [], ◌∷◌, ◌++◌}
use Rattle.std.specs.List.{list_any}
use Rattle.hla_base.specs.declared.content.Content.{Content}
use Rattle.hla_base.specs.declared.content.Event.{Event}
use Rattle.hla_base.specs.declared.content.HandleValuePair.{HandleValuePair}
use Rattle.hla_base.specs.declared.number.EventHandle.{EventHandle}
use Rattle.hla_base.specs.declared.row.TimeRow.{TimeRow}
use Rattle.hla_base.specs.Tables.{forever, is_other, when}
use Rattle.hla_base.specs.Rows.{is_enabled, is_regulator}
use Rattle.hla_components.specs.Components.{Components}
use Rattle.hla_components.specs.Component.{promise}
use Rattle.hla_declaration.specs.declared.receiver.Receiver.{Receiver}
use Rattle.hla_catalogue.specs.declared.declared.Order.{Order}
use Rattle.hla_catalogue.specs.declared.declared.Order.TheVariants.{Timestamp}
use Rattle.hla_null_message.specs.declared.message.Message.{Message}
use Rattle.hla_null_message.specs.declared.message.Message.TheVariants as message
use Rattle.hla_machine.specs.Directory.{Directory, Outgoing, Body, AnUpdate, content_for, is_of_order}
use Rattle.hla_machine.specs.Refusals.{is_bad_stamp}
use Rattle.hla_machine.specs.Sends.{is_told}
use Rattle.hla_federation.specs.declared.heading.Heading.{Heading}
use Rattle.hla_members.specs.declared.note.Note.{Note}
use Rattle.hla_base.specs.FederateSets.{federate_set}
use Rattle.hla_execution.specs.MemberValue.{item, MemberValue, members_of}
use Rattle.hla_members.specs.Putting.{taken_back, wires_with}
use Rattle.hla_federation.specs.FederationValue.{FederationValue}

-- the stamp with which a message goes in time-stamp order: its order says so, its sender regulates and gave one
abbrev pub order_stamp : TimeRow → Order → Option ℕ → Option ℕ
order_stamp r order stamp = when (is_of_order Timestamp order && is_enabled r.regulating) stamp

-- what heads a message of f that has this order
abbrev pub heading_of : ℕ → ℕ → TimeRow → Option ℕ → Order → Heading
heading_of f serial r stamp order = record { sender = f; serial = serial; stamp = order_stamp r order stamp }

-- the event that says something under a heading, and its message
abbrev pub said_under : Heading → Content → Event
said_under head x = record { sender = head.sender; serial = head.serial; ordered = is_some head.stamp; stamp = unwrap_or head.stamp 0; content = x }

abbrev pub event_under : Heading → Content → Message
event_under head x = message.Event (said_under head x)

-- if anything is said
abbrev pub said_messages : Heading → Option Content → List Message
said_messages head None = []
said_messages head (Some x) = event_under head x ∷ []

-- what one message puts on the wire to a federate
abbrev pub message_to : Directory → Heading → Body → ℕ → List Message
message_to d head body h = cond (is_other d.joined head.sender h) (said_messages head (content_for d body h)) []

-- what a part of an update does, where it has values
abbrev pub part_to : Directory → Heading → ℕ → List HandleValuePair → ℕ → List Message
part_to d head object [] h = []
part_to d head object (v ∷ vs) h = message_to d head (AnUpdate object (v ∷ vs)) h

-- and what all messages of a service do
abbrev pub messages_to : Directory → ℕ → ℕ → TimeRow → Option ℕ → List Outgoing → ℕ → List Message
messages_to d f serial r stamp [] h = []
messages_to d f serial r stamp (out ∷ outs) h = message_to d (heading_of f serial r stamp out.order) out.body h ++ messages_to d f (serial + 1) r stamp outs h

-- the answer whether a stamp is bad, for messages of which some has time-stamp order or none has
abbrev pub TellsBadStamp : TimeRow → Option ℕ → Bool → Bool → Type 0
TellsBadStamp r stamp is_stamped answer = (outs : List Outgoing) → list_any (λ (out : Outgoing). is_of_order Timestamp out.order) outs ≡ is_stamped → is_bad_stamp r stamp outs ≡ answer

-- what is noted of a message that may be retracted, by its receivers: of one in receive order nothing is
abbrev pub note_under : Heading → ℕ → Option Note
note_under head receivers = option_map (λ (t : ℕ). record { serial = head.serial; stamp = t; receivers = receivers }) head.stamp

-- the handle by which its sender may retract it: one in receive order has none
abbrev pub handle_under : Heading → Option EventHandle
handle_under head = option_map (λ (t : ℕ). record { sender = head.sender; serial = head.serial }) head.stamp

-- an outbox that has had messages added, by receiver
abbrev pub HasAdded : (ℕ → List Message) → List (List Message) → List (List Message) → Type 0
HasAdded added old new = (h : ℕ) → item [] new h ≡ item [] old h ++ added h

-- a federation whose wires from f have these messages behind the others
abbrev pub HasSent : ℕ → (ℕ → List Message) → FederationValue → FederationValue → Type 0
HasSent f messages old new = (new ≡ record old { members = new.members }) × (members_of new.members ≡ record (members_of old.members) { wire = wires_with f messages (members_of old.members).wire })

-- what is taken back of a part of an update from f, by who was told it, if there is such a part
abbrev pub part_taken_back : ℕ → Option ℕ → List MemberValue → List MemberValue
part_taken_back f None members = members
part_taken_back f (Some told) members = taken_back f (federate_set told) members

-- the message to one receiver
abbrev pub only_to : ℕ → (ℕ → List Message) → ℕ → List Message
only_to peer messages h = cond (eqb peer h) (messages peer) []

-- the messages that are made for receivers
abbrev pub messages_among : (Receiver → List Message) → List Receiver → ℕ → List Message
messages_among made [] h = []
messages_among made (r ∷ rs) h = cond (eqb r.federate h) (made r) [] ++ messages_among made rs h

-- ---- null messages
-- what an announcement puts on the wire to a federate
abbrev pub null_to : Directory → ℕ → ℕ → ℕ → ℕ → List Message
null_to d f epoch bound h = cond (is_other d.joined f h) (message.Null epoch bound ∷ []) []

-- and what a regulator that resigns announces last
abbrev pub last_null_to : Components → ℕ → ℕ → List Message
last_null_to s f h = cond (is_regulator (s.row f)) (null_to s.directory f (s.epoch f) forever h) []

-- what a federate announces now, if it is anything
abbrev pub announcement : Components → ℕ → Option ℕ
announcement s f = cond (is_regulator (s.row f) && ltb (s.last_announced f) (promise s f)) (Some (promise s f)) None

-- ---- retractions
-- what a retraction puts on the wire to a federate
abbrev pub retraction_to : Components → ℕ → ℕ → ℕ → List Message
retraction_to s f m h = cond (is_told s.directory f (s.sent f m) h) (message.Retraction m ∷ []) []
