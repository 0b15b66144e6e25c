-- Updates as their receivers are shown them
use Rattle.std.specs.Prelude.{◌≡◌, ℕ, List, [], ◌∷◌, Option, filter}
use Rattle.std.specs.Option.{option_map_or}
use Rattle.hla_base.specs.declared.content.Event.{Event}
use Rattle.hla_base.specs.declared.content.HandleValuePair.{HandleValuePair}
use Rattle.hla_catalogue.specs.Lookup.{contains_number}
use Rattle.hla_declaration.specs.declared.receiver.Receiver.{Receiver}
use Rattle.hla_null_message.specs.declared.message.Message.{Message}
use Rattle.hla_null_message.specs.declared.message.Message.TheVariants as message
use Rattle.hla_machine.specs.Directory.{reflection_of}
use Rattle.hla_federation.specs.declared.heading.Heading.{Heading}
use Rattle.hla_federation.specs.declared.reflecting.Made.{Made}
use Rattle.hla_federation.specs.Steps.Sending.{said_messages}

-- the message that carries an event, if there is one
abbrev pub event_messages : Option Event → List Message
event_messages e = option_map_or (λ (x : Event). message.Event x ∷ []) e []

-- the attributes that a receiver subscribes at its class
abbrev pub attributes_at : (ℕ → ℕ → Option (List ℕ)) → Receiver → List ℕ
attributes_at subscribed r = option_map_or (λ xs. xs) (subscribed r.federate r.class) []

-- what was made of an update for those who subscribe what a receiver does is what that one is shown
abbrev pub IsMade : (ℕ → ℕ → Option (List ℕ)) → Heading → ℕ → List HandleValuePair → Made → Type 0
IsMade subscribed head object values m = event_messages m.event ≡ said_messages head (reflection_of object (filter (λ (v : HandleValuePair). contains_number v.handle (attributes_at subscribed m.receiver)) values))
