-- What a component makes of a message that comes
use Rattle.std.specs.Prelude.{ℕ, ◌≡◌, cond, not, ◌&&◌, Bool, true, false, None, IsSome, List, [], ◌∷◌, ◌++◌}
use Rattle.hla_base.specs.declared.content.Event.{Event}
use Rattle.hla_base.specs.declared.row.TimeRow.{TimeRow}
use Rattle.hla_base.specs.Tables.{upd, or_else}
use Rattle.hla_base.specs.Rows.{is_disabled, is_none_of}
use Rattle.hla_lbts.specs.Peers.{PeersValue, null_bound}
use Rattle.hla_null_message.specs.declared.message.Message.{Message}
use Rattle.hla_null_message.specs.declared.message.Message.TheVariants as message
use Rattle.hla_component_rules.specs.declared.control.Control.{Control}
use Rattle.hla_component_rules.specs.declared.control.Control.TheVariants.{ToDiscover, ToRetract}
use Rattle.hla_component_rules.specs.Queues.{insert_event, remove_event, find_event}
use Rattle.hla_component_rules.specs.LocalValue.{LocalValue}

-- is the event kept in key order
abbrev pub is_kept_in_order : TimeRow → Event → Bool
is_kept_in_order r e = e.ordered && not (is_disabled r.constrained)

-- the two queues with an event
abbrev pub tso_with_event : TimeRow → Event → List Event → List Event
tso_with_event r e tso = cond (is_kept_in_order r e) (insert_event e tso) tso

abbrev pub ro_with_event : TimeRow → Event → List Event → List Event
ro_with_event r e ro = cond (is_kept_in_order r e) ro (ro ++ e ∷ [])

-- a retraction removes the event that waits, and else asks the federate to take it back
abbrev pub controls_with_retraction : ℕ → ℕ → List Event → List Event → List Control → List Control
controls_with_retraction g m tso ro controls = cond (is_none_of (or_else (find_event g m tso) (find_event g m ro)))
    (controls ++ ToRetract (record { sender = g; serial = m }) ∷ []) controls

-- what is known of the peers after a null message from g
abbrev pub peers_with_null : ℕ → ℕ → ℕ → PeersValue → PeersValue
peers_with_null g epoch value p = record p { bound = upd p.bound g (null_bound (p.known_epoch g) (p.bound g) epoch value) }

-- and after any message from g
abbrev pub peers_accepting : ℕ → Message → PeersValue → PeersValue
peers_accepting g (message.Null epoch value) p = peers_with_null g epoch value p
peers_accepting g m p = p

-- the component after a message from g came, but for its peers
abbrev pub local_accepting : ℕ → Message → LocalValue → LocalValue
local_accepting g (message.Event e) l = record l { tso = tso_with_event l.row e l.tso; ro = ro_with_event l.row e l.ro }
local_accepting g (message.Null epoch value) l = l
local_accepting g (message.Retraction m) l = record l { tso = remove_event g m l.tso; ro = remove_event g m l.ro; controls = controls_with_retraction g m l.tso l.ro l.controls }
local_accepting g (message.Discovery d) l = record l { controls = l.controls ++ ToDiscover g d ∷ [] }

-- an event comes once, and none waits in both queues
abbrev pub MayCome : ℕ → Message → LocalValue → Type 0
MayCome g (message.Event e) l = find_event e.sender e.serial l.tso ≡ None
MayCome g (message.Null epoch value) l = Unit {0}
MayCome g (message.Retraction m) l = IsSome (find_event g m l.tso) → find_event g m l.ro ≡ None
MayCome g (message.Discovery d) l = Unit {0}

-- what a component keeps of a message that comes takes memory, but of a null message it keeps a number
abbrev pub message_takes_memory : Message → Bool
message_takes_memory (message.Null epoch value) = false
message_takes_memory m = true
