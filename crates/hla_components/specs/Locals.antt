-- One federate's component as a value of its own: what a tick and a message do to the state is what they do to that value
use Rattle.std.specs.Prelude.{ℕ, ◌+◌, ◌≡◌, ◌≤◌, Option, None, Some, List, ◌∷◌, filter}
use Rattle.hla_base.specs.Limits.{max_joins}
use Rattle.hla_base.specs.Tables.{forever, upd, upd2}
use Rattle.hla_lbts.specs.declared.row.PeerRow.{PeerRow}
use Rattle.hla_lbts.specs.Peers.{peers_of}
use Rattle.hla_null_message.specs.declared.message.Message.{Message}
use Rattle.hla_null_message.specs.declared.message.Message.TheVariants as message
use Rattle.hla_component_rules.specs.declared.control.Control.TheVariants.{ToDiscover, ToRetract, ToTell}
use Rattle.hla_component_rules.specs.Queues.{handles_of}
use Rattle.hla_component_rules.specs.LocalValue.{LocalValue}
use Rattle.hla_component_rules.specs.declared.picked.Picked.{Picked}
use Rattle.hla_component_rules.specs.declared.picked.Picked.TheVariants as picked
use Rattle.hla_component_rules.specs.Picking.{Pick, PickConstrains, is_below, picked_by, local_pick, local_picking}
use Rattle.hla_component_rules.specs.Arriving.{MayCome, local_accepting, peers_accepting}
use Rattle.hla_callbacks.specs.declared.callback.Callback.{Callback}
use Rattle.hla_callbacks.specs.declared.callback.Callback.TheVariants as callback
use Rattle.hla_callbacks.specs.declared.callback.Delivery.TheVariants as delivery
use Rattle.hla_machine.specs.declared.step.Answer.TheVariants as answer
use Rattle.hla_machine.specs.declared.step.Carried.{Carried}
use Rattle.hla_machine.specs.declared.step.Carried.TheVariants as carried
use Rattle.hla_machine.specs.declared.step.Choice.{Choice}
use Rattle.hla_machine.specs.declared.step.Choice.TheVariants as choice
use Rattle.hla_machine.specs.Directory.{with_points}
use Rattle.hla_synchronization.specs.Points.{Point, points_after_notice}
use Rattle.hla_components.specs.Components.{Components}
use Rattle.hla_components.specs.Invariant.{Inv}
use Rattle.hla_components.specs.Next.{answer_outcome, chosen_outcome, carry_outcome, tick_outcome, carried_event, event_callback, delivery_of, notice_callback}

-- the component of f, with rows that say what it knows of its peers
abbrev pub local_of : Components → ℕ → List PeerRow → LocalValue
local_of s f peers = record { row = s.row f; peers = peers; ro = s.ro f; tso = s.tso f; controls = s.controls f; last_announced = s.last_announced f; epoch = s.epoch f }

-- the rows say what the tables say, and nothing of those who have never joined
pub record KnowsPeers (s : Components) (f : ℕ) (peers : List PeerRow) : Type 0 where
  pub tables : peers_of peers ≡ record { bound = s.bound f; known_epoch = s.known_epoch f }
  pub few : s.directory.next_federate ≤ max_joins + 1
  pub unmet : (g : ℕ) → s.directory.next_federate ≤ g → s.bound f g ≡ forever

-- the state with another component of f
abbrev pub with_local : Components → ℕ → LocalValue → Components
with_local s f l = record s {
  row = upd s.row f l.row;
  ro = upd s.ro f l.ro;
  tso = upd s.tso f l.tso;
  controls = upd s.controls f l.controls;
  bound = upd s.bound f (peers_of l.peers).bound;
  known_epoch = upd s.known_epoch f (peers_of l.peers).known_epoch;
  last_announced = upd s.last_announced f l.last_announced;
  epoch = upd s.epoch f l.epoch;
}

-- ---- a tick
-- the callback of what was picked up
abbrev pub callback_given : Picked → Option Callback
callback_given picked.Nothing = None
callback_given (picked.Control (ToDiscover from d)) = Some (callback.DiscoverObjectInstance d.object d.class d.name)
callback_given (picked.Control (ToRetract e)) = Some (callback.RequestRetraction e)
callback_given (picked.Control (ToTell n)) = Some (notice_callback n.kind n.label)
callback_given (picked.Received e) = Some (event_callback (delivery_of e) e)
callback_given (picked.Regulation t) = Some (callback.TimeRegulationEnabled t)
callback_given (picked.Constraint t) = Some (callback.TimeConstrainedEnabled t)
callback_given (picked.Ordered e) = Some (event_callback (delivery.TimeStamp e.stamp) e)
callback_given (picked.Grant t) = Some (callback.TimeAdvanceGrant t)

-- what is chosen with it: where the federate is constrained from now on, the events that move
abbrev pub choice_given : LocalValue → Pick → Choice
choice_given l PickConstrains = choice.Moved (handles_of (filter (is_below l.row.time) l.tso))
choice_given l p = choice.None

-- and who was told of a synchronization point, where that is what was picked up
abbrev pub points_given : ℕ → Picked → List Point → List Point
points_given f (picked.Control (ToTell n)) points = points_after_notice f n points
points_given f p points = points

-- what a tick answers, chooses and changes is what the federate's component alone picks up, and that it was told of a point
abbrev pub EachTickIsLocal : Type 0
EachTickIsLocal = (s : Components) (f : ℕ) (peers : List PeerRow) → KnowsPeers s f peers → let l = local_of s f peers in
    tick_outcome s f ≡ chosen_outcome (answer.Ticked (callback_given (picked_by l.row (local_pick l)))) (choice_given l (local_pick l))
    (record (with_local s f (local_picking l (local_pick l))) { directory = with_points s.directory (points_given f (picked_by l.row (local_pick l)) s.directory.points) })

-- ---- a message that comes
-- what is said of one from g
abbrev pub carried_by : ℕ → Message → Carried
carried_by g (message.Event e) = carried_event e
carried_by g (message.Null epoch value) = carried.Null value
carried_by g (message.Retraction m) = carried.Retraction (record { sender = g; serial = m })
carried_by g (message.Discovery d) = carried.Discovery d.object

-- the message leaves its wire, and its receiver's component alone accepts it
abbrev pub EachArrivalIsLocal : Type 0
EachArrivalIsLocal = (s : Components) (g f : ℕ) (peers after : List PeerRow) (m : Message) (ms : List Message) → KnowsPeers s f peers → peers_of after ≡ peers_accepting g m (peers_of peers) →
    carry_outcome s g f (m ∷ ms) ≡ answer_outcome (answer.Carried (carried_by g m)) (record (with_local s f (record (local_accepting g m (local_of s f peers)) { peers = after })) { wire = upd2 s.wire g f ms })

-- and it is one that may come
abbrev pub EachMessageMayCome : Type 0
EachMessageMayCome = (s : Components) (g f : ℕ) (peers : List PeerRow) (m : Message) (ms : List Message) → Inv s → s.wire g f ≡ m ∷ ms → MayCome g m (local_of s f peers)
