-- The components' next-state function: what each step answers and chooses, and the state after it
use Rattle.std.specs.Prelude.{ℕ, ◌+◌, min, cond, ltb, not, ◌&&◌, true, false, Option, Some, None, List, [], ◌∷◌, ◌++◌, unwrap_or, filter, find, map}
use Rattle.std.specs.Str.{bytes_eq}
use Rattle.hla_base.specs.declared.fault.Fault.{Fault}
use Rattle.hla_base.specs.declared.content.Content.{Content}
use Rattle.hla_base.specs.declared.content.Content.TheVariants as content
use Rattle.hla_base.specs.declared.content.Event.{Event}
use Rattle.hla_base.specs.declared.content.Discovery.{Discovery}
use Rattle.hla_base.specs.declared.number.EventHandle.{EventHandle}
use Rattle.hla_base.specs.declared.notice.Notice.{Notice}
use Rattle.hla_base.specs.declared.notice.NoticeKind.{NoticeKind}
use Rattle.hla_base.specs.declared.notice.NoticeKind.TheVariants as notices
use Rattle.hla_base.specs.declared.row.Role.TheVariants.{Disabled, Pending}
use Rattle.hla_base.specs.declared.row.AdvanceKind.{AdvanceKind}
use Rattle.hla_base.specs.declared.row.AdvanceKind.TheVariants as kind
use Rattle.hla_base.specs.declared.row.TimeRow.{TimeRow}
use Rattle.hla_null_message.specs.declared.message.Message.{Message}
use Rattle.hla_null_message.specs.declared.message.Message.TheVariants as message
use Rattle.hla_null_message.specs.Wires.{put_behind}
use Rattle.hla_base.specs.Tables.{forever, upd, upd2, upd_row, upd_column, upd_new, upd_whole_column, numbers_below}
use Rattle.hla_base.specs.Rows.{is_regulator, row_after_request, row_with_entry, row_after_regulation_enabled, row_after_constraint_enabled, row_after_pick, row_after_grant, new_row}
use Rattle.hla_lbts.specs.Peers.{null_bound}
use Rattle.hla_catalogue.specs.Lookup.{object_class_named, interaction_class_named, attribute_named, parameter_named}
use Rattle.hla_retraction.specs.SentEvents.{SentEvent}
use Rattle.hla_synchronization.specs.Points.{points_after_notice}
use Rattle.hla_callbacks.specs.declared.callback.Callback.{Callback}
use Rattle.hla_callbacks.specs.declared.callback.Callback.TheVariants as callback
use Rattle.hla_callbacks.specs.declared.callback.Delivery.{Delivery}
use Rattle.hla_callbacks.specs.declared.callback.Delivery.TheVariants as delivery
use Rattle.hla_machine.specs.declared.service.Service.{Service}
use Rattle.hla_machine.specs.declared.service.Service.TheVariants as service
use Rattle.hla_machine.specs.declared.service.ResignAction.{ResignAction}
use Rattle.hla_machine.specs.declared.service.ResignAction.TheVariants.{ReleaseAttributes, DeleteObjects, DeleteObjectsAndReleaseAttributes, NoAction}
use Rattle.hla_machine.specs.declared.step.Step.{Step}
use Rattle.hla_machine.specs.declared.step.Step.TheVariants.{Join, Call, Carry, Announce, Tick}
use Rattle.hla_machine.specs.declared.step.Carried.{Carried}
use Rattle.hla_machine.specs.declared.step.Carried.TheVariants as carried
use Rattle.hla_machine.specs.declared.step.Answer.{Answer}
use Rattle.hla_machine.specs.declared.step.Answer.TheVariants as answer
use Rattle.hla_machine.specs.declared.step.Outcome.{Outcome}
use Rattle.hla_machine.specs.declared.step.Outcome.TheVariants as outcome
use Rattle.hla_machine.specs.declared.step.Choice.{Choice}
use Rattle.hla_machine.specs.declared.step.Choice.TheVariants as choice
use Rattle.hla_machine.specs.Directory.{Directory, Outgoing, name_or_default, objects_of, interaction_sent, update_sent, deletion_sent, deletions_sent, content_for, discoveries_of, with_discoveries_made, with_object_discovered, with_member, without_member, with_published, with_subscribed, with_published_interaction, with_subscribed_interaction, with_object, without_object, with_attribute_orders, with_interaction_order, with_points, with_point_registered, registration_notices, with_point_achieved, with_points_left, closing_notices, joining_notices}
use Rattle.hla_machine.specs.Sends.{is_ordered, kept_stamp, sent_event, sent_handle, is_told}
use Rattle.hla_machine.specs.Refusals.{Seen, refusal, is_known}
use Rattle.hla_machine.specs.Machine.{is_removal}
use Rattle.hla_component_rules.specs.declared.control.Control.{Control}
use Rattle.hla_component_rules.specs.declared.control.Control.TheVariants.{ToDiscover, ToRetract, ToTell}
use Rattle.hla_component_rules.specs.Queues.{remove_event, handle_of, handles_of}
use Rattle.hla_components.specs.Components.{Components}
use Rattle.hla_components.specs.Component.{local_bound, promise, regulation_entry}
use Rattle.hla_component_rules.specs.Promising.{least_waiting}
use Rattle.hla_component_rules.specs.Arriving.{tso_with_event, ro_with_event, controls_with_retraction}
use Rattle.hla_component_rules.specs.Picking.{is_below, Pick, NoPick, PickControl, PickRo, PickRegulates, PickConstrains, PickTso, PickGrant, pick}

pub record Outcomes : Type 0 where
  pub outcome : Outcome
  pub choice : Choice
  pub state : Components

abbrev pub chosen_outcome : Answer → Choice → Components → Outcomes
chosen_outcome a o s = record { outcome = outcome.Done a; choice = o; state = s }

abbrev pub answer_outcome : Answer → Components → Outcomes
answer_outcome a s = chosen_outcome a choice.None s

abbrev pub done_outcome : Components → Outcomes
done_outcome s = answer_outcome answer.Done s

abbrev pub with_row : Components → ℕ → TimeRow → Components
with_row s f r = record s { row = upd s.row f r }

abbrev pub with_directory : Components → Directory → Components
with_directory s d = record s { directory = d }

-- ---- sending
abbrev pub event_of : ℕ → ℕ → TimeRow → Option ℕ → Outgoing → Content → Event
event_of g m r stamp out x = record { sender = g; serial = m; ordered = is_ordered r stamp out; stamp = kept_stamp r stamp out; content = x }

abbrev pub put_event : ℕ → ℕ → TimeRow → Option ℕ → Outgoing → Option Content → List Message → List Message
put_event g m r stamp out None ms = ms
put_event g m r stamp out (Some x) ms = put_behind (message.Event (event_of g m r stamp out x)) ms

-- one message, to each other federate to which it says something
abbrev pub with_message_sent : Components → ℕ → Option ℕ → Outgoing → Components
with_message_sent s f stamp out = record s {
  serial = upd s.serial f (s.serial f + 1);
  wire = upd_row s.wire s.directory.joined f (λ g. put_event f (s.serial f) (s.row f) stamp out (content_for s.directory out.body g));
  sent = upd2 s.sent f (s.serial f) (sent_event s.directory (s.row f) f stamp out);
}

abbrev pub with_messages_sent : Components → ℕ → Option ℕ → List Outgoing → Components
with_messages_sent s f stamp [] = s
with_messages_sent s f stamp (out ∷ outs) = with_messages_sent (with_message_sent s f stamp out) f stamp outs

abbrev pub send_outcome : Components → ℕ → Option ℕ → List Outgoing → Outcomes
send_outcome s f stamp outs = answer_outcome (answer.Sent (sent_handle f (s.row f) stamp (s.serial f) outs)) (with_messages_sent s f stamp outs)

abbrev pub with_object_deleted : Components → ℕ → ℕ → Option ℕ → Components
with_object_deleted s f h stamp = let t = with_messages_sent s f stamp (deletion_sent s.directory h) in with_directory t (without_object t.directory h)

-- ---- discoveries
abbrev pub put_discoveries : List Discovery → List Message → List Message
put_discoveries ds ms = ms ++ map message.Discovery ds

-- f is to discover what fits its subscriptions now, each object on the wire from its owner
abbrev pub with_class_subscribed : Components → ℕ → Directory → Components
with_class_subscribed s f d = record s {
  directory = with_discoveries_made d f;
  wire = λ g. upd (s.wire g) f (put_discoveries (discoveries_of d g f) (s.wire g f));
}

abbrev pub with_object_registered : Components → ℕ → ℕ → Directory → Components
with_object_registered s f h d = record s {
  directory = with_object_discovered d h;
  wire = upd_row s.wire s.directory.joined f (λ g. put_discoveries (discoveries_of d f g));
}

-- ---- null messages: one that is put behind another of its epoch takes the place of that one
abbrev pub with_null_announced : Components → ℕ → ℕ → Components
with_null_announced s f v = record s { last_announced = upd s.last_announced f v; wire = upd_row s.wire s.directory.joined f (λ _. put_behind (message.Null (s.epoch f) v)) }

-- a new epoch begins, and the peers learn of it at once
abbrev pub with_regulation_enabled : Components → ℕ → ℕ → ℕ → Components
with_regulation_enabled s f lookahead e = record s {
  row = upd s.row f (row_with_entry (s.row f) lookahead e);
  last_announced = upd s.last_announced f e;
  epoch = upd s.epoch f (s.epoch f + 1);
  bound = upd_column s.bound s.directory.joined f (λ b. min b e);
  known_epoch = upd_column s.known_epoch s.directory.joined f (λ _. s.epoch f + 1);
  wire = upd_row s.wire s.directory.joined f (λ _. put_behind (message.Null (s.epoch f + 1) e));
}

-- a regulator that stops puts FOREVER on its wires
abbrev pub with_regulation_disabled : Components → ℕ → Components
with_regulation_disabled s f = with_null_announced (with_row s f (record (s.row f) { regulating = Disabled })) f forever

-- ---- synchronization points: what there is to be told of them waits with the controls, at once
abbrev pub with_notices : Components → (ℕ → List Notice) → Components
with_notices s more = record s { controls = λ g. s.controls g ++ map ToTell (more g) }

abbrev pub with_point_opened : Components → ℕ → List ℕ → Components
with_point_opened s f label = with_notices (with_directory s (with_point_registered s.directory label)) (registration_notices s.directory f label)

abbrev pub with_complete_closed : Components → Components
with_complete_closed s = with_notices (with_directory s (with_points_left s.directory)) (closing_notices s.directory)

-- ---- joining and resigning
-- a federate that joins takes over what each peer announced last, and is to be told of each open point
abbrev pub with_federate_joined : Components → List ℕ → Components
with_federate_joined s name = let n = s.directory.next_federate in with_notices (record s {
  directory = with_member s.directory name;
  row = upd s.row n new_row;
  wire = upd_new s.wire n (λ _. []) (λ _. []);
  bound = upd_new s.bound n s.last_announced (λ _. forever);
  known_epoch = upd_new s.known_epoch n s.epoch (λ _. s.epoch n);
}) (joining_notices s.directory)

abbrev pub with_last_null : Components → ℕ → List Message → List Message
with_last_null s f ms = cond (is_regulator (s.row f)) (put_behind (message.Null (s.epoch f) forever) ms) ms

-- a regulator that leaves announces FOREVER; what lies on wires to it is dropped, and points that only it had not achieved close
abbrev pub with_federate_gone : Components → ℕ → Components
with_federate_gone s f = with_complete_closed (record s {
  directory = without_member s.directory f;
  row = upd s.row f new_row;
  last_announced = upd s.last_announced f forever;
  tso = upd s.tso f [];
  ro = upd s.ro f [];
  controls = upd s.controls f [];
  wire = upd_whole_column (upd_row s.wire s.directory.joined f (λ _. with_last_null s f)) f [];
})

abbrev pub with_federate_resigned : Components → ℕ → ResignAction → Components
with_federate_resigned s f DeleteObjects = with_federate_gone (with_messages_sent s f None (deletions_sent (objects_of s.directory f))) f
with_federate_resigned s f NoAction = with_federate_gone s f
with_federate_resigned s f ReleaseAttributes = s
with_federate_resigned s f DeleteObjectsAndReleaseAttributes = s

-- ---- retraction
abbrev pub put_retraction : Directory → ℕ → SentEvent → ℕ → ℕ → List Message → List Message
put_retraction d g e m f ms = cond (is_told d g e f) (put_behind (message.Retraction m) ms) ms

abbrev pub with_event_retracted : Components → ℕ → ℕ → Components
with_event_retracted s f m = record s {
  sent = upd2 s.sent f m (record (s.sent f m) { retracted = true });
  wire = upd_row s.wire s.directory.joined f (put_retraction s.directory f (s.sent f m) m);
}

-- ---- services
abbrev pub request_outcome : Components → ℕ → AdvanceKind → ℕ → Outcomes
request_outcome s f k a = done_outcome (with_row s f (row_after_request (s.row f) k a))

abbrev pub handle_outcome : Option ℕ → Components → Outcomes
handle_outcome found s = answer_outcome (answer.Handle (unwrap_or found 0)) s

-- the object of that name that the federate knows
abbrev pub known_object_named : Directory → ℕ → List ℕ → Option ℕ
known_object_named d f name = find (λ h. is_known d f h && bytes_eq (d.object h).name name) (numbers_below d.next_object)

-- all events in stamp order go to the end of the receive-order queue
abbrev pub unconstrain_outcome : Components → ℕ → Outcomes
unconstrain_outcome s f = chosen_outcome answer.Done (choice.Moved (handles_of (s.tso f)))
    (record s { row = upd s.row f (record (s.row f) { constrained = Disabled }); tso = upd s.tso f []; ro = upd s.ro f (s.ro f ++ s.tso f) })

abbrev pub call_outcome : Components → ℕ → Service → Outcomes
call_outcome s f (service.Resign way) = done_outcome (with_federate_resigned s f way)
call_outcome s f (service.PublishObjectClass class attributes) = done_outcome (with_directory s (with_published s.directory f class (Some attributes)))
call_outcome s f (service.UnpublishObjectClass class) = done_outcome (with_directory s (with_published s.directory f class None))
call_outcome s f (service.SubscribeObjectClassAttributes class attributes) = done_outcome (with_class_subscribed s f (with_subscribed s.directory f class (Some attributes)))
call_outcome s f (service.UnsubscribeObjectClass class) = done_outcome (with_directory s (with_subscribed s.directory f class None))
call_outcome s f (service.PublishInteractionClass class) = done_outcome (with_directory s (with_published_interaction s.directory f class true))
call_outcome s f (service.UnpublishInteractionClass class) = done_outcome (with_directory s (with_published_interaction s.directory f class false))
call_outcome s f (service.SubscribeInteractionClass class) = done_outcome (with_directory s (with_subscribed_interaction s.directory f class true))
call_outcome s f (service.UnsubscribeInteractionClass class) = done_outcome (with_directory s (with_subscribed_interaction s.directory f class false))
call_outcome s f (service.RegisterObjectInstance class name) = let h = s.directory.next_object in let chosen = name_or_default h name in
    answer_outcome (answer.Registered h chosen) (with_object_registered s f h (with_object s.directory f class chosen))
call_outcome s f (service.UpdateAttributeValues object values stamp) = send_outcome s f stamp (update_sent s.directory object values)
call_outcome s f (service.SendInteraction class values stamp) = send_outcome s f stamp (interaction_sent s.directory f class values)
call_outcome s f (service.DeleteObjectInstance object stamp) = done_outcome (with_object_deleted s f object stamp)
call_outcome s f (service.ChangeAttributeOrderType object attributes order) = done_outcome (with_directory s (with_attribute_orders s.directory object attributes order))
call_outcome s f (service.ChangeInteractionOrderType class order) = done_outcome (with_directory s (with_interaction_order s.directory f class order))
call_outcome s f (service.Retract event) = done_outcome (with_event_retracted s f event.serial)
call_outcome s f (service.RegisterFederationSynchronizationPoint label) = done_outcome (with_point_opened s f label)
call_outcome s f (service.SynchronizationPointAchieved label) = done_outcome (with_complete_closed (with_directory s (with_point_achieved s.directory f label)))
call_outcome s f (service.EnableTimeRegulation time lookahead) = let e = regulation_entry s f (time + lookahead) in chosen_outcome answer.Done (choice.Entry e) (with_regulation_enabled s f lookahead e)
call_outcome s f service.DisableTimeRegulation = done_outcome (with_regulation_disabled s f)
call_outcome s f service.EnableTimeConstrained = done_outcome (with_row s f (record (s.row f) { constrained = Pending }))
call_outcome s f service.DisableTimeConstrained = unconstrain_outcome s f
call_outcome s f (service.TimeAdvanceRequest time) = request_outcome s f kind.TimeAdvance time
call_outcome s f (service.TimeAdvanceRequestAvailable time) = request_outcome s f kind.TimeAdvanceAvailable time
call_outcome s f (service.NextEventRequest time) = request_outcome s f kind.NextEvent time
call_outcome s f (service.NextEventRequestAvailable time) = request_outcome s f kind.NextEventAvailable time
call_outcome s f (service.FlushQueueRequest time) = request_outcome s f kind.FlushQueue time
call_outcome s f (service.ModifyLookahead lookahead) = done_outcome (with_row s f (record (s.row f) { lookahead = lookahead }))
call_outcome s f service.EnableAsynchronousDelivery = done_outcome (with_row s f (record (s.row f) { asynchronous = true }))
call_outcome s f service.DisableAsynchronousDelivery = done_outcome (with_row s f (record (s.row f) { asynchronous = false }))
call_outcome s f service.QueryLbts = answer_outcome (answer.Time (local_bound s f)) s
call_outcome s f service.QueryFederateTime = answer_outcome (answer.Time (s.row f).time) s
call_outcome s f service.QueryMinNextEventTime = answer_outcome (answer.Time (least_waiting (s.row f) (s.tso f) (s.ro f) (local_bound s f))) s
call_outcome s f service.QueryLookahead = answer_outcome (answer.Time (s.row f).lookahead) s
call_outcome s f (service.GetObjectClassHandle name) = handle_outcome (object_class_named s.directory.catalogue name) s
call_outcome s f (service.GetInteractionClassHandle name) = handle_outcome (interaction_class_named s.directory.catalogue name) s
call_outcome s f (service.GetAttributeHandle name class) = handle_outcome (attribute_named s.directory.catalogue class name) s
call_outcome s f (service.GetParameterHandle name class) = handle_outcome (parameter_named s.directory.catalogue class name) s
call_outcome s f (service.GetObjectInstanceHandle name) = handle_outcome (known_object_named s.directory f name) s
call_outcome s f (service.GetObjectInstanceName object) = answer_outcome (answer.Name (s.directory.object object).name) s

-- ---- what arrives
abbrev pub with_wire : Components → ℕ → ℕ → List Message → Components
with_wire s g f ms = record s { wire = upd2 s.wire g f ms }

abbrev pub with_null_accepted : Components → ℕ → ℕ → ℕ → ℕ → List Message → Components
with_null_accepted s g f k v ms = record (with_wire s g f ms) { bound = upd2 s.bound f g (null_bound (s.known_epoch f g) (s.bound f g) k v) }

abbrev pub with_event_accepted : Components → ℕ → ℕ → Event → List Message → Components
with_event_accepted s g f e ms = record (with_wire s g f ms) {
  tso = upd s.tso f (tso_with_event (s.row f) e (s.tso f));
  ro = upd s.ro f (ro_with_event (s.row f) e (s.ro f));
}

abbrev pub with_discovery_accepted : Components → ℕ → ℕ → Discovery → List Message → Components
with_discovery_accepted s g f d ms = record (with_wire s g f ms) { controls = upd s.controls f (s.controls f ++ ToDiscover g d ∷ []) }

-- a retraction removes the event that waits, and else asks the federate to take it back
abbrev pub with_retraction_accepted : Components → ℕ → ℕ → ℕ → List Message → Components
with_retraction_accepted s g f m ms = record (with_wire s g f ms) {
  tso = upd s.tso f (remove_event g m (s.tso f));
  ro = upd s.ro f (remove_event g m (s.ro f));
  controls = upd s.controls f (controls_with_retraction g m (s.tso f) (s.ro f) (s.controls f));
}

abbrev pub carried_event : Event → Carried
carried_event e = cond (is_removal e.content) (carried.Removal (handle_of e)) (carried.Event (handle_of e))

abbrev pub carry_answer : Carried → Components → Outcomes
carry_answer x s = answer_outcome (answer.Carried x) s

abbrev pub carry_outcome : Components → ℕ → ℕ → List Message → Outcomes
carry_outcome s g f [] = carry_answer carried.Nothing s
carry_outcome s g f (message.Null k v ∷ ms) = carry_answer (carried.Null v) (with_null_accepted s g f k v ms)
carry_outcome s g f (message.Retraction m ∷ ms) = carry_answer (carried.Retraction (record { sender = g; serial = m })) (with_retraction_accepted s g f m ms)
carry_outcome s g f (message.Discovery d ∷ ms) = carry_answer (carried.Discovery d.object) (with_discovery_accepted s g f d ms)
carry_outcome s g f (message.Event e ∷ ms) = carry_answer (carried_event e) (with_event_accepted s g f e ms)

-- ---- ticks
abbrev pub content_callback : Delivery → EventHandle → Content → Callback
content_callback d h (content.Interaction class values) = callback.ReceiveInteraction class values h d
content_callback d h (content.Reflection object values) = callback.ReflectAttributeValues object values h d
content_callback d h (content.Removal object) = callback.RemoveObjectInstance object h d

abbrev pub event_callback : Delivery → Event → Callback
event_callback d e = content_callback d (handle_of e) e.content

abbrev pub delivery_of : Event → Delivery
delivery_of e = cond e.ordered (delivery.Demoted e.stamp) delivery.Receive

abbrev pub callback_outcome : Callback → Components → Outcomes
callback_outcome k s = answer_outcome (answer.Ticked (Some k)) s

-- what waits in stamp order below the federate's time is given in receive order from now on
abbrev pub constrain_outcome : Components → ℕ → Outcomes
constrain_outcome s f = let early = filter (is_below (s.row f).time) (s.tso f) in
    chosen_outcome (answer.Ticked (Some (callback.TimeConstrainedEnabled (s.row f).time))) (choice.Moved (handles_of early))
    (record s { row = upd s.row f (row_after_constraint_enabled (s.row f)); tso = upd s.tso f (filter (λ e. not (is_below (s.row f).time e)) (s.tso f)); ro = upd s.ro f (s.ro f ++ early) })

abbrev pub notice_callback : NoticeKind → List ℕ → Callback
notice_callback notices.RegistrationSucceeded label = callback.SynchronizationPointRegistrationSucceeded label
notice_callback notices.RegistrationFailed label = callback.SynchronizationPointRegistrationFailed label
notice_callback notices.Announced label = callback.AnnounceSynchronizationPoint label
notice_callback notices.Synchronized label = callback.FederationSynchronized label

abbrev pub control_outcome : Components → ℕ → Control → List Control → Outcomes
control_outcome s f (ToDiscover from d) rest = callback_outcome (callback.DiscoverObjectInstance d.object d.class d.name) (record s { controls = upd s.controls f rest })
control_outcome s f (ToRetract e) rest = callback_outcome (callback.RequestRetraction e) (record s { controls = upd s.controls f rest })
control_outcome s f (ToTell n) rest = callback_outcome (notice_callback n.kind n.label)
    (record s { directory = with_points s.directory (points_after_notice f n s.directory.points); controls = upd s.controls f rest })

abbrev pub pick_outcome : Components → ℕ → Pick → Outcomes
pick_outcome s f NoPick = answer_outcome (answer.Ticked None) s
pick_outcome s f (PickControl k rest) = control_outcome s f k rest
pick_outcome s f (PickRo e rest) = callback_outcome (event_callback (delivery_of e) e) (record s { ro = upd s.ro f rest })
pick_outcome s f PickRegulates = callback_outcome (callback.TimeRegulationEnabled (s.row f).regulation_time) (with_row s f (row_after_regulation_enabled (s.row f)))
pick_outcome s f PickConstrains = constrain_outcome s f
pick_outcome s f (PickTso q e rest) = callback_outcome (event_callback (delivery.TimeStamp e.stamp) e) (record s { row = upd s.row f (row_after_pick (s.row f) q e.stamp); tso = upd s.tso f rest })
pick_outcome s f (PickGrant q t) = callback_outcome (callback.TimeAdvanceGrant t) (with_row s f (row_after_grant (s.row f) q t))

abbrev pub tick_outcome : Components → ℕ → Outcomes
tick_outcome s f = pick_outcome s f (pick (s.controls f) (s.row f) (s.ro f) (s.tso f) (local_bound s f))

-- ---- any step
abbrev pub announce_outcome : Components → ℕ → Outcomes
announce_outcome s f = cond (is_regulator (s.row f) && ltb (s.last_announced f) (promise s f))
    (answer_outcome (answer.Announced (Some (promise s f))) (with_null_announced s f (promise s f))) (answer_outcome (answer.Announced None) s)

abbrev pub components_seen : Components → Seen
components_seen s = record { directory = s.directory; row = s.row; serial = s.serial; sent = s.sent }

abbrev pub step_outcome : Components → Step → Outcomes
step_outcome s (Join name) = answer_outcome (answer.Federate s.directory.next_federate) (with_federate_joined s name)
step_outcome s (Call f service) = call_outcome s f service
step_outcome s (Carry from to) = carry_outcome s from to (s.wire from to)
step_outcome s (Announce f) = announce_outcome s f
step_outcome s (Tick f) = tick_outcome s f

abbrev pub unless_refused : Option Fault → Components → Outcomes → Outcomes
unless_refused None s o = o
unless_refused (Some e) s o = record { outcome = outcome.Refused e; choice = choice.None; state = s }

abbrev pub next : Components → Step → Outcomes
next s step = unless_refused (refusal (components_seen s) step) s (step_outcome s step)
