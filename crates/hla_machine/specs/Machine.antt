-- The central machine: what a step may answer, and the state after it
use Rattle.std.specs.Prelude.{ℕ, ◌+◌, ◌-◌, ◌≡◌, ◌≤◌, ◌⊎◌, cond, Bool, true, false, Option, Some, None, option_map, List, [], ◌∷◌, ◌++◌, Any}
use Rattle.hla_base.specs.declared.number.EventHandle.{EventHandle}
use Rattle.hla_base.specs.declared.content.Content.{Content}
use Rattle.hla_base.specs.declared.content.Content.TheVariants as content
use Rattle.hla_base.specs.declared.content.Discovery.{Discovery}
use Rattle.hla_base.specs.declared.notice.Notice.{Notice}
use Rattle.hla_base.specs.declared.row.Role.TheVariants.{Disabled, Pending}
use Rattle.hla_base.specs.declared.row.AdvanceKind.{AdvanceKind}
use Rattle.hla_base.specs.declared.row.AdvanceKind.TheVariants as kind
use Rattle.hla_base.specs.Tables.{upd, upd2, upd_row, one_if}
use Rattle.hla_base.specs.Rows.{is_constrained, is_disabled, is_none_of, is_regulator, new_row, row_after_request, row_with_entry}
use Rattle.hla_catalogue.specs.Lookup.{object_class_named, interaction_class_named, attribute_named, parameter_named}
use Rattle.hla_callbacks.specs.declared.callback.Callback.{Callback}
use Rattle.hla_callbacks.specs.declared.callback.Callback.TheVariants as callback
use Rattle.hla_machine.specs.declared.service.Service.{Service}
use Rattle.hla_machine.specs.declared.service.Service.TheVariants as service
use Rattle.hla_machine.specs.declared.service.ResignAction.{ResignAction}
use Rattle.hla_machine.specs.declared.service.ResignAction.TheVariants.{ReleaseAttributes, DeleteObjects, DeleteObjectsAndReleaseAttributes, NoAction}
use Rattle.hla_machine.specs.declared.step.Step.{Step}
use Rattle.hla_machine.specs.declared.step.Step.TheVariants.{Join, Call, Carry, Announce, Tick}
use Rattle.hla_machine.specs.declared.step.Carried.{Carried}
use Rattle.hla_machine.specs.declared.step.Carried.TheVariants as carried
use Rattle.hla_machine.specs.declared.step.Answer.{Answer}
use Rattle.hla_machine.specs.declared.step.Answer.TheVariants as answer
use Rattle.hla_machine.specs.declared.step.Outcome.{Outcome}
use Rattle.hla_machine.specs.declared.step.Outcome.TheVariants as outcome
use Rattle.hla_machine.specs.declared.step.Choice.{Choice}
use Rattle.hla_machine.specs.declared.step.Choice.TheVariants as choice
use Rattle.hla_machine.specs.Directory.{Directory, Outgoing, name_or_default, objects_of, interaction_sent, update_sent, deletion_sent, deletions_sent, discoveries_of, with_discoveries_made, with_object_discovered, with_member, without_member, with_published, with_subscribed, with_published_interaction, with_subscribed_interaction, with_object, without_object, with_attribute_orders, with_interaction_order, with_point_registered, registration_notices, with_point_achieved, with_points_left, closing_notices, joining_notices}
use Rattle.hla_machine.specs.Central.{Central, Copy, Demoted, BelowAllTso, BelowOut, BelowBound, BelowSomeWake, low_entry, at_key, at3, demoted_copy}
use Rattle.hla_machine.specs.Sends.{after_messages, sent_handle, is_told, owed_to_receivers}
use Rattle.hla_machine.specs.Refusals.{Seen, refusal, is_known}
use Rattle.hla_machine.specs.Callbacks.{MayBeGiven, MayTick, after_pick, IsCopy, AreTso, is_among, with_central_row, with_demoted}
use Rattle.std.specs.Str.{bytes_eq}

abbrev pub central_seen : Central → Seen
central_seen c = record { directory = c.directory; row = c.row; serial = c.serial; sent = c.sent }

-- ---- what a service may answer
-- a newcomer's entry: at least its own time and lookahead and every bar, and above them at most some other's wake
abbrev pub MayEnter : Central → ℕ → ℕ → Choice → Type 0
MayEnter c f earliest (choice.Entry e) = let low = low_entry c.directory c.row earliest in (low ≤ e) × ((e ≤ low) ⊎ BelowSomeWake c f e)
MayEnter c f earliest choice = ⊥

abbrev pub MayCease : Central → ℕ → Choice → Type 0
MayCease c f (choice.Moved events) = AreTso c f (λ s. Unit {0}) events
MayCease c f choice = ⊥

-- Query LBTS: at most the bound, and for a constrained federate at least its bar
abbrev pub MayBound : Central → ℕ → ℕ → Type 0
MayBound c f v = BelowBound c f v × (is_constrained (c.row f) ≡ true → (c.row f).bar ≤ v)

-- what waits in receive order although it was sent in time-stamp order
abbrev pub BelowAllDemoted : Central → ℕ → ℕ → Type 0
BelowAllDemoted c f v = (g m : ℕ) (k : Copy) → c.bag g m f ≡ Some k → (c.sent g m).retracted ≡ false → k.order ≡ Demoted → v ≤ k.stamp

abbrev pub MayBeNext : Central → ℕ → ℕ → Type 0
MayBeNext c f v =
    BelowBound c f v × BelowAllTso c f v × (is_constrained (c.row f) ≡ false → BelowAllDemoted c f v) × (is_constrained (c.row f) ≡ true → (c.row f).time ≤ v)

abbrev pub IsHandle : Option ℕ → ℕ → Type 0
IsHandle found number = found ≡ Some number

-- the object of that name, which the federate knows
abbrev pub IsObjectNamed : Directory → ℕ → List ℕ → ℕ → Type 0
IsObjectNamed d f name h = (is_known d f h ≡ true) × (bytes_eq (d.object h).name name ≡ true)

abbrev pub send_answer : Central → ℕ → Option ℕ → List Outgoing → Option EventHandle
send_answer c f stamp outs = sent_handle f (c.row f) stamp (c.serial f) outs

abbrev pub MayAnswer : Central → ℕ → Service → Answer → Choice → Type 0
MayAnswer c f (service.RegisterObjectInstance class name) (answer.Registered object given) o =
    (object ≡ c.directory.next_object) × (given ≡ name_or_default c.directory.next_object name)
MayAnswer c f (service.UpdateAttributeValues object values stamp) (answer.Sent event) o = event ≡ send_answer c f stamp (update_sent c.directory object values)
MayAnswer c f (service.SendInteraction class values stamp) (answer.Sent event) o = event ≡ send_answer c f stamp (interaction_sent c.directory f class values)
MayAnswer c f (service.EnableTimeRegulation time lookahead) answer.Done o = MayEnter c f (time + lookahead) o
MayAnswer c f service.DisableTimeConstrained answer.Done o = MayCease c f o
MayAnswer c f service.QueryLbts (answer.Time v) o = MayBound c f v
MayAnswer c f service.QueryFederateTime (answer.Time v) o = v ≡ (c.row f).time
MayAnswer c f service.QueryMinNextEventTime (answer.Time v) o = MayBeNext c f v
MayAnswer c f service.QueryLookahead (answer.Time v) o = v ≡ (c.row f).lookahead
MayAnswer c f (service.GetObjectClassHandle name) (answer.Handle number) o = IsHandle (object_class_named c.directory.catalogue name) number
MayAnswer c f (service.GetInteractionClassHandle name) (answer.Handle number) o = IsHandle (interaction_class_named c.directory.catalogue name) number
MayAnswer c f (service.GetAttributeHandle name class) (answer.Handle number) o = IsHandle (attribute_named c.directory.catalogue class name) number
MayAnswer c f (service.GetParameterHandle name class) (answer.Handle number) o = IsHandle (parameter_named c.directory.catalogue class name) number
MayAnswer c f (service.GetObjectInstanceHandle name) (answer.Handle number) o = IsObjectNamed c.directory f name number
MayAnswer c f (service.GetObjectInstanceName object) (answer.Name name) o = name ≡ (c.directory.object object).name
MayAnswer c f (service.Resign way) answer.Done o = Unit {0}
MayAnswer c f (service.PublishObjectClass class attributes) answer.Done o = Unit {0}
MayAnswer c f (service.UnpublishObjectClass class) answer.Done o = Unit {0}
MayAnswer c f (service.SubscribeObjectClassAttributes class attributes) answer.Done o = Unit {0}
MayAnswer c f (service.UnsubscribeObjectClass class) answer.Done o = Unit {0}
MayAnswer c f (service.PublishInteractionClass class) answer.Done o = Unit {0}
MayAnswer c f (service.UnpublishInteractionClass class) answer.Done o = Unit {0}
MayAnswer c f (service.SubscribeInteractionClass class) answer.Done o = Unit {0}
MayAnswer c f (service.UnsubscribeInteractionClass class) answer.Done o = Unit {0}
MayAnswer c f (service.DeleteObjectInstance object stamp) answer.Done o = Unit {0}
MayAnswer c f (service.ChangeAttributeOrderType object attributes order) answer.Done o = Unit {0}
MayAnswer c f (service.ChangeInteractionOrderType class order) answer.Done o = Unit {0}
MayAnswer c f (service.Retract event) answer.Done o = Unit {0}
MayAnswer c f (service.RegisterFederationSynchronizationPoint label) answer.Done o = Unit {0}
MayAnswer c f (service.SynchronizationPointAchieved label) answer.Done o = Unit {0}
MayAnswer c f service.DisableTimeRegulation answer.Done o = Unit {0}
MayAnswer c f service.EnableTimeConstrained answer.Done o = Unit {0}
MayAnswer c f (service.TimeAdvanceRequest time) answer.Done o = Unit {0}
MayAnswer c f (service.TimeAdvanceRequestAvailable time) answer.Done o = Unit {0}
MayAnswer c f (service.NextEventRequest time) answer.Done o = Unit {0}
MayAnswer c f (service.NextEventRequestAvailable time) answer.Done o = Unit {0}
MayAnswer c f (service.FlushQueueRequest time) answer.Done o = Unit {0}
MayAnswer c f (service.ModifyLookahead lookahead) answer.Done o = Unit {0}
MayAnswer c f service.EnableAsynchronousDelivery answer.Done o = Unit {0}
MayAnswer c f service.DisableAsynchronousDelivery answer.Done o = Unit {0}
MayAnswer c f service answer o = ⊥

-- ---- what another step may answer
abbrev pub is_removal : Content → Bool
is_removal (content.Interaction class values) = false
is_removal (content.Reflection object values) = false
is_removal (content.Removal object) = true

-- a copy from g for f is under way or waits
abbrev pub IsCarriedCopy : Central → ℕ → ℕ → EventHandle → Bool → Type 0
IsCarriedCopy c g f e removal = (e.sender ≡ g) × ((k : Copy) × IsCopy c f e k × (is_removal k.content ≡ removal))

abbrev pub MayCarry : Central → ℕ → ℕ → Carried → Type 0
MayCarry c g f carried.Nothing = Unit {0}
MayCarry c g f (carried.Null bound) = Unit {0}
MayCarry c g f (carried.Event e) = IsCarriedCopy c g f e false
MayCarry c g f (carried.Removal e) = IsCarriedCopy c g f e true
MayCarry c g f (carried.Retraction e) = (e.sender ≡ g) × (1 ≤ c.owed g e.serial f)
MayCarry c g f (carried.Discovery object) = Any (λ (d : Discovery). d.object ≡ object) (c.discoveries g f)

-- a promise is at most what the regulator may still send, and at least its floor
abbrev pub MayAnnounce : Central → ℕ → Option ℕ → Type 0
MayAnnounce c f None = Unit {0}
MayAnnounce c f (Some v) = (is_regulator (c.row f) ≡ true) × BelowOut (BelowAllTso c f) (c.row f) v × ((c.row f).floor ≤ v)

abbrev pub MayDo : Central → Step → Answer → Choice → Type 0
MayDo c (Join name) (answer.Federate number) o = number ≡ c.directory.next_federate
MayDo c (Call f service) a o = MayAnswer c f service a o
MayDo c (Carry from to) (answer.Carried x) o = MayCarry c from to x
MayDo c (Announce f) (answer.Announced v) o = MayAnnounce c f v
MayDo c (Tick f) (answer.Ticked k) o = MayTick c f k o
MayDo c step a o = ⊥

-- a step may end so if it is refused with the fault that applies, or none applies and the machine may answer so
abbrev pub MayEnd : Central → Step → Outcome → Choice → Type 0
MayEnd c step (outcome.Done a) o = (refusal (central_seen c) step ≡ None) × MayDo c step a o
MayEnd c step (outcome.Refused e) o = refusal (central_seen c) step ≡ Some e
-- an ambassador that fails in a callback has picked it up all the same
MayEnd c (Tick f) (outcome.Failed k) o = (refusal (central_seen c) (Tick f) ≡ None) × MayBeGiven c f k o
MayEnd c step (outcome.Failed k) o = ⊥

-- ---- where something is chosen, and of which form
abbrev pub IsEntry : Choice → Type 0
IsEntry (choice.Entry e) = Unit {0}
IsEntry o = ⊥

-- no event is there twice
abbrev pub AreDistinct : List EventHandle → Type 0
AreDistinct [] = Unit {0}
AreDistinct (e ∷ es) = (is_among es e.sender e.serial ≡ false) × AreDistinct es

abbrev pub AreMoved : Choice → Type 0
AreMoved (choice.Moved events) = AreDistinct events
AreMoved o = ⊥

abbrev pub IsServiceChoice : Service → Choice → Type 0
IsServiceChoice (service.EnableTimeRegulation time lookahead) o = IsEntry o
IsServiceChoice service.DisableTimeConstrained o = AreMoved o
IsServiceChoice service o = o ≡ choice.None

abbrev pub IsCallbackChoice : Option Callback → Choice → Type 0
IsCallbackChoice (Some (callback.TimeConstrainedEnabled time)) o = AreMoved o
IsCallbackChoice k o = o ≡ choice.None

-- an entry where regulation is enabled, the events that are moved where a federate becomes constrained or ceases to be, else nothing
abbrev pub IsChoice : Step → Outcome → Choice → Type 0
IsChoice (Call f service) (outcome.Done a) o = IsServiceChoice service o
IsChoice (Tick f) (outcome.Done (answer.Ticked k)) o = IsCallbackChoice k o
IsChoice (Tick f) (outcome.Failed k) o = IsCallbackChoice (Some k) o
IsChoice step out o = o ≡ choice.None

-- a step is allowed if it may end so, and chooses just what is to be chosen
abbrev pub Allowed : Central → Step → Outcome → Choice → Type 0
Allowed c step out o = MayEnd c step out o × IsChoice step out o

-- ---- the state after a service
abbrev pub with_central_directory : Central → Directory → Central
with_central_directory c d = record c { directory = d }

abbrev pub after_request : Central → ℕ → AdvanceKind → ℕ → Central
after_request c f k a = with_central_row c f (row_after_request (c.row f) k a)

-- each federate is to be told more
abbrev pub with_told : Central → (ℕ → List Notice) → Central
with_told c more = record c { notices = λ g. c.notices g ++ more g }

-- each point closes that all who are joined have achieved, and they are to be told so
abbrev pub with_points_closed : Central → Central
with_points_closed c = with_told (with_central_directory c (with_points_left c.directory)) (closing_notices c.directory)

-- a federate leaves: what is for it goes, what it sent stays, and points that only it had not achieved close
abbrev pub after_leaving : Central → ℕ → Central
after_leaving c f = with_points_closed (record c {
  directory = without_member c.directory f;
  row = upd c.row f new_row;
  bag = λ g m. upd (c.bag g m) f None;
  discoveries = λ g. upd (c.discoveries g) f [];
  owed = λ g m. upd (c.owed g m) f 0;
  due = λ g m. upd (c.due g m) f 0;
  notices = upd c.notices f [];
})

-- its objects are deleted without a stamp, by rising number
abbrev pub after_resign : Central → ℕ → ResignAction → Central
after_resign c f DeleteObjects = after_leaving (after_messages c f None (deletions_sent (objects_of c.directory f))) f
after_resign c f NoAction = after_leaving c f
after_resign c f ReleaseAttributes = c
after_resign c f DeleteObjectsAndReleaseAttributes = c

-- f subscribes, and is to discover what fits now
abbrev pub after_subscribe : Central → ℕ → ℕ → Option (List ℕ) → Central
after_subscribe c f class attributes = let d = with_subscribed c.directory f class attributes in record c {
  directory = with_discoveries_made d f;
  discoveries = λ g. upd (c.discoveries g) f (c.discoveries g f ++ discoveries_of d g f);
}

abbrev pub after_register : Central → ℕ → ℕ → List ℕ → Central
after_register c f class name = let d = with_object c.directory f class name in record c {
  directory = with_object_discovered d c.directory.next_object;
  discoveries = upd_row c.discoveries c.directory.joined f (λ g ds. ds ++ discoveries_of d f g);
}

abbrev pub after_delete : Central → ℕ → ℕ → Option ℕ → Central
after_delete c f object stamp = let sent = after_messages c f stamp (deletion_sent c.directory object) in with_central_directory sent (without_object sent.directory object)

abbrev pub after_retract : Central → ℕ → ℕ → Central
after_retract c f m = record c {
  sent = upd2 c.sent f m (record (c.sent f m) { retracted = true });
  owed = owed_to_receivers c.owed f m (is_told c.directory f (c.sent f m));
}

abbrev pub after_enter : Central → ℕ → ℕ → Choice → Central
after_enter c f lookahead (choice.Entry e) = with_central_row c f (row_with_entry (c.row f) lookahead e)
after_enter c f lookahead o = c

abbrev pub after_cease : Central → ℕ → Choice → Central
after_cease c f (choice.Moved events) = record c { row = upd c.row f (record (c.row f) { constrained = Disabled }); bag = with_demoted c.bag f events }
after_cease c f o = c

-- synchronization points
abbrev pub after_register_point : Central → ℕ → List ℕ → Central
after_register_point c f label = with_told (with_central_directory c (with_point_registered c.directory label)) (registration_notices c.directory f label)

abbrev pub after_achieve : Central → ℕ → List ℕ → Central
after_achieve c f label = with_points_closed (with_central_directory c (with_point_achieved c.directory f label))

abbrev pub after_call : Central → ℕ → Service → Choice → Central
after_call c f (service.Resign way) o = after_resign c f way
after_call c f (service.PublishObjectClass class attributes) o = with_central_directory c (with_published c.directory f class (Some attributes))
after_call c f (service.UnpublishObjectClass class) o = with_central_directory c (with_published c.directory f class None)
after_call c f (service.SubscribeObjectClassAttributes class attributes) o = after_subscribe c f class (Some attributes)
after_call c f (service.UnsubscribeObjectClass class) o = with_central_directory c (with_subscribed c.directory f class None)
after_call c f (service.PublishInteractionClass class) o = with_central_directory c (with_published_interaction c.directory f class true)
after_call c f (service.UnpublishInteractionClass class) o = with_central_directory c (with_published_interaction c.directory f class false)
after_call c f (service.SubscribeInteractionClass class) o = with_central_directory c (with_subscribed_interaction c.directory f class true)
after_call c f (service.UnsubscribeInteractionClass class) o = with_central_directory c (with_subscribed_interaction c.directory f class false)
after_call c f (service.RegisterObjectInstance class name) o = after_register c f class (name_or_default c.directory.next_object name)
after_call c f (service.UpdateAttributeValues object values stamp) o = after_messages c f stamp (update_sent c.directory object values)
after_call c f (service.SendInteraction class values stamp) o = after_messages c f stamp (interaction_sent c.directory f class values)
after_call c f (service.DeleteObjectInstance object stamp) o = after_delete c f object stamp
after_call c f (service.ChangeAttributeOrderType object attributes order) o = with_central_directory c (with_attribute_orders c.directory object attributes order)
after_call c f (service.ChangeInteractionOrderType class order) o = with_central_directory c (with_interaction_order c.directory f class order)
after_call c f (service.Retract event) o = after_retract c f event.serial
after_call c f (service.RegisterFederationSynchronizationPoint label) o = after_register_point c f label
after_call c f (service.SynchronizationPointAchieved label) o = after_achieve c f label
after_call c f (service.EnableTimeRegulation time lookahead) o = after_enter c f lookahead o
after_call c f service.DisableTimeRegulation o = with_central_row c f (record (c.row f) { regulating = Disabled })
after_call c f service.EnableTimeConstrained o = with_central_row c f (record (c.row f) { constrained = Pending })
after_call c f service.DisableTimeConstrained o = after_cease c f o
after_call c f (service.TimeAdvanceRequest time) o = after_request c f kind.TimeAdvance time
after_call c f (service.TimeAdvanceRequestAvailable time) o = after_request c f kind.TimeAdvanceAvailable time
after_call c f (service.NextEventRequest time) o = after_request c f kind.NextEvent time
after_call c f (service.NextEventRequestAvailable time) o = after_request c f kind.NextEventAvailable time
after_call c f (service.FlushQueueRequest time) o = after_request c f kind.FlushQueue time
after_call c f (service.ModifyLookahead lookahead) o = with_central_row c f (record (c.row f) { lookahead = lookahead })
after_call c f service.EnableAsynchronousDelivery o = with_central_row c f (record (c.row f) { asynchronous = true })
after_call c f service.DisableAsynchronousDelivery o = with_central_row c f (record (c.row f) { asynchronous = false })
after_call c f service o = c

-- ---- the state after another step
-- what arrives while the receiver is not constrained will be given in receive order
abbrev pub after_arrival : Central → ℕ → ℕ → ℕ → Central
after_arrival c g f m = record c { bag = cond (is_disabled (c.row f).constrained) (at_key c.bag g m f (option_map demoted_copy (c.bag g m f))) c.bag }

-- a retraction takes back the copy, or asks the federate that has picked it up
abbrev pub after_retraction_arrival : Central → ℕ → ℕ → ℕ → Central
after_retraction_arrival c g f m = record c {
  owed = at3 c.owed g m f (c.owed g m f - 1);
  bag = at_key c.bag g m f None;
  due = at3 c.due g m f (c.due g m f + one_if (is_none_of (c.bag g m f)));
}

abbrev pub after_carry : Central → ℕ → ℕ → Carried → Central
after_carry c g f (carried.Event e) = after_arrival c g f e.serial
after_carry c g f (carried.Removal e) = after_arrival c g f e.serial
after_carry c g f (carried.Retraction e) = after_retraction_arrival c g f e.serial
after_carry c g f x = c

-- a federate joins, and is to be told of each open point
abbrev pub after_join : Central → List ℕ → Central
after_join c name = let n = c.directory.next_federate in
    with_told (record c { directory = with_member c.directory name; row = upd c.row n new_row }) (joining_notices c.directory)

abbrev pub after_done : Central → Step → Answer → Choice → Central
after_done c (Join name) a o = after_join c name
after_done c (Call f service) a o = after_call c f service o
after_done c (Carry from to) (answer.Carried x) o = after_carry c from to x
after_done c (Tick f) (answer.Ticked (Some k)) o = after_pick c f k o
after_done c step a o = c

abbrev pub after : Central → Step → Outcome → Choice → Central
after c step (outcome.Done a) o = after_done c step a o
after c (Tick f) (outcome.Failed k) o = after_pick c f k o
after c step out o = c
