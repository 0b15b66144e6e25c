-- What crosses of a callback and of what a carry took, as plain data
use Rattle.std.specs.Prelude.{ℕ, Option, None, Some, List, [], length}
use Rattle.hla_base.specs.declared.content.HandleValuePair.{HandleValuePair}
use Rattle.hla_base.specs.declared.number.EventHandle.{EventHandle}
use Rattle.hla_callbacks.specs.declared.callback.Delivery.{Delivery}
use Rattle.hla_callbacks.specs.declared.callback.Delivery.TheVariants as delivery
use Rattle.hla_callbacks.specs.declared.callback.Callback.{Callback}
use Rattle.hla_callbacks.specs.declared.callback.Callback.TheVariants as callback
use Rattle.hla_machine.specs.declared.step.Carried.{Carried}
use Rattle.hla_machine.specs.declared.step.Carried.TheVariants as carried
use Rattle.hla_plain.specs.declared.data.CallbackData.{CallbackData}
use Rattle.hla_plain.specs.declared.data.CarriedData.{CarriedData}
use Rattle.hla_plain.specs.declared.data.EventData.{EventData}
use Rattle.hla_plain.specs.Values.{bytes_in, counted}

-- a callback of which nothing more is told than its kind
abbrev pub of_kind : ℕ → CallbackData
of_kind kind = record { kind = kind; object = 0; class = 0; delivery = 0; sender = 0; serial = 0; stamp = 0; time = 0; values = 0; bytes = 0 }

-- a time
abbrev pub of_time : ℕ → ℕ → CallbackData
of_time kind time = record { kind = kind; object = 0; class = 0; delivery = 0; sender = 0; serial = 0; stamp = 0; time = time; values = 0; bytes = 0 }

-- a label of this many bytes
abbrev pub of_label : ℕ → ℕ → CallbackData
of_label kind bytes = record { kind = kind; object = 0; class = 0; delivery = 0; sender = 0; serial = 0; stamp = 0; time = 0; values = 0; bytes = bytes }

abbrev pub delivery_code : Delivery → ℕ
delivery_code delivery.Receive = 0
delivery_code (delivery.Demoted stamp) = 1
delivery_code (delivery.TimeStamp stamp) = 2

abbrev pub stamp_told : Delivery → ℕ
stamp_told delivery.Receive = 0
stamp_told (delivery.Demoted stamp) = stamp
stamp_told (delivery.TimeStamp stamp) = stamp

-- a message, of an object or of a class, with this many values and bytes
abbrev pub of_message : ℕ → ℕ → ℕ → EventHandle → Delivery → ℕ → ℕ → CallbackData
of_message kind object class event way values bytes = record { kind = kind; object = object; class = class; delivery = delivery_code way; sender = event.sender; serial = event.serial; stamp = stamp_told way; time = 0; values = values; bytes = bytes }

abbrev pub told_data : Callback → CallbackData
told_data (callback.DiscoverObjectInstance object class name) = record { kind = 1; object = object; class = class; delivery = 0; sender = 0; serial = 0; stamp = 0; time = 0; values = 0; bytes = length name }
told_data (callback.ReflectAttributeValues object values event way) = of_message 2 object 0 event way (length values) (counted (length (bytes_in values)))
told_data (callback.ReceiveInteraction class values event way) = of_message 3 0 class event way (length values) (counted (length (bytes_in values)))
told_data (callback.RemoveObjectInstance object event way) = of_message 4 object 0 event way 0 0
told_data (callback.TimeRegulationEnabled time) = of_time 5 time
told_data (callback.TimeConstrainedEnabled time) = of_time 6 time
told_data (callback.TimeAdvanceGrant time) = of_time 7 time
told_data (callback.RequestRetraction event) = of_message 8 0 0 event delivery.Receive 0 0
told_data (callback.SynchronizationPointRegistrationSucceeded label) = of_label 9 (length label)
told_data (callback.SynchronizationPointRegistrationFailed label) = of_label 10 (length label)
told_data (callback.AnnounceSynchronizationPoint label) = of_label 11 (length label)
told_data (callback.FederationSynchronized label) = of_label 12 (length label)

-- what a tick gave
abbrev pub callback_data : Option Callback → CallbackData
callback_data (Some k) = told_data k
callback_data None = of_kind 0

abbrev pub of_carried : ℕ → ℕ → ℕ → ℕ → ℕ → CarriedData
of_carried kind sender serial bound object = record { kind = kind; sender = sender; serial = serial; bound = bound; object = object }

-- what a carry took
abbrev pub carried_data : Carried → CarriedData
carried_data carried.Nothing = of_carried 0 0 0 0 0
carried_data (carried.Null bound) = of_carried 1 0 0 bound 0
carried_data (carried.Event event) = of_carried 2 event.sender event.serial 0 0
carried_data (carried.Removal event) = of_carried 3 event.sender event.serial 0 0
carried_data (carried.Retraction event) = of_carried 4 event.sender event.serial 0 0
carried_data (carried.Discovery object) = of_carried 5 0 0 0 object

-- a message in time-stamp order, if there is one
abbrev pub event_data : Option EventHandle → EventData
event_data (Some event) = record { sender = event.sender; serial = event.serial }
event_data None = record { sender = 0; serial = 0 }

-- the name or the label that is told
abbrev pub callback_name : Option Callback → List ℕ
callback_name (Some (callback.DiscoverObjectInstance object class name)) = name
callback_name (Some (callback.SynchronizationPointRegistrationSucceeded label)) = label
callback_name (Some (callback.SynchronizationPointRegistrationFailed label)) = label
callback_name (Some (callback.AnnounceSynchronizationPoint label)) = label
callback_name (Some (callback.FederationSynchronized label)) = label
callback_name given = []

-- the values that are told
abbrev pub callback_values : Option Callback → List HandleValuePair
callback_values (Some (callback.ReflectAttributeValues object values event way)) = values
callback_values (Some (callback.ReceiveInteraction class values event way)) = values
callback_values given = []
