-- How answers, callbacks and faults are printed
use Rattle.std.specs.Prelude.{ℕ, ◌==◌, List, [], ◌++◌, None, Some, codes, decimal, if◌then◌else◌}
use Rattle.std.specs.List.{flat_map}
use Rattle.hla_base.specs.Tables.{forever}
use Rattle.hla_base.specs.Fault.{number_of, name_of}
use Rattle.hla_base.specs.declared.fault.Fault.{Fault}
use Rattle.hla_base.specs.declared.fault.Fault.TheVariants.{FederateInternalError}
use Rattle.hla_base.specs.declared.number.EventHandle.{EventHandle}
use Rattle.hla_base.specs.declared.content.HandleValuePair.{HandleValuePair}
use Rattle.hla_callbacks.specs.declared.callback.Callback.{Callback}
use Rattle.hla_callbacks.specs.declared.callback.Callback.TheVariants as callback
use Rattle.hla_callbacks.specs.declared.callback.Delivery.{Delivery}
use Rattle.hla_callbacks.specs.declared.callback.Delivery.TheVariants as delivery
use Rattle.hla_catalogue.specs.CatalogueValue.{CatalogueValue}
use Rattle.hla_catalogue.specs.Lookup.{object_path, interaction_path, attribute_name, parameter_name}
use Rattle.hla_machine.specs.declared.step.Answer.{Answer}
use Rattle.hla_machine.specs.declared.step.Answer.TheVariants as answer
use Rattle.hla_machine.specs.declared.step.Carried.{Carried}
use Rattle.hla_machine.specs.declared.step.Carried.TheVariants as carried_message
use Rattle.hla_machine.specs.declared.step.Outcome.{Outcome}
use Rattle.hla_machine.specs.declared.step.Outcome.TheVariants as outcome

-- a message, by its sender and serial
abbrev pub event_text : EventHandle → List ℕ
event_text e = decimal e.sender ++ codes "." ++ decimal e.serial

-- a time, a lookahead or a bound
abbrev pub time_text : ℕ → List ℕ
time_text t = if t == forever then codes "forever" else decimal t

-- an attribute or a parameter with its value, behind a space
abbrev pub pair_text : (ℕ → List ℕ) → HandleValuePair → List ℕ
pair_text name p = codes " " ++ name p.handle ++ codes "=" ++ p.value

-- the order in which a message is given, behind a space; the stamp and the message are shown of one that was sent in time-stamp order
abbrev pub delivery_text : EventHandle → Delivery → List ℕ
delivery_text e delivery.Receive = codes " RO"
delivery_text e (delivery.Demoted stamp) = codes " RO " ++ decimal stamp ++ codes " " ++ event_text e
delivery_text e (delivery.TimeStamp stamp) = codes " TSO " ++ decimal stamp ++ codes " " ++ event_text e

-- a callback, behind a space
abbrev pub callback_text : CatalogueValue → Callback → List ℕ
callback_text c (callback.DiscoverObjectInstance object class name) = codes " discover " ++ decimal object ++ codes " " ++ object_path c class ++ codes " " ++ name
callback_text c (callback.ReflectAttributeValues object values event order) = codes " reflect " ++ decimal object ++ flat_map (pair_text (attribute_name c)) values ++ delivery_text event order
callback_text c (callback.ReceiveInteraction class values event order) = codes " receive " ++ interaction_path c class ++ flat_map (pair_text (parameter_name c)) values ++ delivery_text event order
callback_text c (callback.RemoveObjectInstance object event order) = codes " remove " ++ decimal object ++ delivery_text event order
callback_text c (callback.TimeRegulationEnabled time) = codes " regulationEnabled " ++ decimal time
callback_text c (callback.TimeConstrainedEnabled time) = codes " constrainedEnabled " ++ decimal time
callback_text c (callback.TimeAdvanceGrant time) = codes " grant " ++ decimal time
callback_text c (callback.RequestRetraction event) = codes " requestRetraction " ++ event_text event
callback_text c (callback.SynchronizationPointRegistrationSucceeded label) = codes " syncRegistered " ++ label
callback_text c (callback.SynchronizationPointRegistrationFailed label) = codes " syncRefused " ++ label
callback_text c (callback.AnnounceSynchronizationPoint label) = codes " syncAnnounced " ++ label
callback_text c (callback.FederationSynchronized label) = codes " synchronized " ++ label

-- what a carry took from its wire, behind a space
abbrev pub carried_text : Carried → List ℕ
carried_text carried_message.Nothing = codes " none"
carried_text (carried_message.Null bound) = codes " null " ++ time_text bound
carried_text (carried_message.Event event) = codes " event " ++ event_text event
carried_text (carried_message.Removal event) = codes " removal " ++ event_text event
carried_text (carried_message.Retraction event) = codes " retraction " ++ event_text event
carried_text (carried_message.Discovery object) = codes " discovery " ++ decimal object

-- what a step answered, behind a space; nothing where it has no answer
abbrev pub answer_text : CatalogueValue → Answer → List ℕ
answer_text c answer.Done = []
answer_text c (answer.Federate federate) = codes " " ++ decimal federate
answer_text c (answer.Registered object name) = codes " " ++ decimal object ++ codes " " ++ name
answer_text c (answer.Handle number) = codes " " ++ decimal number
answer_text c (answer.Name name) = codes " " ++ name
answer_text c (answer.Sent None) = []
answer_text c (answer.Sent (Some event)) = codes " " ++ event_text event
answer_text c (answer.Time time) = codes " " ++ time_text time
answer_text c (answer.Ticked None) = codes " nothing"
answer_text c (answer.Ticked (Some given)) = callback_text c given
answer_text c (answer.Carried taken) = carried_text taken
answer_text c (answer.Announced None) = codes " none"
answer_text c (answer.Announced (Some time)) = codes " " ++ time_text time

-- a fault, by its number and its name
abbrev pub fault_text : Fault → List ℕ
fault_text e = codes "error " ++ decimal (number_of e) ++ codes " " ++ name_of e

-- how a step ended
abbrev pub outcome_text : CatalogueValue → Outcome → List ℕ
outcome_text c (outcome.Done given) = codes "ok" ++ answer_text c given
outcome_text c (outcome.Refused e) = fault_text e
outcome_text c (outcome.Failed given) = fault_text FederateInternalError

-- a line of the transcript
abbrev pub line_text : CatalogueValue → ℕ → Outcome → List ℕ
line_text c number o = decimal number ++ codes " " ++ outcome_text c o ++ codes "\n"
