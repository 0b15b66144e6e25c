-- What a line asks of the execution, or the fault with which it is answered where it makes no step
use Rattle.std.specs.Prelude.{◌≡◌, ℕ, nat_lt, min, List, [], ◌∷◌, ◌++◌, length, Option, None, Some, Result, Ok, Err, if◌then◌else◌}
use Rattle.hla_base.specs.Limits.{max_value}
use Rattle.hla_base.specs.declared.fault.Fault.{Fault}
use Rattle.hla_base.specs.declared.fault.Fault.TheVariants as fault
use Rattle.hla_base.specs.declared.content.HandleValuePair.{HandleValuePair}
use Rattle.hla_catalogue.specs.CatalogueValue.{CatalogueValue}
use Rattle.hla_catalogue.specs.declared.declared.Order.{Order}
use Rattle.hla_catalogue.specs.Lookup.{object_class_named, interaction_class_named, attribute_named, parameter_named}
use Rattle.hla_machine.specs.declared.service.Service.{Service}
use Rattle.hla_machine.specs.declared.service.Service.TheVariants as service
use Rattle.hla_machine.specs.declared.step.Step.{Step}
use Rattle.hla_machine.specs.declared.step.Step.TheVariants as step
use Rattle.hla_commands.specs.declared.lines.Declaration.{Declaration}
use Rattle.hla_commands.specs.declared.lines.Declaration.TheVariants as declaration
use Rattle.hla_commands.specs.declared.lines.Command.{Command}
use Rattle.hla_commands.specs.declared.lines.Command.TheVariants as command
use Rattle.hla_commands.specs.declared.lines.Call.{Call}
use Rattle.hla_commands.specs.declared.lines.Call.TheVariants as call
use Rattle.hla_commands.specs.declared.lines.NameValuePair.{NameValuePair}
use Rattle.hla_machine.specs.Advancing.{request_service}
use Rattle.hla_requests.specs.declared.members.NamedFederate.{NamedFederate}
use Rattle.hla_requests.specs.declared.lookups.AskFault.{AskFault}
use Rattle.hla_requests.specs.declared.lookups.AskFault.TheVariants as stop
use Rattle.hla_requests.specs.declared.lookups.Class.{Class}
use Rattle.hla_requests.specs.declared.lookups.Class.TheVariants as class
use Rattle.hla_requests.specs.declared.steps.Request.{Request}
use Rattle.hla_requests.specs.declared.steps.Request.TheVariants as request
use Rattle.hla_requests.specs.Members.{federate_named, joined_federate_named}

-- ---- what is asked, or a fault
-- what is asked next, or the fault before it
abbrev pub ask_then : {X Y : Type 0} → Result X Fault → (X → Result Y Fault) → Result Y Fault
ask_then (Ok x) next = next x
ask_then (Err e) next = Err e

-- the answer is what is meant, or that memory ran out where no fault is meant
abbrev pub Asks : {X : Type 0} → Result X AskFault → Result X Fault → Type 0
Asks (Ok x) meant = meant ≡ Ok x
Asks {X = X} (Err stop.Memory) meant = (x : X) × (meant ≡ Ok x)
Asks (Err (stop.Refused e)) meant = meant ≡ Err e

-- the answer is just what is meant
abbrev pub Finds : {X : Type 0} → Result X AskFault → Result X Fault → Type 0
Finds (Ok x) meant = meant ≡ Ok x
Finds (Err stop.Memory) meant = ⊥
Finds (Err (stop.Refused e)) meant = meant ≡ Err e

abbrev pub number_or : Option ℕ → Fault → Result ℕ Fault
number_or (Some n) e = Ok n
number_or None e = Err e

-- ---- the numbers of names
-- somebody has joined under the name since the last create that was accepted
abbrev pub known_federate : List NamedFederate → List ℕ → Result ℕ Fault
known_federate ms name = number_or (federate_named ms name) fault.FederateNotExecutionMember

-- somebody is joined under the name
abbrev pub joined_federate : List NamedFederate → List ℕ → Result ℕ Fault
joined_federate ms name = number_or (joined_federate_named ms name) fault.FederateNotExecutionMember

abbrev pub object_class_of : CatalogueValue → List ℕ → Result ℕ Fault
object_class_of c name = number_or (object_class_named c name) fault.NameNotFound

abbrev pub interaction_class_of : CatalogueValue → List ℕ → Result ℕ Fault
interaction_class_of c name = number_or (interaction_class_named c name) fault.NameNotFound

-- an attribute of an object class, or a parameter of an interaction class
abbrev pub handle_named : CatalogueValue → Class → List ℕ → Option ℕ
handle_named c (class.Object k) name = attribute_named c k name
handle_named c (class.Interaction k) name = parameter_named c k name

abbrev pub with_handle : Option ℕ → Result (List ℕ) Fault → Result (List ℕ) Fault
with_handle None later = Err fault.NameNotFound
with_handle (Some n) later = ask_then later (λ ns. Ok (n ∷ ns))

-- the numbers of names, all of which must be found
unfoldable pub named_handles : (List ℕ → Option ℕ) → List (List ℕ) → Result (List ℕ) Fault
named_handles find [] = Ok []
named_handles find (name ∷ names) = with_handle (find name) (named_handles find names)

-- a value that is too long is refused
abbrev pub unless_too_long : {X : Type 0} → List ℕ → X → Result X Fault
unless_too_long value x = if nat_lt max_value (length value) then Err fault.LimitReached else Ok x

abbrev pub with_pair : Option ℕ → List ℕ → Result (List HandleValuePair) Fault → Result (List HandleValuePair) Fault
with_pair None value later = Err fault.NameNotFound
with_pair (Some n) value later = ask_then later (λ ps. unless_too_long value (record { handle = n; value = value } ∷ ps))

-- attributes or parameters by their numbers, with their values: all names are looked up before the values are tested
unfoldable pub named_pairs : (List ℕ → Option ℕ) → List NameValuePair → Result (List HandleValuePair) Fault
named_pairs find [] = Ok []
named_pairs find (p ∷ ps) = with_pair (find p.name) p.value (named_pairs find ps)

-- the same with one more behind
abbrev pub with_last_handle : Result (List ℕ) Fault → ℕ → Result (List ℕ) Fault
with_last_handle meant n = ask_then meant (λ ns. Ok (ns ++ n ∷ []))

abbrev pub with_last_pair : Result (List HandleValuePair) Fault → ℕ → List ℕ → Result (List HandleValuePair) Fault
with_last_pair meant n value = ask_then meant (λ ps. unless_too_long value (ps ++ record { handle = n; value = value } ∷ []))

-- the largest number of 32 bits. No object and no federate has it, since an execution has at most `max_objects` and `max_joins`
abbrev pub max_short_number : ℕ
max_short_number = 4294967295

-- the number of the object or of the federate that a number names: itself, but the largest for all that are above it
abbrev pub object_number : ℕ → ℕ
object_number number = min number max_short_number

abbrev pub federate_number : ℕ → ℕ
federate_number number = min number max_short_number

abbrev pub declared_object : Declaration → ℕ → List ℕ → Service
declared_object declaration.Publication class attributes = service.PublishObjectClass class attributes
declared_object declaration.Subscription class attributes = service.SubscribeObjectClassAttributes class attributes

abbrev pub withdrawn_object : Declaration → ℕ → Service
withdrawn_object declaration.Publication class = service.UnpublishObjectClass class
withdrawn_object declaration.Subscription class = service.UnsubscribeObjectClass class

abbrev pub declared_interaction : Declaration → ℕ → Service
declared_interaction declaration.Publication class = service.PublishInteractionClass class
declared_interaction declaration.Subscription class = service.SubscribeInteractionClass class

abbrev pub withdrawn_interaction : Declaration → ℕ → Service
withdrawn_interaction declaration.Publication class = service.UnpublishInteractionClass class
withdrawn_interaction declaration.Subscription class = service.UnsubscribeInteractionClass class

-- ---- services, with what they name looked up
abbrev pub object_declaration : CatalogueValue → Declaration → List ℕ → List (List ℕ) → Result Service Fault
object_declaration c d name names = ask_then (object_class_of c name) (λ k. ask_then (named_handles (handle_named c (class.Object k)) names) (λ attributes. Ok (declared_object d k attributes)))

abbrev pub object_withdrawal : CatalogueValue → Declaration → List ℕ → Result Service Fault
object_withdrawal c d name = ask_then (object_class_of c name) (λ k. Ok (withdrawn_object d k))

abbrev pub interaction_declaration : CatalogueValue → Declaration → List ℕ → Result Service Fault
interaction_declaration c d name = ask_then (interaction_class_of c name) (λ k. Ok (declared_interaction d k))

abbrev pub interaction_withdrawal : CatalogueValue → Declaration → List ℕ → Result Service Fault
interaction_withdrawal c d name = ask_then (interaction_class_of c name) (λ k. Ok (withdrawn_interaction d k))

abbrev pub registration : CatalogueValue → List ℕ → Option (List ℕ) → Result Service Fault
registration c name object = ask_then (object_class_of c name) (λ k. Ok (service.RegisterObjectInstance k object))

abbrev pub update_of : CatalogueValue → ℕ → List ℕ → List NameValuePair → Option ℕ → Result Service Fault
update_of c object name values stamp = ask_then (object_class_of c name) (λ k. ask_then (named_pairs (handle_named c (class.Object k)) values) (λ ps. Ok (service.UpdateAttributeValues (object_number object) ps stamp)))

abbrev pub interaction_of : CatalogueValue → List ℕ → List NameValuePair → Option ℕ → Result Service Fault
interaction_of c name values stamp = ask_then (interaction_class_of c name) (λ k. ask_then (named_pairs (handle_named c (class.Interaction k)) values) (λ ps. Ok (service.SendInteraction k ps stamp)))

abbrev pub attribute_order_change : CatalogueValue → ℕ → List ℕ → Order → List (List ℕ) → Result Service Fault
attribute_order_change c object name order names =
    ask_then (object_class_of c name) (λ k. ask_then (named_handles (handle_named c (class.Object k)) names) (λ attributes. Ok (service.ChangeAttributeOrderType (object_number object) attributes order)))

abbrev pub interaction_order_change : CatalogueValue → List ℕ → Order → Result Service Fault
interaction_order_change c name order = ask_then (interaction_class_of c name) (λ k. Ok (service.ChangeInteractionOrderType k order))

abbrev pub optional_call : Result Service Fault → Result (Option Service) Fault
optional_call called = ask_then called (λ s. Ok (Some s))

-- the service of time management that a federate calls, if it is one
abbrev pub time_service_of : Call → Option Service
time_service_of (call.EnableTimeRegulation time lookahead) = Some (service.EnableTimeRegulation time lookahead)
time_service_of call.DisableTimeRegulation = Some service.DisableTimeRegulation
time_service_of call.EnableTimeConstrained = Some service.EnableTimeConstrained
time_service_of call.DisableTimeConstrained = Some service.DisableTimeConstrained
time_service_of (call.RequestAdvance kind time) = Some (request_service kind time)
time_service_of (call.ModifyLookahead lookahead) = Some (service.ModifyLookahead lookahead)
time_service_of call.EnableAsynchronousDelivery = Some service.EnableAsynchronousDelivery
time_service_of call.DisableAsynchronousDelivery = Some service.DisableAsynchronousDelivery
time_service_of (call.Retract sender serial) = Some (service.Retract (record { sender = federate_number sender; serial = serial }))
time_service_of call.QueryLbts = Some service.QueryLbts
time_service_of call.QueryFederateTime = Some service.QueryFederateTime
time_service_of call.QueryMinNextEventTime = Some service.QueryMinNextEventTime
time_service_of call.QueryLookahead = Some service.QueryLookahead
time_service_of x = None

-- of objects, messages and synchronization points, or else of time
abbrev pub object_service_of : CatalogueValue → Call → Result (Option Service) Fault
object_service_of c (call.Register name object) = optional_call (registration c name object)
object_service_of c (call.Update object name values stamp) = optional_call (update_of c object name values stamp)
object_service_of c (call.Send name values stamp) = optional_call (interaction_of c name values stamp)
object_service_of c (call.Delete object stamp) = Ok (Some (service.DeleteObjectInstance (object_number object) stamp))
object_service_of c (call.ChangeAttributeOrder object name order names) = optional_call (attribute_order_change c object name order names)
object_service_of c (call.ChangeInteractionOrder name order) = optional_call (interaction_order_change c name order)
object_service_of c (call.RegisterPoint label) = Ok (Some (service.RegisterFederationSynchronizationPoint label))
object_service_of c (call.AchievePoint label) = Ok (Some (service.SynchronizationPointAchieved label))
object_service_of c (call.ObjectHandle name) = Ok (Some (service.GetObjectInstanceHandle name))
object_service_of c (call.ObjectName object) = Ok (Some (service.GetObjectInstanceName (object_number object)))
object_service_of c x = Ok (time_service_of x)

-- the service that a federate calls; a tick calls none
abbrev pub service_of : CatalogueValue → Call → Result (Option Service) Fault
service_of c (call.Resign way) = Ok (Some (service.Resign way))
service_of c (call.DeclareObject d name names) = optional_call (object_declaration c d name names)
service_of c (call.WithdrawObject d name) = optional_call (object_withdrawal c d name)
service_of c (call.DeclareInteraction d name) = optional_call (interaction_declaration c d name)
service_of c (call.WithdrawInteraction d name) = optional_call (interaction_withdrawal c d name)
service_of c x = object_service_of c x

-- ---- what a line asks for
abbrev pub step_by : ℕ → Option Service → Step
step_by f None = step.Tick f
step_by f (Some s) = step.Call f s

-- what a line asks for, or the fault with which it is answered without a step: federates are tested before the names of
-- the FED file, and names before values
abbrev pub request_of : CatalogueValue → List NamedFederate → Command → Result Request Fault
request_of c ms command.Create = Ok request.Create
request_of c ms command.Destroy = Ok request.Destroy
request_of c ms (command.Join name) = Ok (request.Step (step.Join name))
request_of c ms (command.Carry from to) = ask_then (known_federate ms from) (λ g. ask_then (known_federate ms to) (λ f. Ok (request.Step (step.Carry g f))))
request_of c ms (command.Federate name call) = ask_then (joined_federate ms name) (λ f. ask_then (service_of c call) (λ s. Ok (request.Step (step_by f s))))
request_of c ms (command.Announce name) = ask_then (joined_federate ms name) (λ f. Ok (request.Step (step.Announce f)))
