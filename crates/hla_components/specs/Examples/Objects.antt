-- Worked examples of declarations, objects and receive order
use Rattle.std.specs.Prelude.{ℕ, ◌≡◌, Some, None, List, codes, [], ◌∷◌}
use Rattle.hla_machine.specs.declared.service.Service.TheVariants as service
use Rattle.hla_machine.specs.declared.service.ResignAction.TheVariants as action
use Rattle.hla_machine.specs.declared.step.Answer.TheVariants as answer
use Rattle.hla_machine.specs.declared.step.Carried.TheVariants as carried
use Rattle.hla_base.specs.declared.fault.Fault.TheVariants as fault
use Rattle.hla_catalogue.specs.declared.declared.Order.TheVariants.{Receive, Timestamp}
use Rattle.hla_callbacks.specs.declared.callback.Callback.TheVariants as callback
use Rattle.hla_callbacks.specs.declared.callback.Delivery.TheVariants as delivery
use Rattle.hla_machine.specs.declared.step.Step.TheVariants.{Join, Call, Carry, Announce, Tick}
use Rattle.hla_machine.specs.declared.step.Step.{Step}
use Rattle.hla_machine.specs.declared.step.Choice.TheVariants as choice
use Rattle.hla_machine.specs.Runs.{Executions, no_executions, create_fault, destroy_fault, after_create, after_destroy, AllowedIn}
use Rattle.hla_components.specs.Components.{Components, new_components}
use Rattle.hla_components.specs.CentralOf.{central}
use Rattle.hla_components.specs.Headline.{state_after}
use Rattle.hla_components.specs.Examples.Words.{Shows, catalogue, ◌⟶◌, A, B, C, object_root, car_class, pos_attribute, paint_attribute, note_class, memo_class, hit_class, text_parameter, extra_parameter, pair, event, outcome_refused, outcome_with, outcome_announced, outcome_carried, outcome_idle, outcome_ticked, outcome_sent, ok}

-- an interaction comes at the class that its receiver subscribes, with what that class has
abbrev pub Ancestor : Type 0
Ancestor = Shows (
    Join (codes "A") ⟶ outcome_with (answer.Federate 1)
    ∷ Join (codes "B") ⟶ outcome_with (answer.Federate 2)
    ∷ Call A (service.PublishInteractionClass memo_class) ⟶ ok
    ∷ Call B (service.SubscribeInteractionClass note_class) ⟶ ok
    ∷ Call A (service.SendInteraction memo_class (pair text_parameter (codes "a") ∷ pair extra_parameter (codes "b") ∷ []) None) ⟶ outcome_sent None
    ∷ Carry A B ⟶ outcome_carried (carried.Event (event 1 1))
    ∷ Tick B ⟶ outcome_ticked (callback.ReceiveInteraction note_class (pair text_parameter (codes "a") ∷ []) (event 1 1) delivery.Receive)
    ∷ [])

-- a constrained federate that asks for no advance is given receive order only with asynchronous delivery
abbrev pub AsynchronousDelivery : Type 0
AsynchronousDelivery = Shows (
    Join (codes "A") ⟶ outcome_with (answer.Federate 1)
    ∷ Join (codes "B") ⟶ outcome_with (answer.Federate 2)
    ∷ Call A (service.PublishInteractionClass note_class) ⟶ ok
    ∷ Call B (service.SubscribeInteractionClass note_class) ⟶ ok
    ∷ Call B service.EnableTimeConstrained ⟶ ok
    ∷ Tick B ⟶ outcome_ticked (callback.TimeConstrainedEnabled 0)
    ∷ Call A (service.SendInteraction note_class (pair text_parameter (codes "hi") ∷ []) None) ⟶ outcome_sent None
    ∷ Carry A B ⟶ outcome_carried (carried.Event (event 1 1))
    ∷ Tick B ⟶ outcome_idle
    ∷ Call B service.EnableAsynchronousDelivery ⟶ ok
    ∷ Tick B ⟶ outcome_ticked (callback.ReceiveInteraction note_class (pair text_parameter (codes "hi") ∷ []) (event 1 1) delivery.Receive)
    ∷ [])

-- an update is cut by the orders of its attributes, and of two events with one stamp that of the lower sender comes first
abbrev pub TwoOrdersAndATie : Type 0
TwoOrdersAndATie = Shows (
    Join (codes "A") ⟶ outcome_with (answer.Federate 1)
    ∷ Join (codes "B") ⟶ outcome_with (answer.Federate 2)
    ∷ Join (codes "C") ⟶ outcome_with (answer.Federate 3)
    ∷ Call A (service.PublishObjectClass car_class (pos_attribute ∷ paint_attribute ∷ [])) ⟶ ok
    ∷ Call C (service.SubscribeObjectClassAttributes car_class (pos_attribute ∷ paint_attribute ∷ [])) ⟶ ok
    ∷ Call B (service.PublishInteractionClass hit_class) ⟶ ok
    ∷ Call C (service.SubscribeInteractionClass hit_class) ⟶ ok
    ∷ Call A (service.EnableTimeRegulation 0 1) ⟶ ok
    ∷ Tick A ⟶ outcome_ticked (callback.TimeRegulationEnabled 0)
    ∷ Carry A C ⟶ outcome_carried (carried.Null 1)
    ∷ Call B (service.EnableTimeRegulation 0 1) ⟶ ok
    ∷ Tick B ⟶ outcome_ticked (callback.TimeRegulationEnabled 0)
    ∷ Carry B C ⟶ outcome_carried (carried.Null 1)
    ∷ Call C service.EnableTimeConstrained ⟶ ok
    ∷ Tick C ⟶ outcome_ticked (callback.TimeConstrainedEnabled 0)
    ∷ Call A (service.RegisterObjectInstance car_class None) ⟶ outcome_with (answer.Registered 1 (codes "object-1"))
    ∷ Call A (service.UpdateAttributeValues 1 (pair pos_attribute (codes "3") ∷ pair paint_attribute (codes "red") ∷ []) (Some 5)) ⟶ outcome_sent (Some (event 1 2))
    ∷ Call B (service.SendInteraction hit_class [] (Some 5)) ⟶ outcome_sent (Some (event 2 1))
    ∷ Call A (service.TimeAdvanceRequest 5) ⟶ ok
    ∷ Call B (service.TimeAdvanceRequest 5) ⟶ ok
    ∷ Announce A ⟶ outcome_announced (Some 6)
    ∷ Announce B ⟶ outcome_announced (Some 6)
    ∷ Carry B C ⟶ outcome_carried (carried.Event (event 2 1))
    ∷ Carry B C ⟶ outcome_carried (carried.Null 6)
    ∷ Carry A C ⟶ outcome_carried (carried.Discovery 1)
    ∷ Carry A C ⟶ outcome_carried (carried.Event (event 1 1))
    ∷ Carry A C ⟶ outcome_carried (carried.Event (event 1 2))
    ∷ Carry A C ⟶ outcome_carried (carried.Null 6)
    ∷ Call C (service.TimeAdvanceRequest 5) ⟶ ok
    ∷ Tick C ⟶ outcome_ticked (callback.DiscoverObjectInstance 1 car_class (codes "object-1"))
    ∷ Tick C ⟶ outcome_ticked (callback.ReflectAttributeValues 1 (pair paint_attribute (codes "red") ∷ []) (event 1 1) delivery.Receive)
    ∷ Tick C ⟶ outcome_ticked (callback.ReflectAttributeValues 1 (pair pos_attribute (codes "3") ∷ []) (event 1 2) (delivery.TimeStamp 5))
    ∷ Tick C ⟶ outcome_ticked (callback.ReceiveInteraction hit_class [] (event 2 1) (delivery.TimeStamp 5))
    ∷ Tick C ⟶ outcome_ticked (callback.TimeAdvanceGrant 5)
    ∷ [])

-- a federate that changes the order of its hits, and that of an attribute of its car, changes what it sends from then on
abbrev pub OrdersThatChange : Type 0
OrdersThatChange = Shows (
    Join (codes "A") ⟶ outcome_with (answer.Federate 1)
    ∷ Join (codes "B") ⟶ outcome_with (answer.Federate 2)
    ∷ Call A (service.PublishInteractionClass hit_class) ⟶ ok
    ∷ Call B (service.SubscribeInteractionClass hit_class) ⟶ ok
    ∷ Call A (service.PublishObjectClass car_class (pos_attribute ∷ paint_attribute ∷ [])) ⟶ ok
    ∷ Call B (service.SubscribeObjectClassAttributes car_class (pos_attribute ∷ paint_attribute ∷ [])) ⟶ ok
    ∷ Call A (service.RegisterObjectInstance car_class None) ⟶ outcome_with (answer.Registered 1 (codes "object-1"))
    ∷ Call A (service.EnableTimeRegulation 0 1) ⟶ ok
    ∷ Tick A ⟶ outcome_ticked (callback.TimeRegulationEnabled 0)
    ∷ Call A (service.SendInteraction hit_class [] (Some 9)) ⟶ outcome_sent (Some (event 1 1))
    ∷ Call A (service.ChangeInteractionOrderType hit_class Receive) ⟶ ok
    ∷ Call A (service.SendInteraction hit_class [] (Some 9)) ⟶ outcome_sent None
    ∷ Call B (service.ChangeInteractionOrderType hit_class Timestamp) ⟶ outcome_refused fault.InteractionClassNotPublished
    ∷ Call A (service.ChangeAttributeOrderType 1 (paint_attribute ∷ []) Timestamp) ⟶ ok
    ∷ Call A (service.UpdateAttributeValues 1 (pair pos_attribute (codes "3") ∷ pair paint_attribute (codes "red") ∷ []) (Some 9)) ⟶ outcome_sent (Some (event 1 3))
    ∷ Call B (service.ChangeAttributeOrderType 1 (paint_attribute ∷ []) Receive) ⟶ outcome_refused fault.AttributeNotOwned
    ∷ Carry A B ⟶ outcome_carried (carried.Discovery 1)
    ∷ Carry A B ⟶ outcome_carried (carried.Null 1)
    ∷ Carry A B ⟶ outcome_carried (carried.Event (event 1 1))
    ∷ Carry A B ⟶ outcome_carried (carried.Event (event 1 2))
    ∷ Carry A B ⟶ outcome_carried (carried.Event (event 1 3))
    ∷ Tick B ⟶ outcome_ticked (callback.DiscoverObjectInstance 1 car_class (codes "object-1"))
    ∷ Tick B ⟶ outcome_ticked (callback.ReceiveInteraction hit_class [] (event 1 1) (delivery.Demoted 9))
    ∷ Tick B ⟶ outcome_ticked (callback.ReceiveInteraction hit_class [] (event 1 2) delivery.Receive)
    ∷ Tick B ⟶ outcome_ticked (callback.ReflectAttributeValues 1 (pair pos_attribute (codes "3") ∷ pair paint_attribute (codes "red") ∷ []) (event 1 3) (delivery.Demoted 9))
    ∷ [])

-- joining under a name in use, resigning with objects, an action that is not offered, a federate that has resigned
abbrev pub Refusals : Type 0
Refusals = Shows (
    Join (codes "A") ⟶ outcome_with (answer.Federate 1)
    ∷ Join (codes "A") ⟶ outcome_refused fault.FederateAlreadyExecutionMember
    ∷ Call A (service.PublishObjectClass car_class (pos_attribute ∷ [])) ⟶ ok
    ∷ Call A (service.RegisterObjectInstance car_class (Some (codes "x"))) ⟶ outcome_with (answer.Registered 1 (codes "x"))
    ∷ Call A (service.Resign action.NoAction) ⟶ outcome_refused fault.FederateOwnsAttributes
    ∷ Call A (service.Resign action.ReleaseAttributes) ⟶ outcome_refused fault.InvalidResignAction
    ∷ Call A (service.Resign action.DeleteObjects) ⟶ ok
    ∷ Tick A ⟶ outcome_refused fault.FederateNotExecutionMember
    ∷ [])

-- who subscribes later discovers the object then, at the class that it subscribes
abbrev pub LateSubscriber : Type 0
LateSubscriber = Shows (
    Join (codes "A") ⟶ outcome_with (answer.Federate 1)
    ∷ Join (codes "B") ⟶ outcome_with (answer.Federate 2)
    ∷ Call A (service.PublishObjectClass car_class (pos_attribute ∷ [])) ⟶ ok
    ∷ Call A (service.RegisterObjectInstance car_class None) ⟶ outcome_with (answer.Registered 1 (codes "object-1"))
    ∷ Call B (service.SubscribeObjectClassAttributes object_root []) ⟶ ok
    ∷ Carry A B ⟶ outcome_carried (carried.Discovery 1)
    ∷ Tick B ⟶ outcome_ticked (callback.DiscoverObjectInstance 1 object_root (codes "object-1"))
    ∷ Call A (service.GetObjectInstanceHandle (codes "object-1")) ⟶ outcome_with (answer.Handle 1)
    ∷ Call B (service.GetObjectInstanceName 1) ⟶ outcome_with (answer.Name (codes "object-1"))
    ∷ Call A (service.DeleteObjectInstance 1 None) ⟶ ok
    ∷ Carry A B ⟶ outcome_carried (carried.Removal (event 1 1))
    ∷ Tick B ⟶ outcome_ticked (callback.RemoveObjectInstance 1 (event 1 1) delivery.Receive)
    ∷ Carry A B ⟶ outcome_carried carried.Nothing
    ∷ Call B (service.UnsubscribeObjectClass object_root) ⟶ ok
    ∷ Call A (service.UnpublishObjectClass car_class) ⟶ ok
    ∷ Call A (service.PublishInteractionClass note_class) ⟶ ok
    ∷ Call A (service.UnpublishInteractionClass note_class) ⟶ ok
    ∷ Call A (service.UnpublishInteractionClass note_class) ⟶ outcome_refused fault.InteractionClassNotPublished
    ∷ Call B (service.SubscribeInteractionClass note_class) ⟶ ok
    ∷ Call B (service.UnsubscribeInteractionClass note_class) ⟶ ok
    ∷ Call B (service.UnsubscribeInteractionClass note_class) ⟶ outcome_refused fault.InteractionClassNotSubscribed
    ∷ [])

abbrev pub play : List ℕ
play = codes "play"

-- the executions when that one was created, and when it was destroyed again
abbrev pub with_play : Executions
with_play = after_create no_executions play (Some catalogue)

abbrev pub without_play : Executions
without_play = after_destroy with_play play

abbrev pub play_after : List Step → Components
play_after steps = state_after (new_components catalogue) steps

-- an execution is created once, and destroyed when no federate is joined; then nobody joins it
pub record CreateAndDestroy : Type 0 where
  pub created : create_fault no_executions play (Some catalogue) ≡ None
  pub again : create_fault with_play play (Some catalogue) ≡ Some fault.FederationExecutionAlreadyExists
  pub joined : destroy_fault (Some (central (play_after (Join (codes "A") ∷ [])))) ≡ Some fault.FederatesCurrentlyJoined
  pub resigned : destroy_fault (Some (central (play_after (Join (codes "A") ∷ Call A (service.Resign action.DeleteObjects) ∷ [])))) ≡ None
  pub gone : AllowedIn (without_play.execution play) (Join (codes "A")) (outcome_refused fault.FederationExecutionDoesNotExist) choice.None
