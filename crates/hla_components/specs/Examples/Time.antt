-- Worked examples of bounds, advances and queues
use Rattle.std.specs.Prelude.{Some, None, codes, [], ◌∷◌}
use Rattle.hla_machine.specs.declared.service.Service.TheVariants as service
use Rattle.hla_machine.specs.declared.step.Answer.TheVariants as answer
use Rattle.hla_machine.specs.declared.step.Carried.TheVariants as carried
use Rattle.hla_base.specs.declared.fault.Fault.TheVariants as fault
use Rattle.hla_callbacks.specs.declared.callback.Callback.TheVariants as callback
use Rattle.hla_callbacks.specs.declared.callback.Delivery.TheVariants as delivery
use Rattle.hla_machine.specs.declared.step.Step.TheVariants.{Join, Call, Carry, Announce, Tick}
use Rattle.hla_components.specs.Examples.Words.{Shows, ◌⟶◌, A, B, hit_class, force_parameter, pair, event, outcome_refused, outcome_with, outcome_announced, outcome_carried, outcome_idle, outcome_ticked, outcome_sent, ok}

-- a next-event request picks an event up only once the bound is past its stamp
abbrev pub StaleBound : Type 0
StaleBound = Shows (
    Join (codes "A") ⟶ outcome_with (answer.Federate 1)
    ∷ Join (codes "B") ⟶ outcome_with (answer.Federate 2)
    ∷ Call A (service.PublishInteractionClass hit_class) ⟶ ok
    ∷ Call B (service.SubscribeInteractionClass hit_class) ⟶ ok
    ∷ Call A (service.EnableTimeRegulation 0 1) ⟶ ok
    ∷ Tick A ⟶ outcome_ticked (callback.TimeRegulationEnabled 0)
    ∷ Carry A B ⟶ outcome_carried (carried.Null 1)
    ∷ Call B (service.EnableTimeRegulation 0 2) ⟶ ok
    ∷ Tick B ⟶ outcome_ticked (callback.TimeRegulationEnabled 0)
    ∷ Carry B A ⟶ outcome_carried (carried.Null 2)
    ∷ Call A service.EnableTimeConstrained ⟶ ok
    ∷ Tick A ⟶ outcome_ticked (callback.TimeConstrainedEnabled 0)
    ∷ Call B service.EnableTimeConstrained ⟶ ok
    ∷ Tick B ⟶ outcome_ticked (callback.TimeConstrainedEnabled 0)
    ∷ Call A (service.TimeAdvanceRequest 5) ⟶ ok
    ∷ Call B (service.NextEventRequest 10) ⟶ ok
    ∷ Announce A ⟶ outcome_announced (Some 6)
    ∷ Carry A B ⟶ outcome_carried (carried.Null 6)
    ∷ Announce B ⟶ outcome_announced (Some 8)
    ∷ Carry B A ⟶ outcome_carried (carried.Null 8)
    ∷ Tick A ⟶ outcome_ticked (callback.TimeAdvanceGrant 5)
    ∷ Call A (service.SendInteraction hit_class (pair force_parameter (codes "7") ∷ []) (Some 6)) ⟶ outcome_sent (Some (event 1 1))
    ∷ Carry A B ⟶ outcome_carried (carried.Event (event 1 1))
    ∷ Tick B ⟶ outcome_idle
    ∷ Call A (service.TimeAdvanceRequest 7) ⟶ ok
    ∷ Announce A ⟶ outcome_announced (Some 8)
    ∷ Carry A B ⟶ outcome_carried (carried.Null 8)
    ∷ Tick B ⟶ outcome_ticked (callback.ReceiveInteraction hit_class (pair force_parameter (codes "7") ∷ []) (event 1 1) (delivery.TimeStamp 6))
    ∷ Tick B ⟶ outcome_ticked (callback.TimeAdvanceGrant 6)
    ∷ [])

-- the least stamp that may be sent is the time and the lookahead, itself allowed
abbrev pub Boundary : Type 0
Boundary = Shows (
    Join (codes "A") ⟶ outcome_with (answer.Federate 1)
    ∷ Join (codes "B") ⟶ outcome_with (answer.Federate 2)
    ∷ Call A (service.PublishInteractionClass hit_class) ⟶ ok
    ∷ Call B (service.SubscribeInteractionClass hit_class) ⟶ ok
    ∷ Call A (service.EnableTimeRegulation 0 3) ⟶ ok
    ∷ Tick A ⟶ outcome_ticked (callback.TimeRegulationEnabled 0)
    ∷ Call A (service.SendInteraction hit_class [] (Some 2)) ⟶ outcome_refused fault.InvalidFederationTime
    ∷ Call A (service.SendInteraction hit_class [] (Some 3)) ⟶ outcome_sent (Some (event 1 1))
    ∷ [])

-- with lookahead 0 two next-event requests raise each other, by one at each announcement
abbrev pub Creep : Type 0
Creep = Shows (
    Join (codes "A") ⟶ outcome_with (answer.Federate 1)
    ∷ Join (codes "B") ⟶ outcome_with (answer.Federate 2)
    ∷ Call A (service.EnableTimeRegulation 0 0) ⟶ ok
    ∷ Tick A ⟶ outcome_ticked (callback.TimeRegulationEnabled 0)
    ∷ Carry A B ⟶ outcome_carried (carried.Null 0)
    ∷ Call B (service.EnableTimeRegulation 0 0) ⟶ ok
    ∷ Tick B ⟶ outcome_ticked (callback.TimeRegulationEnabled 0)
    ∷ Carry B A ⟶ outcome_carried (carried.Null 0)
    ∷ Call A service.EnableTimeConstrained ⟶ ok
    ∷ Tick A ⟶ outcome_ticked (callback.TimeConstrainedEnabled 0)
    ∷ Call B service.EnableTimeConstrained ⟶ ok
    ∷ Tick B ⟶ outcome_ticked (callback.TimeConstrainedEnabled 0)
    ∷ Call A (service.NextEventRequest 3) ⟶ ok
    ∷ Call B (service.NextEventRequest 3) ⟶ ok
    ∷ Announce A ⟶ outcome_announced (Some 1)
    ∷ Carry A B ⟶ outcome_carried (carried.Null 1)
    ∷ Announce B ⟶ outcome_announced (Some 2)
    ∷ Carry B A ⟶ outcome_carried (carried.Null 2)
    ∷ Announce A ⟶ outcome_announced (Some 3)
    ∷ Carry A B ⟶ outcome_carried (carried.Null 3)
    ∷ Announce B ⟶ outcome_announced (Some 4)
    ∷ Carry B A ⟶ outcome_carried (carried.Null 4)
    ∷ Tick A ⟶ outcome_ticked (callback.TimeAdvanceGrant 3)
    ∷ Tick B ⟶ outcome_idle
    ∷ [])

-- with lookahead 0 two available requests promise nothing new
abbrev pub CreepAvailable : Type 0
CreepAvailable = Shows (
    Join (codes "A") ⟶ outcome_with (answer.Federate 1)
    ∷ Join (codes "B") ⟶ outcome_with (answer.Federate 2)
    ∷ Call A (service.EnableTimeRegulation 0 0) ⟶ ok
    ∷ Tick A ⟶ outcome_ticked (callback.TimeRegulationEnabled 0)
    ∷ Carry A B ⟶ outcome_carried (carried.Null 0)
    ∷ Call B (service.EnableTimeRegulation 0 0) ⟶ ok
    ∷ Tick B ⟶ outcome_ticked (callback.TimeRegulationEnabled 0)
    ∷ Carry B A ⟶ outcome_carried (carried.Null 0)
    ∷ Call A service.EnableTimeConstrained ⟶ ok
    ∷ Tick A ⟶ outcome_ticked (callback.TimeConstrainedEnabled 0)
    ∷ Call B service.EnableTimeConstrained ⟶ ok
    ∷ Tick B ⟶ outcome_ticked (callback.TimeConstrainedEnabled 0)
    ∷ Call A (service.NextEventRequestAvailable 3) ⟶ ok
    ∷ Call B (service.NextEventRequestAvailable 3) ⟶ ok
    ∷ Announce A ⟶ outcome_announced None
    ∷ Announce B ⟶ outcome_announced None
    ∷ Tick A ⟶ outcome_idle
    ∷ [])

-- a flush is given all that is queued, and granted the least of its stamps, the bound and the asked time
abbrev pub Flush : Type 0
Flush = Shows (
    Join (codes "A") ⟶ outcome_with (answer.Federate 1)
    ∷ Join (codes "B") ⟶ outcome_with (answer.Federate 2)
    ∷ Call A (service.PublishInteractionClass hit_class) ⟶ ok
    ∷ Call B (service.SubscribeInteractionClass hit_class) ⟶ ok
    ∷ Call A (service.EnableTimeRegulation 0 1) ⟶ ok
    ∷ Tick A ⟶ outcome_ticked (callback.TimeRegulationEnabled 0)
    ∷ Carry A B ⟶ outcome_carried (carried.Null 1)
    ∷ Call B service.EnableTimeConstrained ⟶ ok
    ∷ Tick B ⟶ outcome_ticked (callback.TimeConstrainedEnabled 0)
    ∷ Call A (service.SendInteraction hit_class [] (Some 40)) ⟶ outcome_sent (Some (event 1 1))
    ∷ Call A (service.SendInteraction hit_class [] (Some 12)) ⟶ outcome_sent (Some (event 1 2))
    ∷ Call A (service.TimeAdvanceRequest 29) ⟶ ok
    ∷ Announce A ⟶ outcome_announced (Some 30)
    ∷ Carry A B ⟶ outcome_carried (carried.Event (event 1 1))
    ∷ Carry A B ⟶ outcome_carried (carried.Event (event 1 2))
    ∷ Carry A B ⟶ outcome_carried (carried.Null 30)
    ∷ Call B (service.FlushQueueRequest 50) ⟶ ok
    ∷ Tick B ⟶ outcome_ticked (callback.ReceiveInteraction hit_class [] (event 1 2) (delivery.TimeStamp 12))
    ∷ Tick B ⟶ outcome_ticked (callback.ReceiveInteraction hit_class [] (event 1 1) (delivery.TimeStamp 40))
    ∷ Tick B ⟶ outcome_ticked (callback.TimeAdvanceGrant 12)
    ∷ [])

-- the largest time may be reached, and nothing may be sent from there
abbrev pub LargestTime : Type 0
LargestTime = Shows (
    Join (codes "A") ⟶ outcome_with (answer.Federate 1)
    ∷ Call A (service.PublishInteractionClass hit_class) ⟶ ok
    ∷ Call A (service.EnableTimeRegulation 0 1) ⟶ ok
    ∷ Tick A ⟶ outcome_ticked (callback.TimeRegulationEnabled 0)
    ∷ Call A (service.TimeAdvanceRequest 1000000000000000000) ⟶ ok
    ∷ Tick A ⟶ outcome_ticked (callback.TimeAdvanceGrant 1000000000000000000)
    ∷ Call A (service.SendInteraction hit_class [] (Some 1000000000000000000)) ⟶ outcome_refused fault.InvalidFederationTime
    ∷ Call A (service.TimeAdvanceRequest 1000000000000000001) ⟶ outcome_refused fault.InvalidFederationTime
    ∷ [])

-- a next-event request is granted the stamp that it picked, and so is the available one
abbrev pub PickThenGrant : Type 0
PickThenGrant = Shows (
    Join (codes "A") ⟶ outcome_with (answer.Federate 1)
    ∷ Join (codes "B") ⟶ outcome_with (answer.Federate 2)
    ∷ Call A (service.PublishInteractionClass hit_class) ⟶ ok
    ∷ Call B (service.SubscribeInteractionClass hit_class) ⟶ ok
    ∷ Call A (service.EnableTimeRegulation 0 1) ⟶ ok
    ∷ Tick A ⟶ outcome_ticked (callback.TimeRegulationEnabled 0)
    ∷ Carry A B ⟶ outcome_carried (carried.Null 1)
    ∷ Call B service.EnableTimeConstrained ⟶ ok
    ∷ Tick B ⟶ outcome_ticked (callback.TimeConstrainedEnabled 0)
    ∷ Call A (service.SendInteraction hit_class [] (Some 6)) ⟶ outcome_sent (Some (event 1 1))
    ∷ Call A (service.SendInteraction hit_class [] (Some 9)) ⟶ outcome_sent (Some (event 1 2))
    ∷ Call A (service.TimeAdvanceRequest 20) ⟶ ok
    ∷ Announce A ⟶ outcome_announced (Some 21)
    ∷ Carry A B ⟶ outcome_carried (carried.Event (event 1 1))
    ∷ Carry A B ⟶ outcome_carried (carried.Event (event 1 2))
    ∷ Carry A B ⟶ outcome_carried (carried.Null 21)
    ∷ Call B (service.NextEventRequest 10) ⟶ ok
    ∷ Tick B ⟶ outcome_ticked (callback.ReceiveInteraction hit_class [] (event 1 1) (delivery.TimeStamp 6))
    ∷ Tick B ⟶ outcome_ticked (callback.TimeAdvanceGrant 6)
    ∷ Call B service.QueryMinNextEventTime ⟶ outcome_with (answer.Time 9)
    ∷ Call B service.QueryLbts ⟶ outcome_with (answer.Time 21)
    ∷ Call B (service.NextEventRequestAvailable 9) ⟶ ok
    ∷ Tick B ⟶ outcome_ticked (callback.ReceiveInteraction hit_class [] (event 1 2) (delivery.TimeStamp 9))
    ∷ Tick B ⟶ outcome_ticked (callback.TimeAdvanceGrant 9)
    ∷ Call B service.QueryFederateTime ⟶ outcome_with (answer.Time 9)
    ∷ Call B service.EnableAsynchronousDelivery ⟶ ok
    ∷ Call B service.DisableAsynchronousDelivery ⟶ ok
    ∷ Call B service.DisableAsynchronousDelivery ⟶ outcome_refused fault.AsynchronousDeliveryAlreadyDisabled
    ∷ Call B (service.TimeAdvanceRequestAvailable 10) ⟶ ok
    ∷ Tick B ⟶ outcome_ticked (callback.TimeAdvanceGrant 10)
    ∷ [])

-- a null message takes the place of one of its epoch at the end of the wire, and not across an event
abbrev pub NewestNull : Type 0
NewestNull = Shows (
    Join (codes "A") ⟶ outcome_with (answer.Federate 1)
    ∷ Join (codes "B") ⟶ outcome_with (answer.Federate 2)
    ∷ Call A (service.PublishInteractionClass hit_class) ⟶ ok
    ∷ Call B (service.SubscribeInteractionClass hit_class) ⟶ ok
    ∷ Call A (service.EnableTimeRegulation 0 1) ⟶ ok
    ∷ Tick A ⟶ outcome_ticked (callback.TimeRegulationEnabled 0)
    ∷ Call A (service.TimeAdvanceRequest 5) ⟶ ok
    ∷ Announce A ⟶ outcome_announced (Some 6)
    ∷ Call A (service.SendInteraction hit_class [] (Some 6)) ⟶ outcome_sent (Some (event 1 1))
    ∷ Tick A ⟶ outcome_ticked (callback.TimeAdvanceGrant 5)
    ∷ Call A (service.TimeAdvanceRequest 7) ⟶ ok
    ∷ Announce A ⟶ outcome_announced (Some 8)
    ∷ Carry A B ⟶ outcome_carried (carried.Null 6)
    ∷ Carry A B ⟶ outcome_carried (carried.Event (event 1 1))
    ∷ Carry A B ⟶ outcome_carried (carried.Null 8)
    ∷ Carry A B ⟶ outcome_carried carried.Nothing
    ∷ [])
