-- Worked examples of roles that change, of the floor and of retraction
use Rattle.std.specs.Prelude.{Some, codes, [], ◌∷◌}
use Rattle.hla_base.specs.Tables.{forever}
use Rattle.hla_machine.specs.declared.service.Service.TheVariants as service
use Rattle.hla_machine.specs.declared.service.ResignAction.TheVariants as action
use Rattle.hla_machine.specs.declared.step.Answer.TheVariants as answer
use Rattle.hla_machine.specs.declared.step.Carried.TheVariants as carried
use Rattle.hla_base.specs.declared.fault.Fault.TheVariants as fault
use Rattle.hla_callbacks.specs.declared.callback.Callback.TheVariants as callback
use Rattle.hla_callbacks.specs.declared.callback.Delivery.TheVariants as delivery
use Rattle.hla_machine.specs.declared.step.Step.TheVariants.{Join, Call, Carry, Announce, Tick}
use Rattle.hla_components.specs.Examples.Words.{Shows, ◌⟶◌, A, B, C, hit_class, event, outcome_refused, outcome_with, outcome_announced, outcome_carried, outcome_idle, outcome_ticked, outcome_sent, ok}

-- a newcomer among the regulators enters no lower than the wake by which a waiting one has promised
abbrev pub Newcomer : Type 0
Newcomer = Shows (
    Join (codes "A") ⟶ outcome_with (answer.Federate 1)
    ∷ Join (codes "B") ⟶ outcome_with (answer.Federate 2)
    ∷ Join (codes "C") ⟶ outcome_with (answer.Federate 3)
    ∷ Call C (service.PublishInteractionClass hit_class) ⟶ ok
    ∷ Call A (service.EnableTimeRegulation 0 1) ⟶ ok
    ∷ Tick A ⟶ outcome_ticked (callback.TimeRegulationEnabled 0)
    ∷ Carry A B ⟶ outcome_carried (carried.Null 1)
    ∷ Call B (service.EnableTimeRegulation 0 1) ⟶ ok
    ∷ Tick B ⟶ outcome_ticked (callback.TimeRegulationEnabled 0)
    ∷ Call B service.EnableTimeConstrained ⟶ ok
    ∷ Tick B ⟶ outcome_ticked (callback.TimeConstrainedEnabled 0)
    ∷ Call A (service.TimeAdvanceRequest 49) ⟶ ok
    ∷ Announce A ⟶ outcome_announced (Some 50)
    ∷ Carry A B ⟶ outcome_carried (carried.Null 50)
    ∷ Call B (service.NextEventRequest 100) ⟶ ok
    ∷ Announce B ⟶ outcome_announced (Some 51)
    ∷ Call C (service.EnableTimeRegulation 0 1) ⟶ ok
    ∷ Tick C ⟶ outcome_ticked (callback.TimeRegulationEnabled 49)
    ∷ Call C (service.SendInteraction hit_class [] (Some 49)) ⟶ outcome_refused fault.InvalidFederationTime
    ∷ Call C (service.SendInteraction hit_class [] (Some 50)) ⟶ outcome_sent (Some (event 3 1))
    ∷ Call B service.QueryLbts ⟶ outcome_with (answer.Time 50)
    ∷ [])

-- null messages of an older epoch are carried and raise no bound
abbrev pub Epoch : Type 0
Epoch = Shows (
    Join (codes "A") ⟶ outcome_with (answer.Federate 1)
    ∷ Join (codes "B") ⟶ outcome_with (answer.Federate 2)
    ∷ Call A (service.PublishInteractionClass hit_class) ⟶ ok
    ∷ Call B (service.SubscribeInteractionClass hit_class) ⟶ ok
    ∷ Call A (service.EnableTimeRegulation 0 1) ⟶ ok
    ∷ Tick A ⟶ outcome_ticked (callback.TimeRegulationEnabled 0)
    ∷ Carry A B ⟶ outcome_carried (carried.Null 1)
    ∷ Call B service.EnableTimeConstrained ⟶ ok
    ∷ Tick B ⟶ outcome_ticked (callback.TimeConstrainedEnabled 0)
    ∷ Call B (service.TimeAdvanceRequest 20) ⟶ ok
    ∷ Call A (service.SendInteraction hit_class [] (Some 20)) ⟶ outcome_sent (Some (event 1 1))
    ∷ Call A service.DisableTimeRegulation ⟶ ok
    ∷ Tick B ⟶ outcome_idle
    ∷ Call A (service.EnableTimeRegulation 0 1) ⟶ ok
    ∷ Carry A B ⟶ outcome_carried (carried.Event (event 1 1))
    ∷ Carry A B ⟶ outcome_carried (carried.Null forever)
    ∷ Carry A B ⟶ outcome_carried (carried.Null 1)
    ∷ Tick B ⟶ outcome_idle
    ∷ Tick A ⟶ outcome_ticked (callback.TimeRegulationEnabled 0)
    ∷ Call A (service.TimeAdvanceRequest 20) ⟶ ok
    ∷ Announce A ⟶ outcome_announced (Some 21)
    ∷ Carry A B ⟶ outcome_carried (carried.Null 21)
    ∷ Tick B ⟶ outcome_ticked (callback.ReceiveInteraction hit_class [] (event 1 1) (delivery.TimeStamp 20))
    ∷ Tick B ⟶ outcome_ticked (callback.TimeAdvanceGrant 20)
    ∷ [])

-- a retraction removes what waits, and else is a request to take the event back
abbrev pub Retraction : Type 0
Retraction = Shows (
    Join (codes "A") ⟶ outcome_with (answer.Federate 1)
    ∷ Join (codes "B") ⟶ outcome_with (answer.Federate 2)
    ∷ Call A (service.PublishInteractionClass hit_class) ⟶ ok
    ∷ Call B (service.SubscribeInteractionClass hit_class) ⟶ ok
    ∷ Call A (service.EnableTimeRegulation 0 1) ⟶ ok
    ∷ Tick A ⟶ outcome_ticked (callback.TimeRegulationEnabled 0)
    ∷ Carry A B ⟶ outcome_carried (carried.Null 1)
    ∷ Call B service.EnableTimeConstrained ⟶ ok
    ∷ Tick B ⟶ outcome_ticked (callback.TimeConstrainedEnabled 0)
    ∷ Call A (service.SendInteraction hit_class [] (Some 9)) ⟶ outcome_sent (Some (event 1 1))
    ∷ Call A (service.Retract (event 1 1)) ⟶ ok
    ∷ Call A (service.Retract (event 1 1)) ⟶ outcome_refused fault.InvalidRetractionHandle
    ∷ Call A (service.SendInteraction hit_class [] (Some 1)) ⟶ outcome_sent (Some (event 1 2))
    ∷ Call A (service.Retract (event 1 2)) ⟶ outcome_refused fault.InvalidRetractionHandle
    ∷ Call A (service.SendInteraction hit_class [] (Some 9)) ⟶ outcome_sent (Some (event 1 3))
    ∷ Carry A B ⟶ outcome_carried (carried.Event (event 1 1))
    ∷ Carry A B ⟶ outcome_carried (carried.Retraction (event 1 1))
    ∷ Carry A B ⟶ outcome_carried (carried.Event (event 1 2))
    ∷ Carry A B ⟶ outcome_carried (carried.Event (event 1 3))
    ∷ Call B (service.FlushQueueRequest 50) ⟶ ok
    ∷ Tick B ⟶ outcome_ticked (callback.ReceiveInteraction hit_class [] (event 1 2) (delivery.TimeStamp 1))
    ∷ Tick B ⟶ outcome_ticked (callback.ReceiveInteraction hit_class [] (event 1 3) (delivery.TimeStamp 9))
    ∷ Tick B ⟶ outcome_ticked (callback.TimeAdvanceGrant 1)
    ∷ Call A (service.Retract (event 1 3)) ⟶ ok
    ∷ Carry A B ⟶ outcome_carried (carried.Retraction (event 1 3))
    ∷ Tick B ⟶ outcome_ticked (callback.RequestRetraction (event 1 3))
    ∷ [])

-- a smaller lookahead lowers no floor
abbrev pub Floor : Type 0
Floor = Shows (
    Join (codes "A") ⟶ outcome_with (answer.Federate 1)
    ∷ Call A (service.PublishInteractionClass hit_class) ⟶ ok
    ∷ Call A (service.EnableTimeRegulation 0 5) ⟶ ok
    ∷ Tick A ⟶ outcome_ticked (callback.TimeRegulationEnabled 0)
    ∷ Call A (service.TimeAdvanceRequest 10) ⟶ ok
    ∷ Tick A ⟶ outcome_ticked (callback.TimeAdvanceGrant 10)
    ∷ Call A (service.ModifyLookahead 1) ⟶ ok
    ∷ Call A (service.SendInteraction hit_class [] (Some 14)) ⟶ outcome_refused fault.InvalidFederationTime
    ∷ Call A (service.SendInteraction hit_class [] (Some 15)) ⟶ outcome_sent (Some (event 1 1))
    ∷ Call A (service.TimeAdvanceRequest 12) ⟶ ok
    ∷ Tick A ⟶ outcome_ticked (callback.TimeAdvanceGrant 12)
    ∷ Call A (service.SendInteraction hit_class [] (Some 14)) ⟶ outcome_refused fault.InvalidFederationTime
    ∷ Call A (service.TimeAdvanceRequest 15) ⟶ ok
    ∷ Tick A ⟶ outcome_ticked (callback.TimeAdvanceGrant 15)
    ∷ Call A (service.SendInteraction hit_class [] (Some 15)) ⟶ outcome_refused fault.InvalidFederationTime
    ∷ Call A (service.SendInteraction hit_class [] (Some 16)) ⟶ outcome_sent (Some (event 1 2))
    ∷ Call A service.QueryLookahead ⟶ outcome_with (answer.Time 1)
    ∷ [])

-- a regulator that resigns frees who waits for it, once its last promise arrives
abbrev pub RegulatorResigns : Type 0
RegulatorResigns = Shows (
    Join (codes "A") ⟶ outcome_with (answer.Federate 1)
    ∷ Join (codes "B") ⟶ outcome_with (answer.Federate 2)
    ∷ Call A (service.PublishInteractionClass hit_class) ⟶ ok
    ∷ Call B (service.SubscribeInteractionClass hit_class) ⟶ ok
    ∷ Call A (service.EnableTimeRegulation 0 1) ⟶ ok
    ∷ Tick A ⟶ outcome_ticked (callback.TimeRegulationEnabled 0)
    ∷ Carry A B ⟶ outcome_carried (carried.Null 1)
    ∷ Call B service.EnableTimeConstrained ⟶ ok
    ∷ Tick B ⟶ outcome_ticked (callback.TimeConstrainedEnabled 0)
    ∷ Call B (service.TimeAdvanceRequest 5) ⟶ ok
    ∷ Tick B ⟶ outcome_idle
    ∷ Call A (service.Resign action.NoAction) ⟶ ok
    ∷ Tick B ⟶ outcome_idle
    ∷ Carry A B ⟶ outcome_carried (carried.Null forever)
    ∷ Tick B ⟶ outcome_ticked (callback.TimeAdvanceGrant 5)
    ∷ [])

-- what waits in time-stamp order is given in receive order after that
abbrev pub CeasingToBeConstrained : Type 0
CeasingToBeConstrained = Shows (
    Join (codes "A") ⟶ outcome_with (answer.Federate 1)
    ∷ Join (codes "B") ⟶ outcome_with (answer.Federate 2)
    ∷ Call A (service.PublishInteractionClass hit_class) ⟶ ok
    ∷ Call B (service.SubscribeInteractionClass hit_class) ⟶ ok
    ∷ Call A (service.EnableTimeRegulation 0 1) ⟶ ok
    ∷ Tick A ⟶ outcome_ticked (callback.TimeRegulationEnabled 0)
    ∷ Carry A B ⟶ outcome_carried (carried.Null 1)
    ∷ Call B service.EnableTimeConstrained ⟶ ok
    ∷ Tick B ⟶ outcome_ticked (callback.TimeConstrainedEnabled 0)
    ∷ Call A (service.SendInteraction hit_class [] (Some 5)) ⟶ outcome_sent (Some (event 1 1))
    ∷ Carry A B ⟶ outcome_carried (carried.Event (event 1 1))
    ∷ Tick B ⟶ outcome_idle
    ∷ Call B service.DisableTimeConstrained ⟶ ok
    ∷ Tick B ⟶ outcome_ticked (callback.ReceiveInteraction hit_class [] (event 1 1) (delivery.Demoted 5))
    ∷ [])

-- a newcomer among the regulators enters no lower than a constrained federate's bar
abbrev pub BarAboveEntry : Type 0
BarAboveEntry = Shows (
    Join (codes "A") ⟶ outcome_with (answer.Federate 1)
    ∷ Join (codes "B") ⟶ outcome_with (answer.Federate 2)
    ∷ Join (codes "C") ⟶ outcome_with (answer.Federate 3)
    ∷ Call B service.EnableTimeConstrained ⟶ ok
    ∷ Tick B ⟶ outcome_ticked (callback.TimeConstrainedEnabled 0)
    ∷ Call B (service.TimeAdvanceRequest 10) ⟶ ok
    ∷ Tick B ⟶ outcome_ticked (callback.TimeAdvanceGrant 10)
    ∷ Call C (service.EnableTimeRegulation 0 1) ⟶ ok
    ∷ Tick C ⟶ outcome_ticked (callback.TimeRegulationEnabled 10)
    ∷ Carry C B ⟶ outcome_carried (carried.Null 11)
    ∷ Call B service.QueryLbts ⟶ outcome_with (answer.Time 11)
    ∷ [])
