-- Worked examples of synchronization points
use Rattle.std.specs.Prelude.{◌≡◌, codes, [], ◌∷◌}
use Rattle.hla_machine.specs.declared.service.Service.TheVariants as service
use Rattle.hla_machine.specs.declared.service.ResignAction.TheVariants as action
use Rattle.hla_machine.specs.declared.step.Answer.TheVariants as answer
use Rattle.hla_base.specs.declared.fault.Fault.TheVariants as fault
use Rattle.hla_callbacks.specs.declared.callback.Callback.TheVariants as callback
use Rattle.hla_machine.specs.declared.step.Step.TheVariants.{Join, Call, Tick}
use Rattle.hla_components.specs.Examples.Words.{Shows, ◌⟶◌, A, B, C, outcome_refused, outcome_with, outcome_idle, outcome_ticked, ok}

-- a point closes when the last of its members has achieved it, each after it was told of it; then its label is free again
abbrev pub Synchronization : Type 0
Synchronization = Shows (
    Join (codes "A") ⟶ outcome_with (answer.Federate 1)
    ∷ Join (codes "B") ⟶ outcome_with (answer.Federate 2)
    ∷ Call A (service.RegisterFederationSynchronizationPoint (codes "go")) ⟶ ok
    ∷ Call A (service.SynchronizationPointAchieved (codes "go")) ⟶ outcome_refused fault.SynchronizationPointLabelWasNotAnnounced
    ∷ Tick A ⟶ outcome_ticked (callback.SynchronizationPointRegistrationSucceeded (codes "go"))
    ∷ Tick A ⟶ outcome_ticked (callback.AnnounceSynchronizationPoint (codes "go"))
    ∷ Call B (service.RegisterFederationSynchronizationPoint (codes "go")) ⟶ ok
    ∷ Tick B ⟶ outcome_ticked (callback.AnnounceSynchronizationPoint (codes "go"))
    ∷ Tick B ⟶ outcome_ticked (callback.SynchronizationPointRegistrationFailed (codes "go"))
    ∷ Call A (service.SynchronizationPointAchieved (codes "go")) ⟶ ok
    ∷ Call A (service.SynchronizationPointAchieved (codes "go")) ⟶ outcome_refused fault.SynchronizationPointLabelWasNotAnnounced
    ∷ Tick A ⟶ outcome_idle
    ∷ Call B (service.SynchronizationPointAchieved (codes "go")) ⟶ ok
    ∷ Tick A ⟶ outcome_ticked (callback.FederationSynchronized (codes "go"))
    ∷ Tick B ⟶ outcome_ticked (callback.FederationSynchronized (codes "go"))
    ∷ Call B (service.RegisterFederationSynchronizationPoint (codes "go")) ⟶ ok
    ∷ Tick B ⟶ outcome_ticked (callback.SynchronizationPointRegistrationSucceeded (codes "go"))
    ∷ [])

-- a federate that joins is told of the point, and one that resigns is waited for no more
abbrev pub SynchronizationWithResignation : Type 0
SynchronizationWithResignation = Shows (
    Join (codes "A") ⟶ outcome_with (answer.Federate 1)
    ∷ Join (codes "B") ⟶ outcome_with (answer.Federate 2)
    ∷ Call A (service.RegisterFederationSynchronizationPoint (codes "go")) ⟶ ok
    ∷ Tick A ⟶ outcome_ticked (callback.SynchronizationPointRegistrationSucceeded (codes "go"))
    ∷ Tick A ⟶ outcome_ticked (callback.AnnounceSynchronizationPoint (codes "go"))
    ∷ Join (codes "C") ⟶ outcome_with (answer.Federate 3)
    ∷ Tick C ⟶ outcome_ticked (callback.AnnounceSynchronizationPoint (codes "go"))
    ∷ Call A (service.SynchronizationPointAchieved (codes "go")) ⟶ ok
    ∷ Call C (service.SynchronizationPointAchieved (codes "go")) ⟶ ok
    ∷ Tick A ⟶ outcome_idle
    ∷ Call B (service.Resign action.NoAction) ⟶ ok
    ∷ Tick A ⟶ outcome_ticked (callback.FederationSynchronized (codes "go"))
    ∷ Tick C ⟶ outcome_ticked (callback.FederationSynchronized (codes "go"))
    ∷ [])

-- two points at once: a second registration fails, who joins is told of both in order of opening, and a label is used again
abbrev pub PointsAndMembership : Type 0
PointsAndMembership = Shows (
    Join (codes "A") ⟶ outcome_with (answer.Federate 1)
    ∷ Join (codes "B") ⟶ outcome_with (answer.Federate 2)
    ∷ Call A (service.RegisterFederationSynchronizationPoint (codes "one")) ⟶ ok
    ∷ Call A (service.RegisterFederationSynchronizationPoint (codes "two")) ⟶ ok
    ∷ Call B (service.RegisterFederationSynchronizationPoint (codes "one")) ⟶ ok
    ∷ Tick A ⟶ outcome_ticked (callback.SynchronizationPointRegistrationSucceeded (codes "one"))
    ∷ Tick A ⟶ outcome_ticked (callback.AnnounceSynchronizationPoint (codes "one"))
    ∷ Tick A ⟶ outcome_ticked (callback.SynchronizationPointRegistrationSucceeded (codes "two"))
    ∷ Tick A ⟶ outcome_ticked (callback.AnnounceSynchronizationPoint (codes "two"))
    ∷ Tick A ⟶ outcome_idle
    ∷ Tick B ⟶ outcome_ticked (callback.AnnounceSynchronizationPoint (codes "one"))
    ∷ Tick B ⟶ outcome_ticked (callback.AnnounceSynchronizationPoint (codes "two"))
    ∷ Tick B ⟶ outcome_ticked (callback.SynchronizationPointRegistrationFailed (codes "one"))
    ∷ Tick B ⟶ outcome_idle
    ∷ Call A (service.SynchronizationPointAchieved (codes "two")) ⟶ ok
    ∷ Call A (service.SynchronizationPointAchieved (codes "one")) ⟶ ok
    ∷ Join (codes "C") ⟶ outcome_with (answer.Federate 3)
    ∷ Call C (service.SynchronizationPointAchieved (codes "one")) ⟶ outcome_refused fault.SynchronizationPointLabelWasNotAnnounced
    ∷ Tick C ⟶ outcome_ticked (callback.AnnounceSynchronizationPoint (codes "one"))
    ∷ Call C (service.SynchronizationPointAchieved (codes "one")) ⟶ ok
    ∷ Tick C ⟶ outcome_ticked (callback.AnnounceSynchronizationPoint (codes "two"))
    ∷ Tick C ⟶ outcome_idle
    ∷ Call B (service.SynchronizationPointAchieved (codes "two")) ⟶ ok
    ∷ Call C (service.SynchronizationPointAchieved (codes "two")) ⟶ ok
    ∷ Tick A ⟶ outcome_ticked (callback.FederationSynchronized (codes "two"))
    ∷ Tick B ⟶ outcome_ticked (callback.FederationSynchronized (codes "two"))
    ∷ Tick C ⟶ outcome_ticked (callback.FederationSynchronized (codes "two"))
    ∷ Call B (service.SynchronizationPointAchieved (codes "one")) ⟶ ok
    ∷ Call A (service.RegisterFederationSynchronizationPoint (codes "one")) ⟶ ok
    ∷ Tick A ⟶ outcome_ticked (callback.FederationSynchronized (codes "one"))
    ∷ Tick A ⟶ outcome_ticked (callback.SynchronizationPointRegistrationSucceeded (codes "one"))
    ∷ Tick A ⟶ outcome_ticked (callback.AnnounceSynchronizationPoint (codes "one"))
    ∷ Tick A ⟶ outcome_idle
    ∷ Tick B ⟶ outcome_ticked (callback.FederationSynchronized (codes "one"))
    ∷ Tick B ⟶ outcome_ticked (callback.AnnounceSynchronizationPoint (codes "one"))
    ∷ Tick C ⟶ outcome_ticked (callback.FederationSynchronized (codes "one"))
    ∷ Tick C ⟶ outcome_ticked (callback.AnnounceSynchronizationPoint (codes "one"))
    ∷ Tick C ⟶ outcome_idle
    ∷ Call B (service.Resign action.NoAction) ⟶ ok
    ∷ Call A (service.SynchronizationPointAchieved (codes "one")) ⟶ ok
    ∷ Call C (service.SynchronizationPointAchieved (codes "one")) ⟶ ok
    ∷ Tick A ⟶ outcome_ticked (callback.FederationSynchronized (codes "one"))
    ∷ Tick C ⟶ outcome_ticked (callback.FederationSynchronized (codes "one"))
    ∷ Tick A ⟶ outcome_idle
    ∷ Tick C ⟶ outcome_idle
    ∷ [])

-- one resignation closes what only that federate had not achieved, in order of opening; and what nobody is a member of closes silently
abbrev pub PointsThatOneLeavingCloses : Type 0
PointsThatOneLeavingCloses = Shows (
    Join (codes "A") ⟶ outcome_with (answer.Federate 1)
    ∷ Join (codes "B") ⟶ outcome_with (answer.Federate 2)
    ∷ Join (codes "C") ⟶ outcome_with (answer.Federate 3)
    ∷ Call A (service.RegisterFederationSynchronizationPoint (codes "first")) ⟶ ok
    ∷ Call B (service.RegisterFederationSynchronizationPoint (codes "second")) ⟶ ok
    ∷ Call C (service.RegisterFederationSynchronizationPoint (codes "third")) ⟶ ok
    ∷ Tick A ⟶ outcome_ticked (callback.SynchronizationPointRegistrationSucceeded (codes "first"))
    ∷ Tick A ⟶ outcome_ticked (callback.AnnounceSynchronizationPoint (codes "first"))
    ∷ Tick A ⟶ outcome_ticked (callback.AnnounceSynchronizationPoint (codes "second"))
    ∷ Tick A ⟶ outcome_ticked (callback.AnnounceSynchronizationPoint (codes "third"))
    ∷ Tick A ⟶ outcome_idle
    ∷ Tick B ⟶ outcome_ticked (callback.AnnounceSynchronizationPoint (codes "first"))
    ∷ Tick B ⟶ outcome_ticked (callback.SynchronizationPointRegistrationSucceeded (codes "second"))
    ∷ Tick B ⟶ outcome_ticked (callback.AnnounceSynchronizationPoint (codes "second"))
    ∷ Tick B ⟶ outcome_ticked (callback.AnnounceSynchronizationPoint (codes "third"))
    ∷ Tick C ⟶ outcome_ticked (callback.AnnounceSynchronizationPoint (codes "first"))
    ∷ Tick C ⟶ outcome_ticked (callback.AnnounceSynchronizationPoint (codes "second"))
    ∷ Tick C ⟶ outcome_ticked (callback.SynchronizationPointRegistrationSucceeded (codes "third"))
    ∷ Tick C ⟶ outcome_ticked (callback.AnnounceSynchronizationPoint (codes "third"))
    ∷ Call A (service.SynchronizationPointAchieved (codes "third")) ⟶ ok
    ∷ Call A (service.SynchronizationPointAchieved (codes "first")) ⟶ ok
    ∷ Call A (service.SynchronizationPointAchieved (codes "second")) ⟶ ok
    ∷ Call B (service.SynchronizationPointAchieved (codes "second")) ⟶ ok
    ∷ Call B (service.SynchronizationPointAchieved (codes "first")) ⟶ ok
    ∷ Call B (service.SynchronizationPointAchieved (codes "third")) ⟶ ok
    ∷ Call C (service.SynchronizationPointAchieved (codes "second")) ⟶ ok
    ∷ Tick A ⟶ outcome_ticked (callback.FederationSynchronized (codes "second"))
    ∷ Tick B ⟶ outcome_ticked (callback.FederationSynchronized (codes "second"))
    ∷ Call C (service.Resign action.NoAction) ⟶ ok
    ∷ Tick A ⟶ outcome_ticked (callback.FederationSynchronized (codes "first"))
    ∷ Tick A ⟶ outcome_ticked (callback.FederationSynchronized (codes "third"))
    ∷ Tick A ⟶ outcome_idle
    ∷ Tick B ⟶ outcome_ticked (callback.FederationSynchronized (codes "first"))
    ∷ Tick B ⟶ outcome_ticked (callback.FederationSynchronized (codes "third"))
    ∷ Tick B ⟶ outcome_idle
    ∷ Call A (service.RegisterFederationSynchronizationPoint (codes "last")) ⟶ ok
    ∷ Call B (service.Resign action.NoAction) ⟶ ok
    ∷ Call A (service.Resign action.NoAction) ⟶ ok
    ∷ Join (codes "D") ⟶ outcome_with (answer.Federate 4)
    ∷ Tick 4 ⟶ outcome_idle
    ∷ Call 4 (service.RegisterFederationSynchronizationPoint (codes "last")) ⟶ ok
    ∷ Tick 4 ⟶ outcome_ticked (callback.SynchronizationPointRegistrationSucceeded (codes "last"))
    ∷ Tick 4 ⟶ outcome_ticked (callback.AnnounceSynchronizationPoint (codes "last"))
    ∷ Call 4 (service.SynchronizationPointAchieved (codes "last")) ⟶ ok
    ∷ Tick 4 ⟶ outcome_ticked (callback.FederationSynchronized (codes "last"))
    ∷ [])
