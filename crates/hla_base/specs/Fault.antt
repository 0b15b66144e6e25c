-- The numbers and names of faults
use Rattle.std.specs.Prelude.{ℕ, List, codes}
use Rattle.hla_base.specs.declared.fault.Fault.{Fault}
use Rattle.hla_base.specs.declared.fault.Fault.TheVariants.{FederationExecutionAlreadyExists, FederationExecutionDoesNotExist, FederatesCurrentlyJoined, ErrorReadingFED, FederateAlreadyExecutionMember, FederateNotExecutionMember, FederateOwnsAttributes, ObjectClassNotDefined, AttributeNotDefined, ObjectClassNotPublished, AttributeNotPublished, ObjectClassNotSubscribed, InteractionClassNotDefined, InteractionParameterNotDefined, InteractionClassNotPublished, InteractionClassNotSubscribed, ObjectAlreadyRegistered, ObjectNotKnown, AttributeNotOwned, DeletePrivilegeNotHeld, InvalidFederationTime, InvalidLookahead, FederationTimeAlreadyPassed, TimeAdvanceAlreadyInProgress, TimeRegulationAlreadyEnabled, EnableTimeRegulationPending, TimeRegulationWasNotEnabled, TimeConstrainedAlreadyEnabled, EnableTimeConstrainedPending, TimeConstrainedWasNotEnabled, AsynchronousDeliveryAlreadyEnabled, AsynchronousDeliveryAlreadyDisabled, InvalidRetractionHandle, NameNotFound, FederateInternalError, LimitReached, HistoryFull, OutOfMemory, InvalidResignAction, SynchronizationPointLabelWasNotAnnounced}

-- the number of a fault
abbrev pub number_of : Fault → ℕ
number_of FederationExecutionAlreadyExists = 1
number_of FederationExecutionDoesNotExist = 2
number_of FederatesCurrentlyJoined = 3
number_of ErrorReadingFED = 4
number_of FederateAlreadyExecutionMember = 5
number_of FederateNotExecutionMember = 6
number_of FederateOwnsAttributes = 7
number_of ObjectClassNotDefined = 8
number_of AttributeNotDefined = 9
number_of ObjectClassNotPublished = 10
number_of AttributeNotPublished = 11
number_of ObjectClassNotSubscribed = 12
number_of InteractionClassNotDefined = 13
number_of InteractionParameterNotDefined = 14
number_of InteractionClassNotPublished = 15
number_of InteractionClassNotSubscribed = 16
number_of ObjectAlreadyRegistered = 17
number_of ObjectNotKnown = 18
number_of AttributeNotOwned = 19
number_of DeletePrivilegeNotHeld = 20
number_of InvalidFederationTime = 21
number_of InvalidLookahead = 22
number_of FederationTimeAlreadyPassed = 23
number_of TimeAdvanceAlreadyInProgress = 24
number_of TimeRegulationAlreadyEnabled = 25
number_of EnableTimeRegulationPending = 26
number_of TimeRegulationWasNotEnabled = 27
number_of TimeConstrainedAlreadyEnabled = 28
number_of EnableTimeConstrainedPending = 29
number_of TimeConstrainedWasNotEnabled = 30
number_of AsynchronousDeliveryAlreadyEnabled = 31
number_of AsynchronousDeliveryAlreadyDisabled = 32
number_of InvalidRetractionHandle = 33
number_of NameNotFound = 34
number_of FederateInternalError = 35
number_of LimitReached = 36
number_of HistoryFull = 37
number_of OutOfMemory = 38
number_of InvalidResignAction = 39
number_of SynchronizationPointLabelWasNotAnnounced = 40

-- its name
abbrev pub name_of : Fault → List ℕ
name_of FederationExecutionAlreadyExists = codes "FederationExecutionAlreadyExists"
name_of FederationExecutionDoesNotExist = codes "FederationExecutionDoesNotExist"
name_of FederatesCurrentlyJoined = codes "FederatesCurrentlyJoined"
name_of ErrorReadingFED = codes "ErrorReadingFED"
name_of FederateAlreadyExecutionMember = codes "FederateAlreadyExecutionMember"
name_of FederateNotExecutionMember = codes "FederateNotExecutionMember"
name_of FederateOwnsAttributes = codes "FederateOwnsAttributes"
name_of ObjectClassNotDefined = codes "ObjectClassNotDefined"
name_of AttributeNotDefined = codes "AttributeNotDefined"
name_of ObjectClassNotPublished = codes "ObjectClassNotPublished"
name_of AttributeNotPublished = codes "AttributeNotPublished"
name_of ObjectClassNotSubscribed = codes "ObjectClassNotSubscribed"
name_of InteractionClassNotDefined = codes "InteractionClassNotDefined"
name_of InteractionParameterNotDefined = codes "InteractionParameterNotDefined"
name_of InteractionClassNotPublished = codes "InteractionClassNotPublished"
name_of InteractionClassNotSubscribed = codes "InteractionClassNotSubscribed"
name_of ObjectAlreadyRegistered = codes "ObjectAlreadyRegistered"
name_of ObjectNotKnown = codes "ObjectNotKnown"
name_of AttributeNotOwned = codes "AttributeNotOwned"
name_of DeletePrivilegeNotHeld = codes "DeletePrivilegeNotHeld"
name_of InvalidFederationTime = codes "InvalidFederationTime"
name_of InvalidLookahead = codes "InvalidLookahead"
name_of FederationTimeAlreadyPassed = codes "FederationTimeAlreadyPassed"
name_of TimeAdvanceAlreadyInProgress = codes "TimeAdvanceAlreadyInProgress"
name_of TimeRegulationAlreadyEnabled = codes "TimeRegulationAlreadyEnabled"
name_of EnableTimeRegulationPending = codes "EnableTimeRegulationPending"
name_of TimeRegulationWasNotEnabled = codes "TimeRegulationWasNotEnabled"
name_of TimeConstrainedAlreadyEnabled = codes "TimeConstrainedAlreadyEnabled"
name_of EnableTimeConstrainedPending = codes "EnableTimeConstrainedPending"
name_of TimeConstrainedWasNotEnabled = codes "TimeConstrainedWasNotEnabled"
name_of AsynchronousDeliveryAlreadyEnabled = codes "AsynchronousDeliveryAlreadyEnabled"
name_of AsynchronousDeliveryAlreadyDisabled = codes "AsynchronousDeliveryAlreadyDisabled"
name_of InvalidRetractionHandle = codes "InvalidRetractionHandle"
name_of NameNotFound = codes "NameNotFound"
name_of FederateInternalError = codes "FederateInternalError"
name_of LimitReached = codes "LimitReached"
name_of HistoryFull = codes "HistoryFull"
name_of OutOfMemory = codes "OutOfMemory"
name_of InvalidResignAction = codes "InvalidResignAction"
name_of SynchronizationPointLabelWasNotAnnounced = codes "SynchronizationPointLabelWasNotAnnounced"
