-- Which calls and callbacks a test is for, where another test is for the others
use Rattle.hla_callbacks.specs.declared.callback.Callback.{Callback}
use Rattle.hla_callbacks.specs.declared.callback.Callback.TheVariants as callback
use Rattle.hla_machine.specs.declared.service.Service.{Service}
use Rattle.hla_machine.specs.declared.service.Service.TheVariants as service

-- the calls of time management that do more than change their caller's row or ask for a time
abbrev pub IsMovingCall : Service → Type 0
IsMovingCall (service.Retract event) = Unit {0}
IsMovingCall (service.EnableTimeRegulation time lookahead) = Unit {0}
IsMovingCall service.DisableTimeConstrained = Unit {0}
IsMovingCall s = ⊥

-- the look-ups
abbrev pub IsLookUpCall : Service → Type 0
IsLookUpCall (service.GetObjectClassHandle name) = Unit {0}
IsLookUpCall (service.GetInteractionClassHandle name) = Unit {0}
IsLookUpCall (service.GetAttributeHandle name class) = Unit {0}
IsLookUpCall (service.GetParameterHandle name class) = Unit {0}
IsLookUpCall (service.GetObjectInstanceHandle name) = Unit {0}
IsLookUpCall (service.GetObjectInstanceName object) = Unit {0}
IsLookUpCall s = ⊥

-- the calls that neither change a row alone, nor ask for a time, nor change one declaration alone
abbrev pub IsOtherCall : Service → Type 0
IsOtherCall (service.Resign way) = Unit {0}
IsOtherCall (service.PublishObjectClass class attributes) = Unit {0}
IsOtherCall (service.SubscribeObjectClassAttributes class attributes) = Unit {0}
IsOtherCall (service.RegisterObjectInstance class name) = Unit {0}
IsOtherCall (service.UpdateAttributeValues object values stamp) = Unit {0}
IsOtherCall (service.SendInteraction class values stamp) = Unit {0}
IsOtherCall (service.DeleteObjectInstance object stamp) = Unit {0}
IsOtherCall (service.ChangeAttributeOrderType object attributes order) = Unit {0}
IsOtherCall (service.ChangeInteractionOrderType class order) = Unit {0}
IsOtherCall (service.RegisterFederationSynchronizationPoint label) = Unit {0}
IsOtherCall (service.SynchronizationPointAchieved label) = Unit {0}
IsOtherCall (service.Retract event) = Unit {0}
IsOtherCall (service.EnableTimeRegulation time lookahead) = Unit {0}
IsOtherCall service.DisableTimeConstrained = Unit {0}
IsOtherCall s = IsLookUpCall s

-- the calls that register or achieve a synchronization point
abbrev pub IsPointCall : Service → Type 0
IsPointCall (service.RegisterFederationSynchronizationPoint label) = Unit {0}
IsPointCall (service.SynchronizationPointAchieved label) = Unit {0}
IsPointCall s = ⊥

-- the callbacks that bring no message with values, no discovery, and nothing of synchronization points
abbrev pub IsPlainPick : Callback → Type 0
IsPlainPick (callback.DiscoverObjectInstance object class name) = ⊥
IsPlainPick (callback.ReflectAttributeValues object values event delivery) = ⊥
IsPlainPick (callback.ReceiveInteraction class values event delivery) = ⊥
IsPlainPick (callback.SynchronizationPointRegistrationSucceeded label) = ⊥
IsPlainPick (callback.SynchronizationPointRegistrationFailed label) = ⊥
IsPlainPick (callback.AnnounceSynchronizationPoint label) = ⊥
IsPlainPick (callback.FederationSynchronized label) = ⊥
IsPlainPick k = Unit {0}
