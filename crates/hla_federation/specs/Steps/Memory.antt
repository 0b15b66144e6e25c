-- Which steps may be refused for want of memory; no other step ever is
use Rattle.std.specs.Prelude.{◌≡◌, ◌⊎◌, ◌&&◌, ◌||◌, ltb, Bool, true, false, None, Some}
use Rattle.hla_base.specs.declared.fault.Fault.{Fault}
use Rattle.hla_base.specs.declared.fault.Fault.TheVariants.{OutOfMemory}
use Rattle.hla_component_rules.specs.Picking.{Pick, PickConstrains, pick, picked_by, copies_content}
use Rattle.hla_machine.specs.declared.service.Service.{Service}
use Rattle.hla_machine.specs.declared.service.Service.TheVariants as service
use Rattle.hla_machine.specs.declared.step.Choice.{Choice}
use Rattle.hla_machine.specs.declared.step.Choice.TheVariants as choice
use Rattle.hla_machine.specs.declared.step.Step.{Step}
use Rattle.hla_machine.specs.declared.step.Step.TheVariants.{Join, Call, Carry, Announce, Tick}
use Rattle.hla_machine.specs.Refusals.{refusal}
use Rattle.hla_base.specs.Rows.{is_regulator}
use Rattle.hla_components.specs.Components.{Components}
use Rattle.hla_components.specs.Component.{promise, local_bound}
use Rattle.hla_components.specs.Next.{components_seen}
use Rattle.hla_members.specs.Members.{arrival_takes_memory}

-- only what moves as a federate becomes constrained takes memory
abbrev pub pick_takes_memory : Pick → Bool
pick_takes_memory PickConstrains = true
pick_takes_memory p = false

-- of what a step may choose only the list of what moves takes memory; a step that is refused chooses none
abbrev pub choice_takes_memory : Choice → Bool
choice_takes_memory (choice.Moved moved) = true
choice_takes_memory c = false

-- lists, names and messages take memory, but no row of a federate does
abbrev pub service_takes_memory : Service → Bool
service_takes_memory (service.UnpublishObjectClass class) = false
service_takes_memory (service.UnsubscribeObjectClass class) = false
service_takes_memory (service.PublishInteractionClass class) = false
service_takes_memory (service.UnpublishInteractionClass class) = false
service_takes_memory (service.SubscribeInteractionClass class) = false
service_takes_memory (service.UnsubscribeInteractionClass class) = false
service_takes_memory (service.GetObjectClassHandle name) = false
service_takes_memory (service.GetInteractionClassHandle name) = false
service_takes_memory (service.GetAttributeHandle name class) = false
service_takes_memory (service.GetParameterHandle name class) = false
service_takes_memory (service.GetObjectInstanceHandle name) = false
service_takes_memory service.EnableTimeConstrained = false
service_takes_memory (service.TimeAdvanceRequest time) = false
service_takes_memory (service.TimeAdvanceRequestAvailable time) = false
service_takes_memory (service.NextEventRequest time) = false
service_takes_memory (service.NextEventRequestAvailable time) = false
service_takes_memory (service.FlushQueueRequest time) = false
service_takes_memory (service.ModifyLookahead lookahead) = false
service_takes_memory service.EnableAsynchronousDelivery = false
service_takes_memory service.DisableAsynchronousDelivery = false
service_takes_memory service.QueryLbts = false
service_takes_memory service.QueryFederateTime = false
service_takes_memory service.QueryMinNextEventTime = false
service_takes_memory service.QueryLookahead = false
service_takes_memory service = true

-- a tick gives what has arrived, and what it gives was made when it was sent; an announcement takes memory where it is made
abbrev pub takes_memory : Components → Step → Bool
takes_memory s (Join name) = true
takes_memory s (Call f service) = service_takes_memory service
takes_memory s (Carry from to) = arrival_takes_memory (s.wire from to)
takes_memory s (Announce f) = is_regulator (s.row f) && ltb (s.last_announced f) (promise s f)
takes_memory s (Tick f) = pick_takes_memory (pick (s.controls f) (s.row f) (s.ro f) (s.tso f) (local_bound s f))

-- to foresee a step takes memory where the step does, and where a tick would give a message, a discovery or a notice, for its copy
abbrev pub foresight_takes_memory : Components → Step → Bool
foresight_takes_memory s (Tick f) = let p = pick (s.controls f) (s.row f) (s.ro f) (s.tso f) (local_bound s f) in pick_takes_memory p || copies_content (picked_by (s.row f) p)
foresight_takes_memory s step = takes_memory s step

-- refused as the definitions say; or for want of memory, where they say nothing and the step takes any
abbrev pub IsRefusedWith : Components → Step → Fault → Type 0
IsRefusedWith s step e = (refusal (components_seen s) step ≡ Some e) ⊎ ((refusal (components_seen s) step ≡ None) × (e ≡ OutOfMemory) × (takes_memory s step ≡ true))
