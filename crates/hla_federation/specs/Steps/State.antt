-- What a federation's parts keep, and what a step ends in
use Rattle.std.specs.Prelude.{ℕ, ◌+◌, ◌≡◌, ◌≤◌, true, false, Some, None, length, Result, Ok, Err}
use Rattle.hla_base.specs.declared.fault.Fault.{Fault}
use Rattle.hla_base.specs.Limits.{forever, max_joins}
use Rattle.hla_lbts.specs.Peers.{PeersValue, peers_of}
use Rattle.hla_catalogue.specs.CatalogueValue.{CatalogueValue}
use Rattle.hla_declaration.specs.Declarations as declared
use Rattle.hla_declaration.specs.Declarations.{DeclarationsValue}
use Rattle.hla_machine.specs.Registered.{registry_of}
use Rattle.hla_machine.specs.declared.service.Service.{Service}
use Rattle.hla_machine.specs.declared.service.Service.TheVariants as service
use Rattle.hla_machine.specs.declared.step.Step.{Step}
use Rattle.hla_machine.specs.declared.step.Answer.{Answer}
use Rattle.hla_machine.specs.declared.step.Answer.TheVariants as answer
use Rattle.hla_machine.specs.declared.step.Outcome.TheVariants as outcome
use Rattle.hla_machine.specs.Directory.{default_name}
use Rattle.hla_machine.specs.Refusals.{refusal}
use Rattle.hla_components.specs.Next.{next, answer_outcome, components_seen}
use Rattle.hla_federation.specs.Steps.Memory.{IsRefusedWith}
use Rattle.hla_execution.specs.MemberValue.{MemberTables, members_of}
use Rattle.hla_federation.specs.FederationValue.{FederationValue}
pub use Rattle.hla_execution.specs.StateOf.{directory_from, state_from, state_of}

-- nobody has declared anything
abbrev pub nothing_declared : ℕ → ℕ → DeclarationsValue
nothing_declared object_classes interaction_classes = record {
  federates = 0;
  object_classes = object_classes;
  interaction_classes = interaction_classes;
  published = λ _ _. None;
  subscribed = λ _ _. None;
  published_interaction = λ _ _. false;
  subscribed_interaction = λ _ _. false;
  interaction_orders = λ _ _. None;
}

-- a federate that is not joined subscribes nothing of a class
pub record SubscribesNothing (d : DeclarationsValue) (f class : ℕ) : Type 0 where
  pub objects : d.subscribed f class ≡ None
  pub interactions : d.subscribed_interaction f class ≡ false

-- nothing is known of a federate that has never joined
pub record IsUnmet (p : PeersValue) (g : ℕ) : Type 0 where
  pub bound : p.bound g ≡ forever
  pub epoch : p.known_epoch g ≡ 0

-- the parts are of one execution
pub record AreWhole (c : CatalogueValue) (d : DeclarationsValue) (m : MemberTables) : Type 0 where
  pub few : m.next_federate ≤ max_joins + 1
  pub federates : d.federates + 1 ≡ m.next_federate
  pub object_classes : d.object_classes ≡ length c.object_classes
  pub interaction_classes : d.interaction_classes ≡ length c.interaction_classes
  pub silent : (f class : ℕ) → m.joined f ≡ false → SubscribesNothing d f class
  pub unmet : (f g : ℕ) → m.next_federate ≤ g → IsUnmet (peers_of (m.local f).peers) g

-- the name of the next object is there once somebody is joined
abbrev pub IsNamed : FederationValue → Type 0
IsNamed v = (f : ℕ) → (members_of v.members).joined f ≡ true → v.next_name ≡ default_name (registry_of v.objects).next_object

pub record IsWhole (v : FederationValue) : Type 0 where
  pub parts : AreWhole v.catalogue (declared.declarations_of v.declarations) (members_of v.members)
  pub named : IsNamed v

-- ---- what a step ends in
-- it does what the next-state function says; or it is refused, as that says or for memory where it takes any, and then
-- changes nothing
abbrev pub Ends : FederationValue → Step → Result Answer Fault → FederationValue → Type 0
Ends old step (Ok a) new = next (state_of old) step ≡ answer_outcome a (state_of new)
Ends old step (Err e) new = IsRefusedWith (state_of old) step e × (new ≡ old)

-- the same of a step that may choose
abbrev pub EndsChosen : FederationValue → Step → Result Answer Fault → FederationValue → Type 0
EndsChosen old step (Ok a) new = ((next (state_of old) step).outcome ≡ outcome.Done a) × ((next (state_of old) step).state ≡ state_of new)
EndsChosen old step (Err e) new = IsRefusedWith (state_of old) step e × (new ≡ old)

-- a step that only asks leaves all as it is
abbrev pub Answers : FederationValue → Step → Result Answer Fault → Type 0
Answers v step result = Ends v step result v

-- a look-up gives the handle that it answers, or the fault with which it is refused
abbrev pub GivesHandle : FederationValue → Step → Result ℕ Fault → Type 0
GivesHandle v step (Ok handle) = next (state_of v) step ≡ answer_outcome (answer.Handle handle) (state_of v)
GivesHandle v step (Err e) = refusal (components_seen (state_of v)) step ≡ Some e

-- the support services that look names and numbers up
abbrev pub IsLookUp : Service → Type 0
IsLookUp (service.GetObjectClassHandle name) = Unit {0}
IsLookUp (service.GetInteractionClassHandle name) = Unit {0}
IsLookUp (service.GetAttributeHandle name class) = Unit {0}
IsLookUp (service.GetParameterHandle name class) = Unit {0}
IsLookUp (service.GetObjectInstanceHandle name) = Unit {0}
IsLookUp (service.GetObjectInstanceName object) = Unit {0}
IsLookUp service = ⊥

-- the queries and the support services, which change nothing
abbrev pub IsQuestion : Service → Type 0
IsQuestion service.QueryLbts = Unit {0}
IsQuestion service.QueryFederateTime = Unit {0}
IsQuestion service.QueryMinNextEventTime = Unit {0}
IsQuestion service.QueryLookahead = Unit {0}
IsQuestion service = IsLookUp service

-- the services of time management that change something
abbrev pub IsTimeService : Service → Type 0
IsTimeService (service.EnableTimeRegulation time lookahead) = Unit {0}
IsTimeService service.DisableTimeRegulation = Unit {0}
IsTimeService service.EnableTimeConstrained = Unit {0}
IsTimeService service.DisableTimeConstrained = Unit {0}
IsTimeService (service.TimeAdvanceRequest time) = Unit {0}
IsTimeService (service.TimeAdvanceRequestAvailable time) = Unit {0}
IsTimeService (service.NextEventRequest time) = Unit {0}
IsTimeService (service.NextEventRequestAvailable time) = Unit {0}
IsTimeService (service.FlushQueueRequest time) = Unit {0}
IsTimeService (service.ModifyLookahead lookahead) = Unit {0}
IsTimeService service.EnableAsynchronousDelivery = Unit {0}
IsTimeService service.DisableAsynchronousDelivery = Unit {0}
IsTimeService (service.Retract event) = Unit {0}
IsTimeService service = ⊥
