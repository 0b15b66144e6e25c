-- What a step makes of who has joined, and when it tells something.
use Rattle.std.proofs.Common.{◌≡◌, ℕ, Bool, true, false, cond, List, [], ◌∷◌, Option, Some, None, refl, ◌∙◌, ap, inl, inr, ◌⊎◌}
use Rattle.hla_base.specs.declared.fault.Fault.{Fault}
use Rattle.hla_base.specs.Tables.{upd}
use Rattle.hla_null_message.specs.declared.message.Message.{Message}
use Rattle.hla_null_message.specs.declared.message.Message.TheVariants as message
use Rattle.hla_component_rules.specs.declared.control.Control.TheVariants.{ToDiscover, ToRetract, ToTell}
use Rattle.hla_callbacks.specs.declared.callback.Callback.{Callback}
use Rattle.hla_component_rules.specs.Picking.{Pick, NoPick, PickControl, PickRo, PickRegulates, PickConstrains, PickTso, PickGrant, pick}
use Rattle.hla_machine.specs.declared.service.Service.{Service}
use Rattle.hla_machine.specs.declared.service.Service.TheVariants as service
use Rattle.hla_machine.specs.declared.service.ResignAction.{ResignAction}
use Rattle.hla_machine.specs.declared.service.ResignAction.TheVariants.{ReleaseAttributes, DeleteObjects, DeleteObjectsAndReleaseAttributes, NoAction}
use Rattle.hla_machine.specs.declared.step.Step.{Step}
use Rattle.hla_machine.specs.declared.step.Step.TheVariants.{Join, Call, Carry, Announce, Tick}
use Rattle.hla_machine.specs.declared.step.Answer.TheVariants as answer
use Rattle.hla_machine.specs.declared.step.Outcome.{Outcome}
use Rattle.hla_machine.specs.declared.step.Outcome.TheVariants as outcome
use Rattle.hla_machine.specs.Directory.{Directory, with_member, deletions_sent, deletion_sent, interaction_sent, update_sent, objects_of}
use Rattle.hla_machine.specs.Refusals.{refusal}
use Rattle.hla_machine.proofs.Basics.Tests.{caller_joined, clear_call, ticker_joined}
use Rattle.hla_components.specs.Components.{Components}
use Rattle.hla_components.specs.Next.{Outcomes, next, components_seen, answer_outcome, with_null_announced, step_outcome, call_outcome, carry_outcome, pick_outcome, announce_outcome, unless_refused, with_federate_resigned}
use Rattle.hla_components.proofs.Services.Resigns.{sent_directory}
use Rattle.hla_components.specs.Component.{local_bound, promise}
use Rattle.hla_base.specs.Rows.{is_regulator}
use Rattle.std.specs.Prelude.{◌&&◌, ltb}
use Rattle.hla_history.specs.Heard.{callback_in, given_outcome}
use Rattle.hla_history.specs.Hosts.{IsPlain}

-- nobody joins or leaves
pub record Stays (d e : Directory) : Type 0 where
  pub joined : e.joined ≡ d.joined
  pub next : e.next_federate ≡ d.next_federate

-- the outcome tells nobody anything, and is no failure
abbrev SaysNothing : Outcome → Type 0
SaysNothing out = (callback_in out ≡ None) × (given_outcome out ≡ out)

stays_same : (d e : Directory) → e ≡ d → Stays d e
stays_same d e same = record { joined = ap (λ (x : Directory). x.joined) same; next = ap (λ (x : Directory). x.next_federate) same }

abbrev IsResignation : Service → Type 0
IsResignation (service.Resign way) = Unit {0}
IsResignation service = ⊥

-- a call of a service leaves all where they are, unless it resigns
call_stays : (s : Components) (f : ℕ) (x : Service) → (IsResignation x → ⊥) → Stays s.directory (call_outcome s f x).state.directory
call_stays s f (service.Resign way) other = absurd (other tt)
call_stays s f (service.PublishObjectClass class attributes) other = record { joined = refl; next = refl }
call_stays s f (service.UnpublishObjectClass class) other = record { joined = refl; next = refl }
call_stays s f (service.SubscribeObjectClassAttributes class attributes) other = record { joined = refl; next = refl }
call_stays s f (service.UnsubscribeObjectClass class) other = record { joined = refl; next = refl }
call_stays s f (service.PublishInteractionClass class) other = record { joined = refl; next = refl }
call_stays s f (service.UnpublishInteractionClass class) other = record { joined = refl; next = refl }
call_stays s f (service.SubscribeInteractionClass class) other = record { joined = refl; next = refl }
call_stays s f (service.UnsubscribeInteractionClass class) other = record { joined = refl; next = refl }
call_stays s f (service.RegisterObjectInstance class name) other = record { joined = refl; next = refl }
call_stays s f (service.UpdateAttributeValues object values stamp) other = stays_same s.directory _ (sent_directory s f stamp (update_sent s.directory object values))
call_stays s f (service.SendInteraction class values stamp) other = stays_same s.directory _ (sent_directory s f stamp (interaction_sent s.directory f class values))
call_stays s f (service.DeleteObjectInstance object stamp) other = let same = sent_directory s f stamp (deletion_sent s.directory object) in record { joined = ap (λ (x : Directory). x.joined) same; next = ap (λ (x : Directory). x.next_federate) same }
call_stays s f (service.ChangeAttributeOrderType object attributes order) other = record { joined = refl; next = refl }
call_stays s f (service.ChangeInteractionOrderType class order) other = record { joined = refl; next = refl }
call_stays s f (service.Retract event) other = record { joined = refl; next = refl }
call_stays s f (service.RegisterFederationSynchronizationPoint label) other = record { joined = refl; next = refl }
call_stays s f (service.SynchronizationPointAchieved label) other = record { joined = refl; next = refl }
call_stays s f (service.EnableTimeRegulation time lookahead) other = record { joined = refl; next = refl }
call_stays s f service.DisableTimeRegulation other = record { joined = refl; next = refl }
call_stays s f service.EnableTimeConstrained other = record { joined = refl; next = refl }
call_stays s f service.DisableTimeConstrained other = record { joined = refl; next = refl }
call_stays s f (service.TimeAdvanceRequest time) other = record { joined = refl; next = refl }
call_stays s f (service.TimeAdvanceRequestAvailable time) other = record { joined = refl; next = refl }
call_stays s f (service.NextEventRequest time) other = record { joined = refl; next = refl }
call_stays s f (service.NextEventRequestAvailable time) other = record { joined = refl; next = refl }
call_stays s f (service.FlushQueueRequest time) other = record { joined = refl; next = refl }
call_stays s f (service.ModifyLookahead lookahead) other = record { joined = refl; next = refl }
call_stays s f service.EnableAsynchronousDelivery other = record { joined = refl; next = refl }
call_stays s f service.DisableAsynchronousDelivery other = record { joined = refl; next = refl }
call_stays s f service.QueryLbts other = record { joined = refl; next = refl }
call_stays s f service.QueryFederateTime other = record { joined = refl; next = refl }
call_stays s f service.QueryMinNextEventTime other = record { joined = refl; next = refl }
call_stays s f service.QueryLookahead other = record { joined = refl; next = refl }
call_stays s f (service.GetObjectClassHandle name) other = record { joined = refl; next = refl }
call_stays s f (service.GetInteractionClassHandle name) other = record { joined = refl; next = refl }
call_stays s f (service.GetAttributeHandle name class) other = record { joined = refl; next = refl }
call_stays s f (service.GetParameterHandle name class) other = record { joined = refl; next = refl }
call_stays s f (service.GetObjectInstanceHandle name) other = record { joined = refl; next = refl }
call_stays s f (service.GetObjectInstanceName object) other = record { joined = refl; next = refl }

-- no service tells anything
call_silent : (s : Components) (f : ℕ) (x : Service) → SaysNothing (call_outcome s f x).outcome
call_silent s f (service.Resign way) = (refl, refl)
call_silent s f (service.PublishObjectClass class attributes) = (refl, refl)
call_silent s f (service.UnpublishObjectClass class) = (refl, refl)
call_silent s f (service.SubscribeObjectClassAttributes class attributes) = (refl, refl)
call_silent s f (service.UnsubscribeObjectClass class) = (refl, refl)
call_silent s f (service.PublishInteractionClass class) = (refl, refl)
call_silent s f (service.UnpublishInteractionClass class) = (refl, refl)
call_silent s f (service.SubscribeInteractionClass class) = (refl, refl)
call_silent s f (service.UnsubscribeInteractionClass class) = (refl, refl)
call_silent s f (service.RegisterObjectInstance class name) = (refl, refl)
call_silent s f (service.UpdateAttributeValues object values stamp) = (refl, refl)
call_silent s f (service.SendInteraction class values stamp) = (refl, refl)
call_silent s f (service.DeleteObjectInstance object stamp) = (refl, refl)
call_silent s f (service.ChangeAttributeOrderType object attributes order) = (refl, refl)
call_silent s f (service.ChangeInteractionOrderType class order) = (refl, refl)
call_silent s f (service.Retract event) = (refl, refl)
call_silent s f (service.RegisterFederationSynchronizationPoint label) = (refl, refl)
call_silent s f (service.SynchronizationPointAchieved label) = (refl, refl)
call_silent s f (service.EnableTimeRegulation time lookahead) = (refl, refl)
call_silent s f service.DisableTimeRegulation = (refl, refl)
call_silent s f service.EnableTimeConstrained = (refl, refl)
call_silent s f service.DisableTimeConstrained = (refl, refl)
call_silent s f (service.TimeAdvanceRequest time) = (refl, refl)
call_silent s f (service.TimeAdvanceRequestAvailable time) = (refl, refl)
call_silent s f (service.NextEventRequest time) = (refl, refl)
call_silent s f (service.NextEventRequestAvailable time) = (refl, refl)
call_silent s f (service.FlushQueueRequest time) = (refl, refl)
call_silent s f (service.ModifyLookahead lookahead) = (refl, refl)
call_silent s f service.EnableAsynchronousDelivery = (refl, refl)
call_silent s f service.DisableAsynchronousDelivery = (refl, refl)
call_silent s f service.QueryLbts = (refl, refl)
call_silent s f service.QueryFederateTime = (refl, refl)
call_silent s f service.QueryMinNextEventTime = (refl, refl)
call_silent s f service.QueryLookahead = (refl, refl)
call_silent s f (service.GetObjectClassHandle name) = (refl, refl)
call_silent s f (service.GetInteractionClassHandle name) = (refl, refl)
call_silent s f (service.GetAttributeHandle name class) = (refl, refl)
call_silent s f (service.GetParameterHandle name class) = (refl, refl)
call_silent s f (service.GetObjectInstanceHandle name) = (refl, refl)
call_silent s f (service.GetObjectInstanceName object) = (refl, refl)

carry_stays : (s : Components) (g f : ℕ) (ms : List Message) → Stays s.directory (carry_outcome s g f ms).state.directory
carry_stays s g f [] = record { joined = refl; next = refl }
carry_stays s g f (message.Null k v ∷ ms) = record { joined = refl; next = refl }
carry_stays s g f (message.Retraction m ∷ ms) = record { joined = refl; next = refl }
carry_stays s g f (message.Discovery d ∷ ms) = record { joined = refl; next = refl }
carry_stays s g f (message.Event e ∷ ms) = record { joined = refl; next = refl }

carry_silent : (s : Components) (g f : ℕ) (ms : List Message) → SaysNothing (carry_outcome s g f ms).outcome
carry_silent s g f [] = (refl, refl)
carry_silent s g f (message.Null k v ∷ ms) = (refl, refl)
carry_silent s g f (message.Retraction m ∷ ms) = (refl, refl)
carry_silent s g f (message.Discovery d ∷ ms) = (refl, refl)
carry_silent s g f (message.Event e ∷ ms) = (refl, refl)

pick_stays : (s : Components) (f : ℕ) (p : Pick) → Stays s.directory (pick_outcome s f p).state.directory
pick_stays s f NoPick = record { joined = refl; next = refl }
pick_stays s f (PickControl (ToDiscover g d) rest) = record { joined = refl; next = refl }
pick_stays s f (PickControl (ToRetract e) rest) = record { joined = refl; next = refl }
pick_stays s f (PickControl (ToTell n) rest) = record { joined = refl; next = refl }
pick_stays s f (PickRo e rest) = record { joined = refl; next = refl }
pick_stays s f PickRegulates = record { joined = refl; next = refl }
pick_stays s f PickConstrains = record { joined = refl; next = refl }
pick_stays s f (PickTso q e rest) = record { joined = refl; next = refl }
pick_stays s f (PickGrant q t) = record { joined = refl; next = refl }

pick_real : (s : Components) (f : ℕ) (p : Pick) → given_outcome (pick_outcome s f p).outcome ≡ (pick_outcome s f p).outcome
pick_real s f NoPick = refl
pick_real s f (PickControl (ToDiscover g d) rest) = refl
pick_real s f (PickControl (ToRetract e) rest) = refl
pick_real s f (PickControl (ToTell n) rest) = refl
pick_real s f (PickRo e rest) = refl
pick_real s f PickRegulates = refl
pick_real s f PickConstrains = refl
pick_real s f (PickTso q e rest) = refl
pick_real s f (PickGrant q t) = refl

announce_stays : (s : Components) (f v : ℕ) (b : Bool) → Stays s.directory (cond b (answer_outcome (answer.Announced (Some v)) (with_null_announced s f v)) (answer_outcome (answer.Announced None) s)).state.directory
announce_stays s f v true = record { joined = refl; next = refl }
announce_stays s f v false = record { joined = refl; next = refl }

announce_silent : (s : Components) (f v : ℕ) (b : Bool) → SaysNothing (cond b (answer_outcome (answer.Announced (Some v)) (with_null_announced s f v)) (answer_outcome (answer.Announced None) s)).outcome
announce_silent s f v true = (refl, refl)
announce_silent s f v false = (refl, refl)

-- ---- any step
step_stays : (s : Components) (step : Step) → IsPlain step → Stays s.directory (step_outcome s step).state.directory
step_stays s (Join name) plain = absurd plain
step_stays s (Call f x) plain = call_stays s f x (not_resigning f x plain)
  where
    not_resigning : (f : ℕ) (x : Service) → IsPlain (Call f x) → IsResignation x → ⊥
    not_resigning f (service.Resign way) plain is = plain
    not_resigning f x plain is = absurd is
step_stays s (Carry g f) plain = carry_stays s g f (s.wire g f)
step_stays s (Announce f) plain = announce_stays s f (promise s f) (is_regulator (s.row f) && ltb (s.last_announced f) (promise s f))
step_stays s (Tick f) plain = pick_stays s f (pick (s.controls f) (s.row f) (s.ro f) (s.tso f) (local_bound s f))

unless_stays : (s : Components) (step : Step) (o : Option Fault) → IsPlain step → Stays s.directory (unless_refused o s (step_outcome s step)).state.directory
unless_stays s step None plain = step_stays s step plain
unless_stays s step (Some e) plain = record { joined = refl; next = refl }

-- nobody joins or leaves by a step that is no joining and no resigning
pub plain_stays : (s : Components) (step : Step) → IsPlain step → Stays s.directory (next s step).state.directory
plain_stays s step plain = unless_stays s step (refusal (components_seen s) step) plain

step_real : (s : Components) (step : Step) → given_outcome (step_outcome s step).outcome ≡ (step_outcome s step).outcome
step_real s (Join name) = refl
step_real s (Call f x) = (call_silent s f x).1
step_real s (Carry g f) = (carry_silent s g f (s.wire g f)).1
step_real s (Announce f) = (announce_silent s f (promise s f) (is_regulator (s.row f) && ltb (s.last_announced f) (promise s f))).1
step_real s (Tick f) = pick_real s f (pick (s.controls f) (s.row f) (s.ro f) (s.tso f) (local_bound s f))

unless_real : (s : Components) (step : Step) (o : Option Fault) → given_outcome (unless_refused o s (step_outcome s step)).outcome ≡ (unless_refused o s (step_outcome s step)).outcome
unless_real s step None = step_real s step
unless_real s step (Some e) = refl

-- the next-state function never says that an ambassador failed
pub next_real : (s : Components) (step : Step) → given_outcome (next s step).outcome ≡ (next s step).outcome
next_real s step = unless_real s step (refusal (components_seen s) step)

tick_joined : (s : Components) (f : ℕ) (k : Callback) (o : Option Fault) → refusal (components_seen s) (Tick f) ≡ o
    → callback_in (unless_refused o s (step_outcome s (Tick f))).outcome ≡ Some k → s.directory.joined f ≡ true
tick_joined s f k None is told = ticker_joined (components_seen s) f is
tick_joined s f k (Some e) is told = cc

-- who is told anything at its tick has joined
pub told_joined : (s : Components) (f : ℕ) (k : Callback) → callback_in (next s (Tick f)).outcome ≡ Some k → s.directory.joined f ≡ true
told_joined s f k told = tick_joined s f k (refusal (components_seen s) (Tick f)) refl told

-- ---- no other step tells anything
module _ (s : Components) where
  untold_unless : (o : Option Fault) (x : Outcomes) → callback_in x.outcome ≡ None → callback_in (unless_refused o s x).outcome ≡ None
  untold_unless None x is = is
  untold_unless (Some e) x is = refl

  pub untold_join : (name : List ℕ) → callback_in (next s (Join name)).outcome ≡ None
  untold_join name = untold_unless (refusal (components_seen s) (Join name)) (step_outcome s (Join name)) refl

  pub untold_call : (f : ℕ) (x : Service) → callback_in (next s (Call f x)).outcome ≡ None
  untold_call f x = untold_unless (refusal (components_seen s) (Call f x)) (call_outcome s f x) (call_silent s f x).0

  pub untold_carry : (g f : ℕ) → callback_in (next s (Carry g f)).outcome ≡ None
  untold_carry g f = untold_unless (refusal (components_seen s) (Carry g f)) (carry_outcome s g f (s.wire g f)) (carry_silent s g f (s.wire g f)).0

  pub untold_announce : (f : ℕ) → callback_in (next s (Announce f)).outcome ≡ None
  untold_announce f = untold_unless (refusal (components_seen s) (Announce f)) (announce_outcome s f) (announce_silent s f (promise s f) (is_regulator (s.row f) && ltb (s.last_announced f) (promise s f))).0

-- ---- joining and resigning
-- the step is refused, and changes nothing
pub record IsTurnedDown (s : Components) (step : Step) : Type 0 where
  pub fault : Fault
  pub outcome : (next s step).outcome ≡ outcome.Refused fault
  pub state : (next s step).state ≡ s

pub record IsJoining (s : Components) (name : List ℕ) : Type 0 where
  pub outcome : (next s (Join name)).outcome ≡ outcome.Done (answer.Federate s.directory.next_federate)
  pub directory : (next s (Join name)).state.directory ≡ with_member s.directory name

refused_as : (s : Components) (step : Step) (e : Fault) → refusal (components_seen s) step ≡ Some e → IsTurnedDown s step
refused_as s step e is = record {
  fault = e;
  outcome = ap (λ (o : Option Fault). (unless_refused o s (step_outcome s step)).outcome) is;
  state = ap (λ (o : Option Fault). (unless_refused o s (step_outcome s step)).state) is;
}

join_ends : (s : Components) (name : List ℕ) (o : Option Fault) → refusal (components_seen s) (Join name) ≡ o → IsJoining s name ⊎ IsTurnedDown s (Join name)
join_ends s name None is = inl (record {
  outcome = ap (λ (o : Option Fault). (unless_refused o s (step_outcome s (Join name))).outcome) is;
  directory = ap (λ (o : Option Fault). (unless_refused o s (step_outcome s (Join name))).state.directory) is;
})
join_ends s name (Some e) is = inr (refused_as s (Join name) e is)

-- a joining gives the next number, or is refused
pub join_cases : (s : Components) (name : List ℕ) → IsJoining s name ⊎ IsTurnedDown s (Join name)
join_cases s name = join_ends s name (refusal (components_seen s) (Join name)) refl

pub record IsResigning (s : Components) (f : ℕ) (way : ResignAction) : Type 0 where
  pub outcome : (next s (Call f (service.Resign way))).outcome ≡ outcome.Done answer.Done
  pub joined : (next s (Call f (service.Resign way))).state.directory.joined ≡ upd s.directory.joined f false
  pub next : (next s (Call f (service.Resign way))).state.directory.next_federate ≡ s.directory.next_federate
  pub member : s.directory.joined f ≡ true

resigned_joined : (s : Components) (f : ℕ) (way : ResignAction) → refusal (components_seen s) (Call f (service.Resign way)) ≡ None
    → ((with_federate_resigned s f way).directory.joined ≡ upd s.directory.joined f false) × ((with_federate_resigned s f way).directory.next_federate ≡ s.directory.next_federate)
resigned_joined s f NoAction none = (refl, refl)
resigned_joined s f DeleteObjects none =
    let same = sent_directory s f None (deletions_sent (objects_of s.directory f)) in
    (ap (λ (d : Directory). upd d.joined f false) same, ap (λ (d : Directory). d.next_federate) same)
resigned_joined s f ReleaseAttributes none = absurd (let n : true ≡ false = (clear_call (components_seen s) f (service.Resign ReleaseAttributes) none).0 in cc)
resigned_joined s f DeleteObjectsAndReleaseAttributes none = absurd (let n : true ≡ false = (clear_call (components_seen s) f (service.Resign DeleteObjectsAndReleaseAttributes) none).0 in cc)

resign_ends : (s : Components) (f : ℕ) (way : ResignAction) (o : Option Fault) → refusal (components_seen s) (Call f (service.Resign way)) ≡ o → IsResigning s f way ⊎ IsTurnedDown s (Call f (service.Resign way))
resign_ends s f way None is =
    let ends : next s (Call f (service.Resign way)) ≡ call_outcome s f (service.Resign way) = ap (λ (o : Option Fault). unless_refused o s (call_outcome s f (service.Resign way))) is in
    let after = resigned_joined s f way is in
    inl (record {
      outcome = ap (λ (o : Outcomes). o.outcome) ends;
      joined = ap (λ (o : Outcomes). o.state.directory.joined) ends ∙ after.0;
      next = ap (λ (o : Outcomes). o.state.directory.next_federate) ends ∙ after.1;
      member = caller_joined (components_seen s) f (service.Resign way) is;
    })
resign_ends s f way (Some e) is = inr (refused_as s (Call f (service.Resign way)) e is)

-- a federate resigns, or is refused
pub resign_cases : (s : Components) (f : ℕ) (way : ResignAction) → IsResigning s f way ⊎ IsTurnedDown s (Call f (service.Resign way))
resign_cases s f way = resign_ends s f way (refusal (components_seen s) (Call f (service.Resign way))) refl
