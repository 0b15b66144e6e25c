-- How a step of an execution keeps its ears.
use Rattle.std.proofs.Common.{◌≡◌, ℕ, zero, suc, true, false, List, [], ◌∷◌, Option, Some, None, is_some, refl, sym, ◌∙◌, ap, subst}
use Rattle.std.specs.Prelude.{slice_get}
use Rattle.hla_callbacks.specs.declared.callback.Callback.{Callback}
use Rattle.hla_callbacks.specs.Hearing.{Hearing}
use Rattle.hla_machine.specs.declared.service.Service.{Service}
use Rattle.hla_machine.specs.declared.service.Service.TheVariants as service
use Rattle.hla_machine.specs.declared.step.Step.{Step}
use Rattle.hla_machine.specs.declared.step.Step.TheVariants.{Join, Call, Carry, Announce, Tick}
use Rattle.hla_machine.specs.declared.step.Act.{Act}
use Rattle.hla_machine.specs.declared.step.Act.TheVariants as act
use Rattle.hla_machine.specs.declared.step.Outcome.{Outcome}
use Rattle.hla_components.specs.Components.{Components}
use Rattle.hla_components.specs.Next.{next}
use Rattle.hla_history.specs.Heard.{callback_in, given_outcome}
use Rattle.hla_history.specs.Hosts.{HeardTable, IsPlain, with_callback, table_after, host_after, HasAmbassadors}
use Rattle.hla_history.specs.Hosting.{HostedValue, host_of, components_hosted, components_after, heard_of, heard_table, heard_then_of, IsReady, CanDeliver}
use Rattle.hla_shared.proofs.Steps.NextLaws.{told_joined, untold_join, untold_call, untold_carry, untold_announce, plain_stays, next_real}

-- who is heard at f has an ear there
pub ear_at : (ears : List (Option Hearing)) (f : ℕ) → is_some (heard_table (heard_of ears) f) ≡ true → (e : Hearing) × (slice_get ears f ≡ Some (Some e))
ear_at [] f is = absurd (let no : false ≡ true = is in cc)
ear_at (None ∷ ears) zero is = absurd (let no : false ≡ true = is in cc)
ear_at (Some e ∷ ears) zero is = (e, refl)
ear_at (x ∷ ears) (suc f) is = ear_at ears f is

no_callback : (ears : List (Option Hearing)) (a : Act) (o : Option Callback) → o ≡ None → CanDeliver o a ears
no_callback ears a None is = tt
no_callback ears a (Some k) is = cc

tick_fits : (ears : List (Option Hearing)) (s : Components) (f : ℕ) (o : Option Callback) → ((g : ℕ) → is_some (heard_table (heard_of ears) g) ≡ s.directory.joined g)
    → IsReady (Tick f) ears → o ≡ callback_in (next s (Tick f)).outcome → CanDeliver o (act.Step (Tick f)) ears
tick_fits ears s f None has is_ready is = tt
tick_fits ears s f (Some k) has is_ready is =
    let there = ear_at ears f (has f ∙ told_joined s f k (sym is)) in
    (there.0, there.1, is_ready there.0 there.1)

-- the callback of a step whose ear was made ready can be delivered
pub deliver_fits : (ears : List (Option Hearing)) (s : Components) (step : Step) (o : Option Callback) → ((g : ℕ) → is_some (heard_table (heard_of ears) g) ≡ s.directory.joined g)
    → IsReady step ears → o ≡ callback_in (next s step).outcome → CanDeliver o (act.Step step) ears
deliver_fits ears s (Join name) o has is_ready is = no_callback ears (act.Step (Join name)) o (is ∙ untold_join s name)
deliver_fits ears s (Call f x) o has is_ready is = no_callback ears (act.Step (Call f x)) o (is ∙ untold_call s f x)
deliver_fits ears s (Carry g f) o has is_ready is = no_callback ears (act.Step (Carry g f)) o (is ∙ untold_carry s g f)
deliver_fits ears s (Announce f) o has is_ready is = no_callback ears (act.Step (Announce f)) o (is ∙ untold_announce s f)
deliver_fits ears s (Tick f) o has is_ready is = tick_fits ears s f o has is_ready is

-- ---- the table after it
tick_table : (t : HeardTable) (f : ℕ) (o : Option Callback) → heard_then_of t (act.Step (Tick f)) o ≡ with_callback t f o
tick_table t f None = refl
tick_table t f (Some k) = refl

call_table : (t : HeardTable) (f : ℕ) (x : Service) (o : Option Callback) → heard_then_of t (act.Step (Call f x)) o ≡ t
call_table t f x None = refl
call_table t f x (Some k) = refl

plain_call : (t : HeardTable) (f : ℕ) (x : Service) (out : Outcome) → IsPlain (Call f x) → t ≡ table_after t (Call f x) out
plain_call t f (service.Resign way) out plain = absurd plain
plain_call t f (service.PublishObjectClass class attributes) out plain = refl
plain_call t f (service.UnpublishObjectClass class) out plain = refl
plain_call t f (service.SubscribeObjectClassAttributes class attributes) out plain = refl
plain_call t f (service.UnsubscribeObjectClass class) out plain = refl
plain_call t f (service.PublishInteractionClass class) out plain = refl
plain_call t f (service.UnpublishInteractionClass class) out plain = refl
plain_call t f (service.SubscribeInteractionClass class) out plain = refl
plain_call t f (service.UnsubscribeInteractionClass class) out plain = refl
plain_call t f (service.RegisterObjectInstance class name) out plain = refl
plain_call t f (service.UpdateAttributeValues object values stamp) out plain = refl
plain_call t f (service.SendInteraction class values stamp) out plain = refl
plain_call t f (service.DeleteObjectInstance object stamp) out plain = refl
plain_call t f (service.ChangeAttributeOrderType object attributes order) out plain = refl
plain_call t f (service.ChangeInteractionOrderType class order) out plain = refl
plain_call t f (service.Retract event) out plain = refl
plain_call t f (service.RegisterFederationSynchronizationPoint label) out plain = refl
plain_call t f (service.SynchronizationPointAchieved label) out plain = refl
plain_call t f (service.EnableTimeRegulation time lookahead) out plain = refl
plain_call t f service.DisableTimeRegulation out plain = refl
plain_call t f service.EnableTimeConstrained out plain = refl
plain_call t f service.DisableTimeConstrained out plain = refl
plain_call t f (service.TimeAdvanceRequest time) out plain = refl
plain_call t f (service.TimeAdvanceRequestAvailable time) out plain = refl
plain_call t f (service.NextEventRequest time) out plain = refl
plain_call t f (service.NextEventRequestAvailable time) out plain = refl
plain_call t f (service.FlushQueueRequest time) out plain = refl
plain_call t f (service.ModifyLookahead lookahead) out plain = refl
plain_call t f service.EnableAsynchronousDelivery out plain = refl
plain_call t f service.DisableAsynchronousDelivery out plain = refl
plain_call t f service.QueryLbts out plain = refl
plain_call t f service.QueryFederateTime out plain = refl
plain_call t f service.QueryMinNextEventTime out plain = refl
plain_call t f service.QueryLookahead out plain = refl
plain_call t f (service.GetObjectClassHandle name) out plain = refl
plain_call t f (service.GetInteractionClassHandle name) out plain = refl
plain_call t f (service.GetAttributeHandle name class) out plain = refl
plain_call t f (service.GetParameterHandle name class) out plain = refl
plain_call t f (service.GetObjectInstanceHandle name) out plain = refl
plain_call t f (service.GetObjectInstanceName object) out plain = refl

carry_table : (t : HeardTable) (g f : ℕ) (o : Option Callback) → heard_then_of t (act.Step (Carry g f)) o ≡ t
carry_table t g f None = refl
carry_table t g f (Some k) = refl

announce_table : (t : HeardTable) (f : ℕ) (o : Option Callback) → heard_then_of t (act.Step (Announce f)) o ≡ t
announce_table t f None = refl
announce_table t f (Some k) = refl

pub plain_table : (t : HeardTable) (step : Step) (out : Outcome) → IsPlain step → heard_then_of t (act.Step step) (callback_in out) ≡ table_after t step out
plain_table t (Join name) out plain = absurd plain
plain_table t (Call f x) out plain = call_table t f x (callback_in out) ∙ plain_call t f x out plain
plain_table t (Carry g f) out plain = carry_table t g f (callback_in out)
plain_table t (Announce f) out plain = announce_table t f (callback_in out)
plain_table t (Tick f) out plain = tick_table t f (callback_in out)

-- the execution after a plain step
pub host_fits : (s s' : Components) (t t' : HeardTable) (step : Step) (out : Outcome) (o : Option Callback) → IsPlain step → s' ≡ (next s step).state
    → t' ≡ heard_then_of t (act.Step step) o → callback_in out ≡ o → record { components = s'; heard = t' } ≡ host_after (record { components = s; heard = t }) step out
host_fits s s' t t' step out o plain state heard told =
    let heard' : t' ≡ table_after t step out = heard ∙ ap (λ (k : Option Callback). heard_then_of t (act.Step step) k) (sym told) ∙ plain_table t step out plain in
    λ i. record { components = state i; heard = heard' i }

-- ---- at one execution's code
pub ambassadors_ready : (v w : HostedValue) (ears : List (Option Hearing)) → v ≡ w → HasAmbassadors (host_of w) → heard_of ears ≡ v.heard
    → (g : ℕ) → is_some (heard_table (heard_of ears) g) ≡ (components_hosted v.federation).directory.joined g
ambassadors_ready v w ears same has heard g =
    ap (λ (hs : List (Option (List Callback))). is_some (heard_table hs g)) heard ∙ subst (λ (x : HostedValue). HasAmbassadors (host_of x)) (sym same) has g

pub delivers : (ears : List (Option Hearing)) (s : Components) (step : Step) (a : Act) (o : Option Callback) → ((g : ℕ) → is_some (heard_table (heard_of ears) g) ≡ s.directory.joined g)
    → IsReady step ears → a ≡ act.Step step → o ≡ callback_in (next s step).outcome → CanDeliver o a ears
delivers ears s step a o has is_ready here is =
    subst (λ (x : Act). CanDeliver o x ears) (sym here) (deliver_fits ears s step o has is_ready is)

pub len_fits : (s s' : Components) (step : Step) (a : Act) (l l' : ℕ) → IsPlain step → a ≡ act.Step step → s' ≡ components_after s a → l ≡ s.directory.next_federate → l' ≡ l
    → l' ≡ s'.directory.next_federate
len_fits s s' step a l l' plain here state len same =
    same ∙ len ∙ sym ((plain_stays s step plain).next)
    ∙ sym (ap (λ (c : Components). c.directory.next_federate) (state ∙ ap (λ (x : Act). components_after s x) here))

pub given_fits : (s : Components) (step : Step) (out made : Outcome) → given_outcome out ≡ given_outcome made → made ≡ (next s step).outcome → given_outcome out ≡ (next s step).outcome
given_fits s step out made given is = given ∙ ap given_outcome is ∙ next_real s step

pub host_steps : (v w : HostedValue) (s' : Components) (ready after : List (Option (List Callback))) (step : Step) (a : Act) (out : Outcome) (o : Option Callback) → v ≡ w → IsPlain step → a ≡ act.Step step
    → s' ≡ components_after (components_hosted v.federation) a → ready ≡ v.heard → heard_table after ≡ heard_then_of (heard_table ready) a o → callback_in out ≡ o
    → record { components = s'; heard = heard_table after } ≡ host_after (host_of w) step out
host_steps v w s' ready after step a out o same plain here state first heard told =
    host_fits (components_hosted v.federation) s' (heard_table v.heard) (heard_table after) step out o plain
    (state ∙ ap (λ (x : Act). components_after (components_hosted v.federation) x) here)
    (heard ∙ ap (λ (hs : List (Option (List Callback))). heard_then_of (heard_table hs) a o) first ∙ ap (λ (x : Act). heard_then_of (heard_table v.heard) x o) here)
    told
    ∙ ap (λ (x : HostedValue). host_after (host_of x) step out) same
