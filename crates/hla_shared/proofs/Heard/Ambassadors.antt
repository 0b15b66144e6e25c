-- What a record makes of what the ambassadors have heard.
use Rattle.std.proofs.Common.{◌≡◌, ℕ, eqb, Bool, true, false, cond, List, [], ◌∷◌, ◌++◌, Option, Some, None, is_some, option_map, refl, sym, ◌∙◌, ap, ⊎_elim, arith}
use Rattle.std.proofs.lemmas.Bool.Decides.{nat_tests}
use Rattle.hla_base.specs.declared.fault.Fault.{Fault}
use Rattle.hla_base.specs.Tables.{upd}
use Rattle.hla_callbacks.specs.declared.callback.Callback.{Callback}
use Rattle.hla_machine.specs.declared.service.Service.{Service}
use Rattle.hla_machine.specs.declared.service.Service.TheVariants as service
use Rattle.hla_machine.specs.declared.service.ResignAction.{ResignAction}
use Rattle.hla_machine.specs.declared.step.Step.{Step}
use Rattle.hla_machine.specs.declared.step.Step.TheVariants.{Join, Call, Carry, Announce, Tick}
use Rattle.hla_machine.specs.declared.step.Answer.TheVariants as answer
use Rattle.hla_machine.specs.declared.step.Outcome.{Outcome}
use Rattle.hla_machine.specs.declared.step.Outcome.TheVariants as outcome
use Rattle.hla_machine.specs.Directory.{Directory}
use Rattle.hla_components.specs.Components.{Components}
use Rattle.hla_components.specs.Next.{next}
use Rattle.hla_history.specs.Heard.{callback_in, given_outcome, with_heard, heard_then}
use Rattle.hla_history.specs.Hosts.{HeardTable, Host, IsPlain, with_callback, table_after, host_after, HasAmbassadors}
use Rattle.hla_shared.proofs.Steps.NextLaws.{plain_stays, join_cases, resign_cases, IsJoining, IsResigning, IsTurnedDown}

-- ---- outcomes
-- an outcome that is given is the record's, but for a tick's
pub given_federate : (out : Outcome) (n : ℕ) → given_outcome out ≡ outcome.Done (answer.Federate n) → out ≡ outcome.Done (answer.Federate n)
given_federate (outcome.Done a) n is = is
given_federate (outcome.Refused e) n is = is
given_federate (outcome.Failed k) n is = cc

pub given_done : (out : Outcome) → given_outcome out ≡ outcome.Done answer.Done → out ≡ outcome.Done answer.Done
given_done (outcome.Done a) is = is
given_done (outcome.Refused e) is = is
given_done (outcome.Failed k) is = cc

pub given_refused : (out : Outcome) (e : Fault) → given_outcome out ≡ outcome.Refused e → out ≡ outcome.Refused e
given_refused (outcome.Done a) e is = is
given_refused (outcome.Refused x) e is = is
given_refused (outcome.Failed k) e is = cc

-- ---- what is heard
-- what the ambassadors have heard is what the table says
abbrev pub AgreesWithTable : HeardTable → (ℕ → List Callback) → Type 0
AgreesWithTable t old = (f : ℕ) (ks : List Callback) → t f ≡ Some ks → ks ≡ old f

cond_same : {X : Type 0} (b : Bool) (x : X) → cond b x x ≡ x
cond_same true x = refl
cond_same false x = refl

number_joins : (t : HeardTable) (old : ℕ → List Callback) (f : ℕ) (ks : List Callback) (b : Bool) → AgreesWithTable t old → cond b (Some []) (t f) ≡ Some ks → ks ≡ cond b [] (old f)
number_joins t old f ks true fits is = cc
number_joins t old f ks false fits is = fits f ks is

leaves : (t : HeardTable) (old : ℕ → List Callback) (f : ℕ) (ks : List Callback) (b : Bool) → AgreesWithTable t old → cond b None (t f) ≡ Some ks → ks ≡ old f
leaves t old f ks true fits is = cc
leaves t old f ks false fits is = fits f ks is

told_is_added : (t : HeardTable) (old : ℕ → List Callback) (f : ℕ) (k : Callback) (ks : List Callback) (o : Option (List Callback)) → t f ≡ o → AgreesWithTable t old
    → option_map (λ (xs : List Callback). xs ++ k ∷ []) o ≡ Some ks → ks ≡ old f ++ k ∷ []
told_is_added t old f k ks None at fits is = cc
told_is_added t old f k ks (Some xs) at fits is =
    let new : ks ≡ xs ++ k ∷ [] = cc in
    new ∙ ap (λ (ys : List Callback). ys ++ k ∷ []) (fits f xs at)

tells : (t : HeardTable) (old : ℕ → List Callback) (g f : ℕ) (k : Callback) (ks : List Callback) (b : Bool) → eqb g f ≡ b → AgreesWithTable t old
    → cond b (option_map (λ (xs : List Callback). xs ++ k ∷ []) (t g)) (t f) ≡ Some ks → ks ≡ cond b (old f ++ k ∷ []) (old f)
tells t old g f k ks true test fits is =
    let same : g ≡ f = grind (arith, nat_tests) in
    told_is_added t old f k ks (t f) refl fits (ap (λ n. option_map (λ (xs : List Callback). xs ++ k ∷ []) (t n)) (sym same) ∙ is)
tells t old g f k ks false test fits is = fits f ks is

tick_tells : (t : HeardTable) (old : ℕ → List Callback) (g f : ℕ) (o : Option Callback) (ks : List Callback) → AgreesWithTable t old
    → with_callback t g o f ≡ Some ks → ks ≡ cond (eqb g f) (with_heard (old f) o) (old f)
unfolding upd
tick_tells t old g f None ks fits is = fits f ks is ∙ sym (cond_same (eqb g f) (old f))
tick_tells t old g f (Some k) ks fits is = tells t old g f k ks (eqb g f) refl fits is

join_heard : (t : HeardTable) (old : ℕ → List Callback) (name : List ℕ) (out : Outcome) (f : ℕ) (ks : List Callback) → AgreesWithTable t old
    → table_after t (Join name) out f ≡ Some ks → ks ≡ heard_then f (old f) (Join name) out
unfolding upd
join_heard t old name (outcome.Done (answer.Federate n)) f ks fits is = number_joins t old f ks (eqb n f) fits is
join_heard t old name (outcome.Done answer.Done) f ks fits is = fits f ks is
join_heard t old name (outcome.Done (answer.Registered object called)) f ks fits is = fits f ks is
join_heard t old name (outcome.Done (answer.Handle n)) f ks fits is = fits f ks is
join_heard t old name (outcome.Done (answer.Name called)) f ks fits is = fits f ks is
join_heard t old name (outcome.Done (answer.Sent event)) f ks fits is = fits f ks is
join_heard t old name (outcome.Done (answer.Time time)) f ks fits is = fits f ks is
join_heard t old name (outcome.Done (answer.Ticked told)) f ks fits is = fits f ks is
join_heard t old name (outcome.Done (answer.Carried x)) f ks fits is = fits f ks is
join_heard t old name (outcome.Done (answer.Announced bound)) f ks fits is = fits f ks is
join_heard t old name (outcome.Refused e) f ks fits is = fits f ks is
join_heard t old name (outcome.Failed k) f ks fits is = fits f ks is

call_heard : (t : HeardTable) (old : ℕ → List Callback) (g : ℕ) (x : Service) (out : Outcome) (f : ℕ) (ks : List Callback) → AgreesWithTable t old
    → table_after t (Call g x) out f ≡ Some ks → ks ≡ old f
unfolding upd
call_heard t old g (service.Resign way) (outcome.Done a) f ks fits is = leaves t old f ks (eqb g f) fits is
call_heard t old g (service.Resign way) (outcome.Refused e) f ks fits is = fits f ks is
call_heard t old g (service.Resign way) (outcome.Failed k) f ks fits is = fits f ks is
call_heard t old g (service.PublishObjectClass class attributes) out f ks fits is = fits f ks is
call_heard t old g (service.UnpublishObjectClass class) out f ks fits is = fits f ks is
call_heard t old g (service.SubscribeObjectClassAttributes class attributes) out f ks fits is = fits f ks is
call_heard t old g (service.UnsubscribeObjectClass class) out f ks fits is = fits f ks is
call_heard t old g (service.PublishInteractionClass class) out f ks fits is = fits f ks is
call_heard t old g (service.UnpublishInteractionClass class) out f ks fits is = fits f ks is
call_heard t old g (service.SubscribeInteractionClass class) out f ks fits is = fits f ks is
call_heard t old g (service.UnsubscribeInteractionClass class) out f ks fits is = fits f ks is
call_heard t old g (service.RegisterObjectInstance class name) out f ks fits is = fits f ks is
call_heard t old g (service.UpdateAttributeValues object values stamp) out f ks fits is = fits f ks is
call_heard t old g (service.SendInteraction class values stamp) out f ks fits is = fits f ks is
call_heard t old g (service.DeleteObjectInstance object stamp) out f ks fits is = fits f ks is
call_heard t old g (service.ChangeAttributeOrderType object attributes order) out f ks fits is = fits f ks is
call_heard t old g (service.ChangeInteractionOrderType class order) out f ks fits is = fits f ks is
call_heard t old g (service.Retract event) out f ks fits is = fits f ks is
call_heard t old g (service.RegisterFederationSynchronizationPoint label) out f ks fits is = fits f ks is
call_heard t old g (service.SynchronizationPointAchieved label) out f ks fits is = fits f ks is
call_heard t old g (service.EnableTimeRegulation time lookahead) out f ks fits is = fits f ks is
call_heard t old g service.DisableTimeRegulation out f ks fits is = fits f ks is
call_heard t old g service.EnableTimeConstrained out f ks fits is = fits f ks is
call_heard t old g service.DisableTimeConstrained out f ks fits is = fits f ks is
call_heard t old g (service.TimeAdvanceRequest time) out f ks fits is = fits f ks is
call_heard t old g (service.TimeAdvanceRequestAvailable time) out f ks fits is = fits f ks is
call_heard t old g (service.NextEventRequest time) out f ks fits is = fits f ks is
call_heard t old g (service.NextEventRequestAvailable time) out f ks fits is = fits f ks is
call_heard t old g (service.FlushQueueRequest time) out f ks fits is = fits f ks is
call_heard t old g (service.ModifyLookahead lookahead) out f ks fits is = fits f ks is
call_heard t old g service.EnableAsynchronousDelivery out f ks fits is = fits f ks is
call_heard t old g service.DisableAsynchronousDelivery out f ks fits is = fits f ks is
call_heard t old g service.QueryLbts out f ks fits is = fits f ks is
call_heard t old g service.QueryFederateTime out f ks fits is = fits f ks is
call_heard t old g service.QueryMinNextEventTime out f ks fits is = fits f ks is
call_heard t old g service.QueryLookahead out f ks fits is = fits f ks is
call_heard t old g (service.GetObjectClassHandle name) out f ks fits is = fits f ks is
call_heard t old g (service.GetInteractionClassHandle name) out f ks fits is = fits f ks is
call_heard t old g (service.GetAttributeHandle name class) out f ks fits is = fits f ks is
call_heard t old g (service.GetParameterHandle name class) out f ks fits is = fits f ks is
call_heard t old g (service.GetObjectInstanceHandle name) out f ks fits is = fits f ks is
call_heard t old g (service.GetObjectInstanceName object) out f ks fits is = fits f ks is

-- after a step the ambassadors have heard what its record says
pub hears_then : (t : HeardTable) (old : ℕ → List Callback) (step : Step) (out : Outcome) → AgreesWithTable t old → AgreesWithTable (table_after t step out) (λ f. heard_then f (old f) step out)
hears_then t old (Join name) out fits f ks is = join_heard t old name out f ks fits is
hears_then t old (Call g x) out fits f ks is = call_heard t old g x out f ks fits is
hears_then t old (Carry g h) out fits f ks is = fits f ks is
hears_then t old (Announce g) out fits f ks is = fits f ks is
hears_then t old (Tick g) out fits f ks is = tick_tells t old g f (callback_in out) ks fits is

-- ---- who has an ambassador
some_mapped : {X Y : Type 0} (f : X → Y) (o : Option X) → is_some (option_map f o) ≡ is_some o
some_mapped f None = refl
some_mapped f (Some x) = refl

tells_same : (t : HeardTable) (g f : ℕ) (k : Callback) (b : Bool) → eqb g f ≡ b → is_some (cond b (option_map (λ (xs : List Callback). xs ++ k ∷ []) (t g)) (t f)) ≡ is_some (t f)
tells_same t g f k true test =
    let same : g ≡ f = grind (arith, nat_tests) in
    some_mapped (λ (xs : List Callback). xs ++ k ∷ []) (t g) ∙ ap (λ n. is_some (t n)) same
tells_same t g f k false test = refl

tick_same : (t : HeardTable) (g f : ℕ) (o : Option Callback) → is_some (with_callback t g o f) ≡ is_some (t f)
unfolding upd
tick_same t g f None = refl
tick_same t g f (Some k) = tells_same t g f k (eqb g f) refl

plain_same : (t : HeardTable) (step : Step) (out : Outcome) → IsPlain step → (f : ℕ) → is_some (table_after t step out f) ≡ is_some (t f)
plain_same t (Join name) out plain f = absurd plain
plain_same t (Call g (service.Resign way)) out plain f = absurd plain
plain_same t (Call g (service.PublishObjectClass class attributes)) out plain f = refl
plain_same t (Call g (service.UnpublishObjectClass class)) out plain f = refl
plain_same t (Call g (service.SubscribeObjectClassAttributes class attributes)) out plain f = refl
plain_same t (Call g (service.UnsubscribeObjectClass class)) out plain f = refl
plain_same t (Call g (service.PublishInteractionClass class)) out plain f = refl
plain_same t (Call g (service.UnpublishInteractionClass class)) out plain f = refl
plain_same t (Call g (service.SubscribeInteractionClass class)) out plain f = refl
plain_same t (Call g (service.UnsubscribeInteractionClass class)) out plain f = refl
plain_same t (Call g (service.RegisterObjectInstance class name)) out plain f = refl
plain_same t (Call g (service.UpdateAttributeValues object values stamp)) out plain f = refl
plain_same t (Call g (service.SendInteraction class values stamp)) out plain f = refl
plain_same t (Call g (service.DeleteObjectInstance object stamp)) out plain f = refl
plain_same t (Call g (service.ChangeAttributeOrderType object attributes order)) out plain f = refl
plain_same t (Call g (service.ChangeInteractionOrderType class order)) out plain f = refl
plain_same t (Call g (service.Retract event)) out plain f = refl
plain_same t (Call g (service.RegisterFederationSynchronizationPoint label)) out plain f = refl
plain_same t (Call g (service.SynchronizationPointAchieved label)) out plain f = refl
plain_same t (Call g (service.EnableTimeRegulation time lookahead)) out plain f = refl
plain_same t (Call g service.DisableTimeRegulation) out plain f = refl
plain_same t (Call g service.EnableTimeConstrained) out plain f = refl
plain_same t (Call g service.DisableTimeConstrained) out plain f = refl
plain_same t (Call g (service.TimeAdvanceRequest time)) out plain f = refl
plain_same t (Call g (service.TimeAdvanceRequestAvailable time)) out plain f = refl
plain_same t (Call g (service.NextEventRequest time)) out plain f = refl
plain_same t (Call g (service.NextEventRequestAvailable time)) out plain f = refl
plain_same t (Call g (service.FlushQueueRequest time)) out plain f = refl
plain_same t (Call g (service.ModifyLookahead lookahead)) out plain f = refl
plain_same t (Call g service.EnableAsynchronousDelivery) out plain f = refl
plain_same t (Call g service.DisableAsynchronousDelivery) out plain f = refl
plain_same t (Call g service.QueryLbts) out plain f = refl
plain_same t (Call g service.QueryFederateTime) out plain f = refl
plain_same t (Call g service.QueryMinNextEventTime) out plain f = refl
plain_same t (Call g service.QueryLookahead) out plain f = refl
plain_same t (Call g (service.GetObjectClassHandle name)) out plain f = refl
plain_same t (Call g (service.GetInteractionClassHandle name)) out plain f = refl
plain_same t (Call g (service.GetAttributeHandle name class)) out plain f = refl
plain_same t (Call g (service.GetParameterHandle name class)) out plain f = refl
plain_same t (Call g (service.GetObjectInstanceHandle name)) out plain f = refl
plain_same t (Call g (service.GetObjectInstanceName object)) out plain f = refl
plain_same t (Carry g h) out plain f = refl
plain_same t (Announce g) out plain f = refl
plain_same t (Tick g) out plain f = tick_same t g f (callback_in out)

pub plain_has : (h : Host) (step : Step) (out : Outcome) → IsPlain step → HasAmbassadors h → HasAmbassadors (host_after h step out)
plain_has h step out plain has f =
    plain_same h.heard step out plain f ∙ has f ∙ sym (ap (λ (joined : ℕ → Bool). joined f) (plain_stays h.components step plain).joined)

some_cond : {X : Type 0} (b : Bool) (x : X) (o : Option X) → is_some (cond b (Some x) o) ≡ cond b true (is_some o)
some_cond true x o = refl
some_cond false x o = refl

none_cond : {X : Type 0} (b : Bool) (o : Option X) → is_some (cond b None o) ≡ cond b false (is_some o)
none_cond true o = refl
none_cond false o = refl

joins_upd : (t : HeardTable) (joined : ℕ → Bool) (n : ℕ) → ((f : ℕ) → is_some (t f) ≡ joined f) → (f : ℕ) → is_some (upd t n (Some []) f) ≡ upd joined n true f
unfolding upd
joins_upd t joined n has f = some_cond (eqb n f) [] (t f) ∙ ap (λ (b : Bool). cond (eqb n f) true b) (has f)

leaves_upd : (t : HeardTable) (joined : ℕ → Bool) (n : ℕ) → ((f : ℕ) → is_some (t f) ≡ joined f) → (f : ℕ) → is_some (upd t n None f) ≡ upd joined n false f
unfolding upd
leaves_upd t joined n has f = none_cond (eqb n f) (t f) ∙ ap (λ (b : Bool). cond (eqb n f) false b) (has f)

-- a step that is turned down changes nothing
pub down_table : (t : HeardTable) (step : Step) (e : Fault) → table_after t step (outcome.Refused e) ≡ t
down_table t (Join name) e = refl
down_table t (Call g (service.Resign way)) e = refl
down_table t (Call g (service.PublishObjectClass class attributes)) e = refl
down_table t (Call g (service.UnpublishObjectClass class)) e = refl
down_table t (Call g (service.SubscribeObjectClassAttributes class attributes)) e = refl
down_table t (Call g (service.UnsubscribeObjectClass class)) e = refl
down_table t (Call g (service.PublishInteractionClass class)) e = refl
down_table t (Call g (service.UnpublishInteractionClass class)) e = refl
down_table t (Call g (service.SubscribeInteractionClass class)) e = refl
down_table t (Call g (service.UnsubscribeInteractionClass class)) e = refl
down_table t (Call g (service.RegisterObjectInstance class name)) e = refl
down_table t (Call g (service.UpdateAttributeValues object values stamp)) e = refl
down_table t (Call g (service.SendInteraction class values stamp)) e = refl
down_table t (Call g (service.DeleteObjectInstance object stamp)) e = refl
down_table t (Call g (service.ChangeAttributeOrderType object attributes order)) e = refl
down_table t (Call g (service.ChangeInteractionOrderType class order)) e = refl
down_table t (Call g (service.Retract event)) e = refl
down_table t (Call g (service.RegisterFederationSynchronizationPoint label)) e = refl
down_table t (Call g (service.SynchronizationPointAchieved label)) e = refl
down_table t (Call g (service.EnableTimeRegulation time lookahead)) e = refl
down_table t (Call g service.DisableTimeRegulation) e = refl
down_table t (Call g service.EnableTimeConstrained) e = refl
down_table t (Call g service.DisableTimeConstrained) e = refl
down_table t (Call g (service.TimeAdvanceRequest time)) e = refl
down_table t (Call g (service.TimeAdvanceRequestAvailable time)) e = refl
down_table t (Call g (service.NextEventRequest time)) e = refl
down_table t (Call g (service.NextEventRequestAvailable time)) e = refl
down_table t (Call g (service.FlushQueueRequest time)) e = refl
down_table t (Call g (service.ModifyLookahead lookahead)) e = refl
down_table t (Call g service.EnableAsynchronousDelivery) e = refl
down_table t (Call g service.DisableAsynchronousDelivery) e = refl
down_table t (Call g service.QueryLbts) e = refl
down_table t (Call g service.QueryFederateTime) e = refl
down_table t (Call g service.QueryMinNextEventTime) e = refl
down_table t (Call g service.QueryLookahead) e = refl
down_table t (Call g (service.GetObjectClassHandle name)) e = refl
down_table t (Call g (service.GetInteractionClassHandle name)) e = refl
down_table t (Call g (service.GetAttributeHandle name class)) e = refl
down_table t (Call g (service.GetParameterHandle name class)) e = refl
down_table t (Call g (service.GetObjectInstanceHandle name)) e = refl
down_table t (Call g (service.GetObjectInstanceName object)) e = refl
down_table t (Carry g h) e = refl
down_table t (Announce g) e = refl
down_table t (Tick g) e = refl

down_has : (h : Host) (step : Step) (out : Outcome) → HasAmbassadors h → given_outcome out ≡ (next h.components step).outcome → IsTurnedDown h.components step → HasAmbassadors (host_after h step out)
down_has h step out has gives down f =
    let is : out ≡ outcome.Refused down.fault = given_refused out down.fault (gives ∙ down.outcome) in
    ap (λ (o : Outcome). is_some (table_after h.heard step o f)) is ∙ ap (λ (t : HeardTable). is_some (t f)) (down_table h.heard step down.fault) ∙ has f ∙ sym (ap (λ (c : Components). c.directory.joined f) down.state)

pub join_has : (h : Host) (name : List ℕ) (out : Outcome) → HasAmbassadors h → given_outcome out ≡ (next h.components (Join name)).outcome → HasAmbassadors (host_after h (Join name) out)
join_has h name out has gives = ⊎_elim
    (λ (j : IsJoining h.components name). λ f.
    let is : out ≡ outcome.Done (answer.Federate h.components.directory.next_federate) = given_federate out h.components.directory.next_federate (gives ∙ j.outcome) in
    ap (λ (o : Outcome). is_some (table_after h.heard (Join name) o f)) is ∙ joins_upd h.heard h.components.directory.joined h.components.directory.next_federate has f ∙ sym (ap (λ (d : Directory). d.joined f) j.directory))
    (λ (down : IsTurnedDown h.components (Join name)). down_has h (Join name) out has gives down)
    (join_cases h.components name)

pub resign_has : (h : Host) (g : ℕ) (way : ResignAction) (out : Outcome) → HasAmbassadors h → given_outcome out ≡ (next h.components (Call g (service.Resign way))).outcome → HasAmbassadors (host_after h (Call g (service.Resign way)) out)
resign_has h g way out has gives = ⊎_elim
    (λ (j : IsResigning h.components g way). λ f.
    let is : out ≡ outcome.Done answer.Done = given_done out (gives ∙ j.outcome) in
    ap (λ (o : Outcome). is_some (table_after h.heard (Call g (service.Resign way)) o f)) is ∙ leaves_upd h.heard h.components.directory.joined g has f ∙ sym (ap (λ (joined : ℕ → Bool). joined f) j.joined))
    (λ (down : IsTurnedDown h.components (Call g (service.Resign way))). down_has h (Call g (service.Resign way)) out has gives down)
    (resign_cases h.components g way)

call_has : (h : Host) (g : ℕ) (x : Service) (out : Outcome) → HasAmbassadors h → given_outcome out ≡ (next h.components (Call g x)).outcome → HasAmbassadors (host_after h (Call g x) out)
call_has h g (service.Resign way) out has gives = resign_has h g way out has gives
call_has h g (service.PublishObjectClass class attributes) out has gives = plain_has h (Call g (service.PublishObjectClass class attributes)) out tt has
call_has h g (service.UnpublishObjectClass class) out has gives = plain_has h (Call g (service.UnpublishObjectClass class)) out tt has
call_has h g (service.SubscribeObjectClassAttributes class attributes) out has gives = plain_has h (Call g (service.SubscribeObjectClassAttributes class attributes)) out tt has
call_has h g (service.UnsubscribeObjectClass class) out has gives = plain_has h (Call g (service.UnsubscribeObjectClass class)) out tt has
call_has h g (service.PublishInteractionClass class) out has gives = plain_has h (Call g (service.PublishInteractionClass class)) out tt has
call_has h g (service.UnpublishInteractionClass class) out has gives = plain_has h (Call g (service.UnpublishInteractionClass class)) out tt has
call_has h g (service.SubscribeInteractionClass class) out has gives = plain_has h (Call g (service.SubscribeInteractionClass class)) out tt has
call_has h g (service.UnsubscribeInteractionClass class) out has gives = plain_has h (Call g (service.UnsubscribeInteractionClass class)) out tt has
call_has h g (service.RegisterObjectInstance class name) out has gives = plain_has h (Call g (service.RegisterObjectInstance class name)) out tt has
call_has h g (service.UpdateAttributeValues object values stamp) out has gives = plain_has h (Call g (service.UpdateAttributeValues object values stamp)) out tt has
call_has h g (service.SendInteraction class values stamp) out has gives = plain_has h (Call g (service.SendInteraction class values stamp)) out tt has
call_has h g (service.DeleteObjectInstance object stamp) out has gives = plain_has h (Call g (service.DeleteObjectInstance object stamp)) out tt has
call_has h g (service.ChangeAttributeOrderType object attributes order) out has gives = plain_has h (Call g (service.ChangeAttributeOrderType object attributes order)) out tt has
call_has h g (service.ChangeInteractionOrderType class order) out has gives = plain_has h (Call g (service.ChangeInteractionOrderType class order)) out tt has
call_has h g (service.Retract event) out has gives = plain_has h (Call g (service.Retract event)) out tt has
call_has h g (service.RegisterFederationSynchronizationPoint label) out has gives = plain_has h (Call g (service.RegisterFederationSynchronizationPoint label)) out tt has
call_has h g (service.SynchronizationPointAchieved label) out has gives = plain_has h (Call g (service.SynchronizationPointAchieved label)) out tt has
call_has h g (service.EnableTimeRegulation time lookahead) out has gives = plain_has h (Call g (service.EnableTimeRegulation time lookahead)) out tt has
call_has h g service.DisableTimeRegulation out has gives = plain_has h (Call g service.DisableTimeRegulation) out tt has
call_has h g service.EnableTimeConstrained out has gives = plain_has h (Call g service.EnableTimeConstrained) out tt has
call_has h g service.DisableTimeConstrained out has gives = plain_has h (Call g service.DisableTimeConstrained) out tt has
call_has h g (service.TimeAdvanceRequest time) out has gives = plain_has h (Call g (service.TimeAdvanceRequest time)) out tt has
call_has h g (service.TimeAdvanceRequestAvailable time) out has gives = plain_has h (Call g (service.TimeAdvanceRequestAvailable time)) out tt has
call_has h g (service.NextEventRequest time) out has gives = plain_has h (Call g (service.NextEventRequest time)) out tt has
call_has h g (service.NextEventRequestAvailable time) out has gives = plain_has h (Call g (service.NextEventRequestAvailable time)) out tt has
call_has h g (service.FlushQueueRequest time) out has gives = plain_has h (Call g (service.FlushQueueRequest time)) out tt has
call_has h g (service.ModifyLookahead lookahead) out has gives = plain_has h (Call g (service.ModifyLookahead lookahead)) out tt has
call_has h g service.EnableAsynchronousDelivery out has gives = plain_has h (Call g service.EnableAsynchronousDelivery) out tt has
call_has h g service.DisableAsynchronousDelivery out has gives = plain_has h (Call g service.DisableAsynchronousDelivery) out tt has
call_has h g service.QueryLbts out has gives = plain_has h (Call g service.QueryLbts) out tt has
call_has h g service.QueryFederateTime out has gives = plain_has h (Call g service.QueryFederateTime) out tt has
call_has h g service.QueryMinNextEventTime out has gives = plain_has h (Call g service.QueryMinNextEventTime) out tt has
call_has h g service.QueryLookahead out has gives = plain_has h (Call g service.QueryLookahead) out tt has
call_has h g (service.GetObjectClassHandle name) out has gives = plain_has h (Call g (service.GetObjectClassHandle name)) out tt has
call_has h g (service.GetInteractionClassHandle name) out has gives = plain_has h (Call g (service.GetInteractionClassHandle name)) out tt has
call_has h g (service.GetAttributeHandle name class) out has gives = plain_has h (Call g (service.GetAttributeHandle name class)) out tt has
call_has h g (service.GetParameterHandle name class) out has gives = plain_has h (Call g (service.GetParameterHandle name class)) out tt has
call_has h g (service.GetObjectInstanceHandle name) out has gives = plain_has h (Call g (service.GetObjectInstanceHandle name)) out tt has
call_has h g (service.GetObjectInstanceName object) out has gives = plain_has h (Call g (service.GetObjectInstanceName object)) out tt has

-- after a step the joined federates have an ambassador, and no others
pub has_after : (h : Host) (step : Step) (out : Outcome) → HasAmbassadors h → given_outcome out ≡ (next h.components step).outcome → HasAmbassadors (host_after h step out)
has_after h (Join name) out has gives = join_has h name out has gives
has_after h (Call g x) out has gives = call_has h g x out has gives
has_after h (Carry g k) out has gives = plain_has h (Carry g k) out tt has
has_after h (Announce g) out has gives = plain_has h (Announce g) out tt has
has_after h (Tick g) out has gives = plain_has h (Tick g) out tt has
