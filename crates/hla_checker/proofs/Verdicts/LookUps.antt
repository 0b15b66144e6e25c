-- What tests of a look-up tell
use Rattle.std.proofs.Common.{◌≡◌, ℕ, cond, not, Bool, true, false, List, [], ◌∷◌, Option, Some, None, find, refl, sym, ◌∙◌, ap, subst, ⊎_elim}
use Rattle.std.specs.List.{list_any}
use Rattle.std.proofs.lemmas.Bool.{cases_Bool}
use Rattle.hla_base.specs.declared.fault.Fault.{Fault}
use Rattle.hla_base.specs.declared.fault.Fault.TheVariants as fault
use Rattle.hla_base.specs.RowRefusals.{first_fault}
use Rattle.hla_catalogue.specs.Lookup.{object_class_named, interaction_class_named, attribute_named, parameter_named}
use Rattle.hla_machine.specs.declared.service.Service.{Service}
use Rattle.hla_machine.specs.declared.service.Service.TheVariants as service
use Rattle.hla_machine.specs.declared.step.Step.TheVariants.{Call}
use Rattle.hla_machine.specs.declared.step.Answer.{Answer}
use Rattle.hla_machine.specs.declared.step.Answer.TheVariants as answer
use Rattle.hla_machine.specs.declared.step.Outcome.{Outcome}
use Rattle.hla_machine.specs.declared.step.Choice.{Choice}
use Rattle.hla_machine.specs.declared.step.Choice.TheVariants as choice
use Rattle.hla_machine.specs.Central.{Central}
use Rattle.hla_machine.specs.Refusals.{call_tests, is_object_named}
use Rattle.hla_machine.specs.Machine.{MayAnswer, central_seen}
use Rattle.hla_accounts.specs.Accounts.{account_at}
use Rattle.hla_verdicts.specs.declared.verdict.Verdict.{Verdict}
use Rattle.hla_verdicts.specs.Calls.{IsHandleIn, TestsLookUp, ToldOf}
use Rattle.hla_verdicts.specs.Kept.{KeptValue, IsConsistent, JudgedStep, central_of, directory_of}
use Rattle.hla_verdicts.proofs.Steps.Outcomes.{kept_unchanged}
use Rattle.hla_verdicts.proofs.Steps.Services.{joined_refusal}

-- a call that changes nothing, as it is told of
pub called_unchanged : (v w : KeptValue) (f : ℕ) (x : Service) (found : Option Fault) (out : Outcome) (o : Choice) (told : Verdict) → v ≡ w → IsConsistent w → (account_at w.accounts f).is_joined ≡ true
    → found ≡ first_fault (call_tests (central_seen (central_of v)) f x) → ToldOf found out o told (central_of v) f x → JudgedStep w (Call f x) out o w told
called_unchanged v w f x found out o told same kept joined is judged =
    kept_unchanged v w (Call f x) (Call f x) out o told same refl kept
    (judged (is ∙ joined_refusal (central_of v) f x (subst (λ (y : KeptValue). (account_at y.accounts f).is_joined ≡ true) (sym same) joined)))

-- ---- numbers in a catalogue
object_class_answers : (c : Central) (f : ℕ) (name : List ℕ) (a : Answer)
    → (IsHandleIn (object_class_named c.directory.catalogue name) a → MayAnswer c f (service.GetObjectClassHandle name) a choice.None) × (MayAnswer c f (service.GetObjectClassHandle name) a choice.None → IsHandleIn (object_class_named c.directory.catalogue name) a)
object_class_answers c f name (answer.Handle n) = (λ h. h, λ h. h)
object_class_answers c f name a = (λ h. h, λ h. h)

interaction_class_answers : (c : Central) (f : ℕ) (name : List ℕ) (a : Answer)
    → (IsHandleIn (interaction_class_named c.directory.catalogue name) a → MayAnswer c f (service.GetInteractionClassHandle name) a choice.None) × (MayAnswer c f (service.GetInteractionClassHandle name) a choice.None → IsHandleIn (interaction_class_named c.directory.catalogue name) a)
interaction_class_answers c f name (answer.Handle n) = (λ h. h, λ h. h)
interaction_class_answers c f name a = (λ h. h, λ h. h)

attribute_answers : (c : Central) (f : ℕ) (name : List ℕ) (class : ℕ) (a : Answer)
    → (IsHandleIn (attribute_named c.directory.catalogue class name) a → MayAnswer c f (service.GetAttributeHandle name class) a choice.None) × (MayAnswer c f (service.GetAttributeHandle name class) a choice.None → IsHandleIn (attribute_named c.directory.catalogue class name) a)
attribute_answers c f name class (answer.Handle n) = (λ h. h, λ h. h)
attribute_answers c f name class a = (λ h. h, λ h. h)

parameter_answers : (c : Central) (f : ℕ) (name : List ℕ) (class : ℕ) (a : Answer)
    → (IsHandleIn (parameter_named c.directory.catalogue class name) a → MayAnswer c f (service.GetParameterHandle name class) a choice.None) × (MayAnswer c f (service.GetParameterHandle name class) a choice.None → IsHandleIn (parameter_named c.directory.catalogue class name) a)
parameter_answers c f name class (answer.Handle n) = (λ h. h, λ h. h)
parameter_answers c f name class a = (λ h. h, λ h. h)

module _ (c : Central) (f : ℕ) (name : List ℕ) (found : Option ℕ) where
  pub object_class_look_up : found ≡ object_class_named c.directory.catalogue name → TestsLookUp c f (service.GetObjectClassHandle name) (IsHandleIn found)
  object_class_look_up is = subst (λ (n : Option ℕ). TestsLookUp c f (service.GetObjectClassHandle name) (IsHandleIn n)) (sym is)
      (record { plain = λ o. (λ e. e, λ e. e); answers = object_class_answers c f name; unchanged = refl })

  pub interaction_class_look_up : found ≡ interaction_class_named c.directory.catalogue name → TestsLookUp c f (service.GetInteractionClassHandle name) (IsHandleIn found)
  interaction_class_look_up is = subst (λ (n : Option ℕ). TestsLookUp c f (service.GetInteractionClassHandle name) (IsHandleIn n)) (sym is)
      (record { plain = λ o. (λ e. e, λ e. e); answers = interaction_class_answers c f name; unchanged = refl })

  pub attribute_look_up : (class : ℕ) → found ≡ attribute_named c.directory.catalogue class name → TestsLookUp c f (service.GetAttributeHandle name class) (IsHandleIn found)
  attribute_look_up class is = subst (λ (n : Option ℕ). TestsLookUp c f (service.GetAttributeHandle name class) (IsHandleIn n)) (sym is)
      (record { plain = λ o. (λ e. e, λ e. e); answers = attribute_answers c f name class; unchanged = refl })

  pub parameter_look_up : (class : ℕ) → found ≡ parameter_named c.directory.catalogue class name → TestsLookUp c f (service.GetParameterHandle name class) (IsHandleIn found)
  parameter_look_up class is = subst (λ (n : Option ℕ). TestsLookUp c f (service.GetParameterHandle name class) (IsHandleIn n)) (sym is)
      (record { plain = λ o. (λ e. e, λ e. e); answers = parameter_answers c f name class; unchanged = refl })

-- ---- objects
pub object_number_look_up : (c : Central) (f : ℕ) (name : List ℕ) → TestsLookUp c f (service.GetObjectInstanceHandle name) (λ a. MayAnswer c f (service.GetObjectInstanceHandle name) a choice.None)
object_number_look_up c f name = record { plain = λ o. (λ e. e, λ e. e); answers = λ a. (λ h. h, λ h. h); unchanged = refl }

name_answers : (c : Central) (f h : ℕ) (a : Answer)
    → (a ≡ answer.Name (c.directory.object h).name → MayAnswer c f (service.GetObjectInstanceName h) a choice.None) × (MayAnswer c f (service.GetObjectInstanceName h) a choice.None → a ≡ answer.Name (c.directory.object h).name)
name_answers c f h (answer.Name n) = (λ e. (let same : n ≡ (c.directory.object h).name = cc in same), λ e. ap answer.Name e)
name_answers c f h a = (λ e. absurd (cc), λ e. absurd e)

pub object_name_look_up : (c : Central) (f h : ℕ) (name : List ℕ) → name ≡ (c.directory.object h).name → TestsLookUp c f (service.GetObjectInstanceName h) (λ a. a ≡ answer.Name name)
object_name_look_up c f h name is = subst (λ (n : List ℕ). TestsLookUp c f (service.GetObjectInstanceName h) (λ a. a ≡ answer.Name n)) (sym is)
    (record { plain = λ o. (λ e. e, λ e. e); answers = name_answers c f h; unchanged = refl })

-- what is found is there
pub any_found : {X : Type 0} (p : X → Bool) (xs : List X) (x : X) → find p xs ≡ Some x → list_any p xs ≡ true
any_found p [] x e = absurd (cc)
any_found p (y ∷ ys) x e = ⊎_elim
    (λ (t : p y ≡ true). rw t refl)
    (λ (n : p y ≡ false). let rest : find p ys ≡ Some x = rw n at e in rw (n, any_found p ys x rest) refl)
    (cases_Bool (p y))

pub none_found : {X : Type 0} (p : X → Bool) (xs : List X) → find p xs ≡ None → list_any p xs ≡ false
none_found p [] e = refl
none_found p (y ∷ ys) e = ⊎_elim
    (λ (t : p y ≡ true). let found = rw t at e in absurd (cc))
    (λ (n : p y ≡ false). let rest : find p ys ≡ None = rw n at e in rw (n, none_found p ys rest) refl)
    (cases_Bool (p y))

pub named_refusal : (v w : KeptValue) (f : ℕ) (name : List ℕ) (b : Bool) → v ≡ w → is_object_named (directory_of v) f name ≡ b
    → cond (not b) (Some fault.ObjectNotKnown) None ≡ first_fault (call_tests (central_seen (central_of w)) f (service.GetObjectInstanceHandle name))
named_refusal v w f name b same is =
    subst (λ (y : KeptValue). cond (not b) (Some fault.ObjectNotKnown) None ≡ first_fault (call_tests (central_seen (central_of y)) f (service.GetObjectInstanceHandle name))) same
    (sym (ap (λ (t : Bool). cond (not t) (Some fault.ObjectNotKnown) None) is))
