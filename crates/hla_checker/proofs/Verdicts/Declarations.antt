-- What tests of a declaration tell
use Rattle.std.proofs.Common.{◌≡◌, ℕ, zero, suc, ◌<◌, ◌≤◌, length, is_some, arith, true, List, [], ◌∷◌, Option, Some, None, refl, sym, ◌∙◌, ap, subst, ⊎_elim}
use Rattle.std.proofs.lemmas.Bool.{cases_lt}
use mathlib.Core.Bool.{false≢true}
use Rattle.hla_base.specs.declared.fault.Fault.{Fault}
use Rattle.hla_base.specs.RowRefusals.{Test, first_fault}
use Rattle.hla_catalogue.specs.Lookup.{item_numbered, is_interaction_class, is_object_class}
use Rattle.hla_declaration.specs.Lists.{DeclarationLists}
use Rattle.hla_declaration.specs.Declarations.{DeclarationsValue, declarations_of}
use Rattle.hla_catalogue.proofs.ItemLemmas.{item_numbered_past}
use Rattle.hla_machine.specs.Registered.{registry_of}
use Rattle.hla_machine.specs.declared.service.Service.{Service}
use Rattle.hla_machine.specs.declared.service.Service.TheVariants as service
use Rattle.hla_machine.specs.declared.step.Step.TheVariants.{Call}
use Rattle.hla_machine.specs.declared.step.Answer.TheVariants as answer
use Rattle.hla_machine.specs.declared.step.Outcome.{Outcome}
use Rattle.hla_machine.specs.declared.step.Outcome.TheVariants as outcome
use Rattle.hla_machine.specs.declared.step.Choice.{Choice}
use Rattle.hla_machine.specs.declared.step.Choice.TheVariants as choice
use Rattle.hla_machine.specs.Central.{Central}
use Rattle.hla_machine.specs.Refusals.{Seen, call_tests, no_object_class}
use Rattle.hla_machine.specs.Machine.{MayAnswer, after_call, central_seen}
use Rattle.hla_machine.proofs.Basics.Tests.{all_clear, not-is-false}
use Rattle.hla_accounts.specs.Accounts.{account_at, central_with}
use Rattle.hla_checker.specs.declared.declaring.ClassDeclaration.{ClassDeclaration}
use Rattle.hla_checker.specs.declared.declaring.ClassDeclaration.TheVariants.{UnpublishObject, UnsubscribeObject, PublishInteraction, UnpublishInteraction, SubscribeInteraction, UnsubscribeInteraction}
use Rattle.hla_verdicts.specs.declared.verdict.Verdict.TheVariants as verdict
use Rattle.hla_verdicts.specs.Calls.{AnswersDone, ChoosesNothing}
use Rattle.hla_checker.specs.Declaring.{declaration_of, declaration_tests, with_declaration, IsOfClass}
use Rattle.hla_verdicts.specs.Kept.{KeptValue, IsConsistent, JudgedStep, central_of, directory_with, directory_of}
use Rattle.hla_verdicts.proofs.Steps.Calls.{joined_within}
use Rattle.hla_verdicts.proofs.Steps.Services.{joined_refusal}
use Rattle.hla_verdicts.proofs.Steps.Endings.{ending_done}

-- ---- a call that was done, and has no answer
pub done_judged : (v w new : KeptValue) (f : ℕ) (x : Service) (found : Option Fault) (out : Outcome) (o : Choice) → v ≡ w → (account_at w.accounts f).is_joined ≡ true
    → found ≡ first_fault (call_tests (central_seen (central_of w)) f x) → (found ≡ None) × (out ≡ outcome.Done answer.Done) × (o ≡ choice.None)
    → ChoosesNothing x → MayAnswer (central_of v) f x answer.Done choice.None → central_of new ≡ after_call (central_of v) f x choice.None → IsConsistent new
    → JudgedStep w (Call f x) out o new verdict.Allowed
done_judged v w new f x found out o same joined is ends plain may follows kept =
    let j = ending_done (central_of w) f x plain (central_of new) out o found (is ∙ joined_refusal (central_of w) f x joined) ends
    (subst (λ (y : KeptValue). MayAnswer (central_of y) f x answer.Done choice.None) same may) (follows ∙ ap (λ (y : KeptValue). after_call (central_of y) f x choice.None) same) in
    (j.0, (j.1, kept))

-- ---- numbers
pub numbered : {X : Type 0} (xs : List X) (n : ℕ) → is_some (item_numbered xs n) ≡ true → (0 < n) × (n ≤ length xs)
numbered xs zero is = absurd (false≢true is)
numbered xs (suc k) is = (
  omega arith,
  ⊎_elim
      (λ (past : length xs < suc k). absurd (false≢true (sym (ap is_some (item_numbered_past xs (suc k) past)) ∙ is)))
      (λ (within : suc k ≤ length xs). within)
      (cases_lt (length xs) (suc k)),
)

pub object_numbered : (v : KeptValue) (class : ℕ) → IsConsistent v → is_object_class v.catalogue class ≡ true → (0 < class) × (class ≤ (declarations_of v.declarations).object_classes)
object_numbered v class kept is = let n = numbered v.catalogue.object_classes class is in (n.0, subst (λ m. class ≤ m) (sym kept.object_classes) n.1)

interaction_numbered : (v : KeptValue) (class : ℕ) → IsConsistent v → is_interaction_class v.catalogue class ≡ true → (0 < class) × (class ≤ (declarations_of v.declarations).interaction_classes)
interaction_numbered v class kept is = let n = numbered v.catalogue.interaction_classes class is in (n.0, subst (λ m. class ≤ m) (sym kept.interaction_classes) n.1)

pub caller_within : (v w : KeptValue) (f : ℕ) → v ≡ w → IsConsistent w → (account_at w.accounts f).is_joined ≡ true → (0 < f) × (f ≤ (declarations_of v.declarations).federates)
caller_within v w f same kept joined =
    let in_accounts = joined_within w.accounts f joined in
    (in_accounts.0, subst (λ (y : KeptValue). f ≤ (declarations_of y.declarations).federates) (sym same) (subst (λ n. f ≤ n) (sym kept.federates) in_accounts.1))

-- an object class that may be published or subscribed
pub class_within : (v w : KeptValue) (class : ℕ) (rest : Test) (found : Option Fault) → v ≡ w → IsConsistent w → found ≡ first_fault (no_object_class (directory_of w) class ∷ rest ∷ []) → found ≡ None
    → (0 < class) × (class ≤ (declarations_of v.declarations).object_classes)
class_within v w class rest found same kept is none =
    subst (λ (y : KeptValue). (0 < class) × (class ≤ (declarations_of y.declarations).object_classes)) (sym same)
    (object_numbered w class kept (not-is-false (is_object_class w.catalogue class) (all_clear (no_object_class (directory_of w) class ∷ rest ∷ []) (sym is ∙ none)).0))

of_class : (v : KeptValue) (f : ℕ) (p : ClassDeclaration) → IsConsistent v → first_fault (declaration_tests (directory_of v) f p) ≡ None → IsOfClass (declarations_of v.declarations) p
of_class v f (UnpublishObject class) kept none = object_numbered v class kept (not-is-false (is_object_class v.catalogue class) (all_clear (declaration_tests (directory_of v) f (UnpublishObject class)) none).0)
of_class v f (UnsubscribeObject class) kept none = object_numbered v class kept (not-is-false (is_object_class v.catalogue class) (all_clear (declaration_tests (directory_of v) f (UnsubscribeObject class)) none).0)
of_class v f (PublishInteraction class) kept none = interaction_numbered v class kept (not-is-false (is_interaction_class v.catalogue class) (all_clear (declaration_tests (directory_of v) f (PublishInteraction class)) none).0)
of_class v f (UnpublishInteraction class) kept none = interaction_numbered v class kept (not-is-false (is_interaction_class v.catalogue class) (all_clear (declaration_tests (directory_of v) f (UnpublishInteraction class)) none).0)
of_class v f (SubscribeInteraction class) kept none = interaction_numbered v class kept (not-is-false (is_interaction_class v.catalogue class) (all_clear (declaration_tests (directory_of v) f (SubscribeInteraction class)) none).0)
of_class v f (UnsubscribeInteraction class) kept none = interaction_numbered v class kept (not-is-false (is_interaction_class v.catalogue class) (all_clear (declaration_tests (directory_of v) f (UnsubscribeInteraction class)) none).0)

pub declared_class : (v w : KeptValue) (f : ℕ) (p : ClassDeclaration) (found : Option Fault) → v ≡ w → IsConsistent w → found ≡ first_fault (declaration_tests (directory_of w) f p) → found ≡ None → IsOfClass (declarations_of v.declarations) p
declared_class v w f p found same kept is none = subst (λ (y : KeptValue). IsOfClass (declarations_of y.declarations) p) (sym same) (of_class w f p kept (sym is ∙ none))

-- ---- other declarations for as many federates and classes
pub declared_consistent : (v w : KeptValue) (dd : DeclarationLists) (t : DeclarationsValue) → v ≡ w → IsConsistent w → declarations_of dd ≡ t
    → (t.federates ≡ (declarations_of v.declarations).federates) × (t.object_classes ≡ (declarations_of v.declarations).object_classes) × (t.interaction_classes ≡ (declarations_of v.declarations).interaction_classes)
    → IsConsistent (record v { declarations = dd })
declared_consistent v w dd t same kept is counts =
    let k : IsConsistent v = subst (λ (y : KeptValue). IsConsistent y) (sym same) kept in
    record {
      federates = ap (λ (x : DeclarationsValue). x.federates) is ∙ counts.0 ∙ k.federates;
      object_classes = ap (λ (x : DeclarationsValue). x.object_classes) is ∙ counts.1 ∙ k.object_classes;
      interaction_classes = ap (λ (x : DeclarationsValue). x.interaction_classes) is ∙ counts.2 ∙ k.interaction_classes;
    }

-- ---- declarations of a class by its number alone
pub record IsDeclaration (x : Service) (p : ClassDeclaration) : Type 0 where
  pub tests : (s : Seen) (f : ℕ) → call_tests s f x ≡ declaration_tests s.directory f p
  pub plain : ChoosesNothing x
  pub only : AnswersDone x
  pub answers : (c : Central) (f : ℕ) → MayAnswer c f x answer.Done choice.None
  pub follows : (v : KeptValue) (t : DeclarationsValue) (f : ℕ)
      → central_with (directory_with v (with_declaration t f p) (registry_of v.objects)) v.accounts ≡ after_call (central_with (directory_with v t (registry_of v.objects)) v.accounts) f x choice.None

done_only : (x : Service) (p : ClassDeclaration) → declaration_of x ≡ Some p → AnswersDone x
done_only (service.UnpublishObjectClass class) p is c f answer.Done o may = refl
done_only (service.UnpublishObjectClass class) p is c f a o may = absurd may
done_only (service.UnsubscribeObjectClass class) p is c f answer.Done o may = refl
done_only (service.UnsubscribeObjectClass class) p is c f a o may = absurd may
done_only (service.PublishInteractionClass class) p is c f answer.Done o may = refl
done_only (service.PublishInteractionClass class) p is c f a o may = absurd may
done_only (service.UnpublishInteractionClass class) p is c f answer.Done o may = refl
done_only (service.UnpublishInteractionClass class) p is c f a o may = absurd may
done_only (service.SubscribeInteractionClass class) p is c f answer.Done o may = refl
done_only (service.SubscribeInteractionClass class) p is c f a o may = absurd may
done_only (service.UnsubscribeInteractionClass class) p is c f answer.Done o may = refl
done_only (service.UnsubscribeInteractionClass class) p is c f a o may = absurd may
done_only x p is c f a o may = cc

pub declaration_is : (x : Service) (p : ClassDeclaration) → declaration_of x ≡ Some p → IsDeclaration x p
declaration_is (service.UnpublishObjectClass class) p is =
    let same : UnpublishObject class ≡ p = cc in
    subst (λ (y : ClassDeclaration). IsDeclaration (service.UnpublishObjectClass class) y) same (record { tests = λ s f. refl; plain = λ o. (λ e. e, λ e. e); only = done_only (service.UnpublishObjectClass class) (UnpublishObject class) refl; answers = λ c f. tt; follows = λ v t f. refl })
declaration_is (service.UnsubscribeObjectClass class) p is =
    let same : UnsubscribeObject class ≡ p = cc in
    subst (λ (y : ClassDeclaration). IsDeclaration (service.UnsubscribeObjectClass class) y) same (record { tests = λ s f. refl; plain = λ o. (λ e. e, λ e. e); only = done_only (service.UnsubscribeObjectClass class) (UnsubscribeObject class) refl; answers = λ c f. tt; follows = λ v t f. refl })
declaration_is (service.PublishInteractionClass class) p is =
    let same : PublishInteraction class ≡ p = cc in
    subst (λ (y : ClassDeclaration). IsDeclaration (service.PublishInteractionClass class) y) same (record { tests = λ s f. refl; plain = λ o. (λ e. e, λ e. e); only = done_only (service.PublishInteractionClass class) (PublishInteraction class) refl; answers = λ c f. tt; follows = λ v t f. refl })
declaration_is (service.UnpublishInteractionClass class) p is =
    let same : UnpublishInteraction class ≡ p = cc in
    subst (λ (y : ClassDeclaration). IsDeclaration (service.UnpublishInteractionClass class) y) same (record { tests = λ s f. refl; plain = λ o. (λ e. e, λ e. e); only = done_only (service.UnpublishInteractionClass class) (UnpublishInteraction class) refl; answers = λ c f. tt; follows = λ v t f. refl })
declaration_is (service.SubscribeInteractionClass class) p is =
    let same : SubscribeInteraction class ≡ p = cc in
    subst (λ (y : ClassDeclaration). IsDeclaration (service.SubscribeInteractionClass class) y) same (record { tests = λ s f. refl; plain = λ o. (λ e. e, λ e. e); only = done_only (service.SubscribeInteractionClass class) (SubscribeInteraction class) refl; answers = λ c f. tt; follows = λ v t f. refl })
declaration_is (service.UnsubscribeInteractionClass class) p is =
    let same : UnsubscribeInteraction class ≡ p = cc in
    subst (λ (y : ClassDeclaration). IsDeclaration (service.UnsubscribeInteractionClass class) y) same (record { tests = λ s f. refl; plain = λ o. (λ e. e, λ e. e); only = done_only (service.UnsubscribeInteractionClass class) (UnsubscribeInteraction class) refl; answers = λ c f. tt; follows = λ v t f. refl })
declaration_is x p is = cc

same_counts : (t : DeclarationsValue) (f : ℕ) (p : ClassDeclaration)
    → ((with_declaration t f p).federates ≡ t.federates) × ((with_declaration t f p).object_classes ≡ t.object_classes) × ((with_declaration t f p).interaction_classes ≡ t.interaction_classes)
same_counts t f (UnpublishObject class) = (refl, refl, refl)
same_counts t f (UnsubscribeObject class) = (refl, refl, refl)
same_counts t f (PublishInteraction class) = (refl, refl, refl)
same_counts t f (UnpublishInteraction class) = (refl, refl, refl)
same_counts t f (SubscribeInteraction class) = (refl, refl, refl)
same_counts t f (UnsubscribeInteraction class) = (refl, refl, refl)

module _ (v w : KeptValue) (f : ℕ) (x : Service) (p : ClassDeclaration) (found : Option Fault) (out : Outcome) (o : Choice) (same : v ≡ w) (kept : IsConsistent w) (joined : (account_at w.accounts f).is_joined ≡ true)
    (of : IsDeclaration x p) (is : found ≡ first_fault (declaration_tests (directory_of w) f p)) where
  pub declaration_fault_is : found ≡ first_fault (call_tests (central_seen (central_of w)) f x)
  declaration_fault_is = is ∙ sym (ap first_fault (of.tests (central_seen (central_of w)) f))

  pub declaration_done : (dd : DeclarationLists) → (found ≡ None) × (out ≡ outcome.Done answer.Done) × (o ≡ choice.None) → declarations_of dd ≡ with_declaration (declarations_of v.declarations) f p
      → JudgedStep w (Call f x) out o (record v { declarations = dd }) verdict.Allowed
  declaration_done dd ends declared =
      done_judged v w (record v { declarations = dd }) f x found out o same joined declaration_fault_is ends of.plain (of.answers (central_of v) f)
      (ap (λ (t : DeclarationsValue). central_with (directory_with v t (registry_of v.objects)) v.accounts) declared ∙ of.follows v (declarations_of v.declarations) f)
      (declared_consistent v w dd (with_declaration (declarations_of v.declarations) f p) same kept declared (same_counts (declarations_of v.declarations) f p))

-- ---- publishing an object class
pub publishing_only : (class : ℕ) (attributes : List ℕ) → AnswersDone (service.PublishObjectClass class attributes)
publishing_only class attributes c f answer.Done o may = refl
publishing_only class attributes c f a o may = absurd may
