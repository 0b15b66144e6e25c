-- What tests of a registration tell
use Rattle.std.proofs.Common.{◌≡◌, ℕ, ◌≤◌, ◌||◌, not, ltb, Bool, true, false, List, [], ◌++◌, Option, Some, None, refl, sym, ◌∙◌, ap, subst, arith}
use Rattle.std.proofs.lemmas.Bool.Decides.{nat_tests}
use Rattle.std.specs.Option.{option_map_or}
use Rattle.hla_base.specs.Limits.{max_name, max_objects}
use Rattle.hla_base.specs.RowRefusals.{first_fault}
use Rattle.hla_base.specs.Tables.{upd_row}
use Rattle.hla_base.specs.declared.fault.Fault.{Fault}
use Rattle.hla_declaration.specs.Declarations.{declarations_of}
use Rattle.hla_object_registry.specs.Queries.{is_name_used_in, with_registered}
use Rattle.hla_machine.specs.Registered.{Registered, RegistryValue, registry_of}
use Rattle.hla_machine.specs.Directory.{Directory, discoveries_of, name_or_default}
use Rattle.hla_machine.specs.Central.{Central}
use Rattle.hla_machine.specs.Machine.{MayAnswer, after_register, central_seen}
use Rattle.hla_machine.specs.Refusals.{call_tests, is_length_in, refusal}
use Rattle.hla_machine.specs.declared.service.Service.TheVariants as service
use Rattle.hla_machine.specs.declared.step.Step.TheVariants.{Call}
use Rattle.hla_machine.specs.declared.step.Answer.{Answer}
use Rattle.hla_machine.specs.declared.step.Answer.TheVariants as answer
use Rattle.hla_machine.specs.declared.step.Outcome.{Outcome}
use Rattle.hla_machine.specs.declared.step.Outcome.TheVariants as outcome
use Rattle.hla_machine.specs.declared.step.Choice.{Choice}
use Rattle.hla_machine.specs.declared.step.Choice.TheVariants as choice
use Rattle.hla_machine.proofs.Basics.Tests.{all_clear}
use Rattle.hla_accounts.specs.declared.account.Account.{Account}
use Rattle.hla_accounts.specs.Accounts.{account_at, central_with}
use Rattle.hla_accounts.proofs.AfterSteps.Counts.{same_size}
use Rattle.hla_checker.proofs.Objects.NewObjects.{offers_in}
use Rattle.hla_accounts.proofs.Sendings.Messages.{joined_in}
use Rattle.hla_verdicts.specs.declared.verdict.Verdict.TheVariants as verdict
use Rattle.hla_verdicts.specs.Kept.{KeptValue, IsConsistent, JudgedStep, central_of, directory_with}
use Rattle.hla_checker.specs.Offering.{known_to_joined}
use Rattle.hla_verdicts.proofs.Steps.Services.{joined_refusal}

-- ---- after a registration
module _ (v : KeptValue) (q r : List Registered) (accounts : List Account) (f class : ℕ) (name : List ℕ) (attributes : List ℕ) where
  pub registered_central : attributes ≡ option_map_or (λ xs. xs) ((declarations_of v.declarations).published f class) []
      → registry_of q ≡ with_registered (registry_of v.objects) class name f attributes
      → ((d : Directory) → central_with d accounts ≡ record (central_with d v.accounts) { discoveries = upd_row (offers_in v.accounts) (joined_in v.accounts) f (λ g discoveries. discoveries ++ discoveries_of (directory_with v (declarations_of v.declarations) (registry_of q)) f g) })
      → registry_of r ≡ record (registry_of q) { known = known_to_joined (directory_with v (declarations_of v.declarations) (registry_of q)) (λ g. (account_at accounts g).is_joined) (registry_of v.objects).next_object }
      → central_of (record v { objects = r; accounts = accounts }) ≡ after_register (central_of v) f class name
  registered_central owned registered added known =
      let joined : (λ g. (account_at accounts g).is_joined) ≡ joined_in v.accounts = ap (λ (c : Central). c.directory.joined) (added (directory_with v (declarations_of v.declarations) (registry_of v.objects))) in
      let is : registry_of q ≡ with_registered (registry_of v.objects) class name f (option_map_or (λ xs. xs) ((declarations_of v.declarations).published f class) []) =
      registered ∙ ap (λ (a : List ℕ). with_registered (registry_of v.objects) class name f a) owned in
      let knows : registry_of r ≡ record (registry_of q) { known = known_to_joined (directory_with v (declarations_of v.declarations) (registry_of q)) (joined_in v.accounts) (registry_of v.objects).next_object } =
      known ∙ ap (λ (j : ℕ → Bool). record (registry_of q) { known = known_to_joined (directory_with v (declarations_of v.declarations) (registry_of q)) j (registry_of v.objects).next_object }) joined in
      added (directory_with v (declarations_of v.declarations) (registry_of r))
      ∙ ap (λ (x : RegistryValue). record (central_with (directory_with v (declarations_of v.declarations) x) v.accounts) {
        discoveries = upd_row (offers_in v.accounts) (joined_in v.accounts) f (λ g discoveries. discoveries ++ discoveries_of (directory_with v (declarations_of v.declarations) (registry_of q)) f g);
      }) knows
      ∙ ap (λ (x : RegistryValue). record (central_with (directory_with v (declarations_of v.declarations) (record x { known = known_to_joined (directory_with v (declarations_of v.declarations) x) (joined_in v.accounts) (registry_of v.objects).next_object })) v.accounts) {
        discoveries = upd_row (offers_in v.accounts) (joined_in v.accounts) f (λ g discoveries. discoveries ++ discoveries_of (directory_with v (declarations_of v.declarations) x) f g);
      }) is

pub registered_consistent : (v : KeptValue) (q r : List Registered) (accounts : List Account) (f : ℕ)
    → ((d : Directory) → central_with d accounts ≡ record (central_with d v.accounts) { discoveries = upd_row (offers_in v.accounts) (joined_in v.accounts) f (λ g discoveries. discoveries ++ discoveries_of (directory_with v (declarations_of v.declarations) (registry_of q)) f g) })
    → IsConsistent v → IsConsistent (record v { objects = r; accounts = accounts })
registered_consistent v q r accounts f added k = record {
  federates = k.federates ∙ sym (same_size v.accounts accounts (λ d. ap (λ (c : Central). c.directory.next_federate) (added d)));
  object_classes = k.object_classes;
  interaction_classes = k.interaction_classes;
}

-- ---- what is told of it
registration_answer : (c : Central) (f class : ℕ) (name : Option (List ℕ)) (a : Answer) → MayAnswer c f (service.RegisterObjectInstance class name) a choice.None
    → a ≡ answer.Registered c.directory.next_object (name_or_default c.directory.next_object name)
registration_answer c f class name (answer.Registered object given) may = λ i. answer.Registered (may.0 i) (may.1 i)
registration_answer c f class name a may = absurd may

module _ (w : KeptValue) (f class : ℕ) (name : Option (List ℕ)) (given : List ℕ) (named : given ≡ name_or_default (registry_of w.objects).next_object name) (joined : (account_at w.accounts f).is_joined ≡ true)
    (found : Option Fault) (is : found ≡ first_fault (call_tests (central_seen (central_of w)) f (service.RegisterObjectInstance class (Some given)))) where
  -- the tests are those of the name that is given or made
  pub registration_fault : found ≡ first_fault (call_tests (central_seen (central_of w)) f (service.RegisterObjectInstance class name))
  registration_fault = is ∙ ap (λ (n : List ℕ). first_fault (call_tests (central_seen (central_of w)) f (service.RegisterObjectInstance class (Some n)))) named

  registration_refusal : found ≡ refusal (central_seen (central_of w)) (Call f (service.RegisterObjectInstance class name))
  registration_refusal = registration_fault ∙ joined_refusal (central_of w) f (service.RegisterObjectInstance class name) joined

  pub registration_wrong : (out : Outcome) (a : Answer) (o : Choice) (object : ℕ) → object ≡ (registry_of w.objects).next_object → (found ≡ None) × (out ≡ outcome.Done a) × (o ≡ choice.None) → (a ≡ answer.Registered object given → ⊥)
      → JudgedStep w (Call f (service.RegisterObjectInstance class name)) out o w verdict.Wrong
  registration_wrong out a o object next ends other =
      subst (λ (t : Outcome). JudgedStep w (Call f (service.RegisterObjectInstance class name)) t o w verdict.Wrong) (sym ends.1)
      (subst (λ (u : Choice). JudgedStep w (Call f (service.RegisterObjectInstance class name)) (outcome.Done a) u w verdict.Wrong) (sym ends.2)
      (λ allowed. other (registration_answer (central_of w) f class name a allowed.0.1 ∙ (λ i. answer.Registered (sym next i) (sym named i)))))

  pub registration_done : (new : KeptValue) (out : Outcome) (a : Answer) (o : Choice) (object : ℕ) → object ≡ (registry_of w.objects).next_object → (found ≡ None) × (out ≡ outcome.Done a) × (o ≡ choice.None) → a ≡ answer.Registered object given
      → central_of new ≡ after_register (central_of w) f class given → IsConsistent new → JudgedStep w (Call f (service.RegisterObjectInstance class name)) out o new verdict.Allowed
  registration_done new out a o object next ends answers follows kept =
      subst (λ (t : Outcome). JudgedStep w (Call f (service.RegisterObjectInstance class name)) t o new verdict.Allowed) (sym (ends.1 ∙ ap outcome.Done answers))
      (subst (λ (u : Choice). JudgedStep w (Call f (service.RegisterObjectInstance class name)) (outcome.Done (answer.Registered object given)) u new verdict.Allowed) (sym ends.2)
      (((sym registration_refusal ∙ ends.0, (next, named)), refl), (follows ∙ ap (after_register (central_of w) f class) named, kept)))

  -- ---- what a registration may rely on
  or_first : (a b : Bool) → (a || b) ≡ false → a ≡ false
  or_first true b none = absurd (cc)
  or_first false b none = refl

  pub registration_room : found ≡ None → (registry_of w.objects).next_object ≤ max_objects
  registration_room none =
      let limit : ltb max_objects (registry_of w.objects).next_object ≡ false = or_first (ltb max_objects (registry_of w.objects).next_object) (not (is_length_in 1 max_name given)) (all_clear (call_tests (central_seen (central_of w)) f (service.RegisterObjectInstance class (Some given))) (sym is ∙ none)).1.1.1.0 in
      grind (arith, nat_tests)

  pub registration_unused : found ≡ None → is_name_used_in (registry_of w.objects) given ≡ false
  registration_unused none = (all_clear (call_tests (central_seen (central_of w)) f (service.RegisterObjectInstance class (Some given))) (sym is ∙ none)).1.1.0
