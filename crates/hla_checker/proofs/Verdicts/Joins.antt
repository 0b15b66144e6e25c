-- What tests of a joining tell
use Rattle.std.proofs.Common.{◌≡◌, ℕ, ◌+◌, ◌<◌, length, ltb, ◌||◌, arith, Bool, true, false, List, Option, Some, None, refl, sym, ◌∙◌, ap, subst}
use Rattle.std.proofs.lemmas.Bool.Decides.{nat_tests}
use Rattle.hla_base.specs.Limits.{max_joins}
use Rattle.hla_base.specs.declared.fault.Fault.{Fault}
use Rattle.hla_declaration.specs.Lists.{DeclarationLists}
use Rattle.hla_declaration.specs.Declarations.{DeclarationsValue, declarations_of}
use Rattle.hla_machine.specs.Registered.{registry_of}
use Rattle.hla_machine.specs.declared.step.Step.TheVariants.{Join}
use Rattle.hla_machine.specs.declared.step.Answer.{Answer}
use Rattle.hla_machine.specs.declared.step.Answer.TheVariants as answer
use Rattle.hla_machine.specs.declared.step.Outcome.{Outcome}
use Rattle.hla_machine.specs.declared.step.Outcome.TheVariants as outcome
use Rattle.hla_machine.specs.declared.step.Choice.{Choice}
use Rattle.hla_machine.specs.declared.step.Choice.TheVariants as choice
use Rattle.hla_synchronization.specs.OpenPoints.{points_of}
use Rattle.hla_machine.specs.Directory.{Directory}
use Rattle.hla_machine.specs.Central.{Central}
use Rattle.hla_machine.specs.Refusals.{refusal, tests}
use Rattle.hla_machine.specs.Machine.{MayDo, after_join, central_seen}
use Rattle.hla_machine.proofs.Basics.Tests.{all_clear}
use Rattle.hla_accounts.specs.declared.account.Account.{Account}
use Rattle.hla_accounts.specs.Accounts.{central_with}
use Rattle.hla_verdicts.specs.declared.verdict.Verdict.TheVariants as verdict
use Rattle.hla_verdicts.specs.Answers.{joiner_in}
use Rattle.hla_verdicts.specs.Kept.{KeptValue, IsConsistent, central_of, directory_with, directory_of}
use Rattle.hla_verdicts.proofs.Steps.Outcomes.{JudgedCentral}

-- ---- after a joining
module _ (v : KeptValue) (decl : DeclarationLists) (accounts : List Account) (name given : List ℕ)
    (admitted : declarations_of decl ≡ record (declarations_of v.declarations) { federates = (declarations_of v.declarations).federates + 1 })
    (joins : (d : Directory) → d.points ≡ points_of v.points → central_with d accounts ≡ after_join (central_with d v.accounts) given) where
  pub joined_central : given ≡ name → central_of (record v { declarations = decl; accounts = accounts }) ≡ after_join (central_of v) name
  joined_central same =
      ap (λ (x : DeclarationsValue). central_with (directory_with v x (registry_of v.objects)) accounts) admitted
      ∙ joins (directory_of v) refl ∙ ap (after_join (central_of v)) same

  pub joined_consistent : IsConsistent v → IsConsistent (record v { declarations = decl; accounts = accounts })
  joined_consistent k =
      let members : (declarations_of decl).federates ≡ (declarations_of v.declarations).federates + 1 = ap (λ (x : DeclarationsValue). x.federates) admitted in
      let next : length accounts + 1 ≡ (length v.accounts + 1) + 1 = ap (λ (c : Central). c.directory.next_federate) (joins (directory_of v) refl) in
      let old : (declarations_of v.declarations).federates ≡ length v.accounts = k.federates in
      record {
        federates = counted (declarations_of decl).federates (declarations_of v.declarations).federates (length accounts) (length v.accounts) members next old;
        object_classes = ap (λ (x : DeclarationsValue). x.object_classes) admitted ∙ k.object_classes;
        interaction_classes = ap (λ (x : DeclarationsValue). x.interaction_classes) admitted ∙ k.interaction_classes;
      }
    where
      counted : (a b m n : ℕ) → a ≡ b + 1 → m + 1 ≡ (n + 1) + 1 → b ≡ n → a ≡ m
      counted a b m n p q r = omega arith

or_left : (a b : Bool) → (a || b) ≡ false → a ≡ false
or_left true b is = is
or_left false b is = refl

-- there is room for one that may join
pub join_room : (d : Directory) (accounts : List Account) (name : List ℕ) → refusal (central_seen (central_with d accounts)) (Join name) ≡ None → length accounts < max_joins
join_room d accounts name none =
    let within : ltb max_joins (length accounts + 1) ≡ false = or_left (ltb max_joins (length accounts + 1)) _ (all_clear (tests (central_seen (central_with d accounts)) (Join name)) none).1.0 in
    grind (arith, nat_tests)

-- ---- what is told of it
module _ (c : Central) (name : List ℕ) (found : Option Fault) (out : Outcome) (a : Answer) (o : Choice) (is : found ≡ refusal (central_seen c) (Join name)) (none : found ≡ None) (ended : out ≡ outcome.Done a) where
  number_is : (b : Answer) → MayDo c (Join name) b o → joiner_in b ≡ Some c.directory.next_federate
  number_is (answer.Federate n) may = ap Some may
  number_is b may = absurd may

  may_number : (b : Answer) → joiner_in b ≡ Some c.directory.next_federate → MayDo c (Join name) b o
  may_number (answer.Federate n) same = cc
  may_number b same = cc

  pub join_wrong : (d : Central) (n : ℕ) → n ≡ c.directory.next_federate → (joiner_in a ≡ Some n → ⊥) → JudgedCentral c (Join name) out o d verdict.Wrong
  join_wrong d n next other =
      subst (λ (t : Outcome). JudgedCentral c (Join name) t o d verdict.Wrong) (sym ended) (λ allowed. other (number_is a allowed.0.1 ∙ ap Some (sym next)))

  pub join_done : (d : Central) (n : ℕ) → n ≡ c.directory.next_federate → joiner_in a ≡ Some n → o ≡ choice.None → d ≡ after_join c name → JudgedCentral c (Join name) out o d verdict.Allowed
  join_done d n next same plain after =
      subst (λ (t : Outcome). JudgedCentral c (Join name) t o d verdict.Allowed) (sym ended) (((sym is ∙ none, may_number a (same ∙ ap Some next)), plain), after)
