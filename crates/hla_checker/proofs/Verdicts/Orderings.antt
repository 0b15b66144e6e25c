-- What tests of a change of an order tell
use Rattle.std.proofs.Common.{◌≡◌, ◌≢◌, ℕ, ◌<◌, ◌≤◌, ◌==◌, ◌||◌, not, Bool, true, false, is_some, Option, Some, None, List, [], ◌∷◌, length, refl, sym, ◌∙◌, ap, subst, arith, ⊎_elim}
use Rattle.std.specs.List.{list_any}
use Rattle.std.specs.Option.{option_map_or}
use Rattle.std.proofs.lemmas.Bool.{cases_eq}
use Rattle.std.proofs.lemmas.Bool.Decides.{nat_tests}
use mathlib.Core.Bool.{false≢true}
use Rattle.hla_base.specs.declared.fault.Fault.{Fault}
use Rattle.hla_base.specs.RowRefusals.{first_fault}
use Rattle.hla_catalogue.specs.CatalogueValue.{CatalogueValue}
use Rattle.hla_catalogue.specs.Lookup.{contains_number, has_attribute, item_numbered, object_lineage}
use Rattle.hla_catalogue.specs.declared.declared.Attribute.{Attribute}
use Rattle.hla_catalogue.specs.declared.declared.Order.{Order}
use Rattle.hla_machine.specs.declared.service.Service.TheVariants as service
use Rattle.hla_machine.specs.declared.step.Answer.TheVariants as answer
use Rattle.hla_machine.specs.Refusals.{attribute_order_tests}
use Rattle.hla_machine.proofs.Basics.Tests.{all_clear, not-is-false}
use Rattle.hla_verdicts.specs.Calls.{AnswersDone}
use Rattle.hla_verdicts.specs.Kept.{KeptValue, directory_of}
use Rattle.hla_checker.proofs.Verdicts.Declarations.{numbered}

pub attribute_orders_only : (object : ℕ) (attributes : List ℕ) (order : Order) → AnswersDone (service.ChangeAttributeOrderType object attributes order)
attribute_orders_only object attributes order c f answer.Done o may = refl
attribute_orders_only object attributes order c f a o may = absurd may

pub interaction_order_only : (class : ℕ) (order : Order) → AnswersDone (service.ChangeInteractionOrderType class order)
interaction_order_only class order c f answer.Done o may = refl
interaction_order_only class order c f a o may = absurd may

-- each of these numbers is one from 1 to another
abbrev pub AreWithin : ℕ → List ℕ → Type 0
AreWithin count numbers = (n : ℕ) → contains_number n numbers ≡ true → (0 < n) × (n ≤ count)

-- ---- attributes that a class has are numbered
neither : (a b : Bool) → (a || b) ≡ false → (a ≡ false) × (b ≡ false)
neither true b is = absurd (false≢true (sym is))
neither false b is = (refl, is)

some_passes : {X : Type 0} (p : X → Bool) (o : Option X) → option_map_or p o false ≡ true → is_some o ≡ true
some_passes p None is = absurd (false≢true is)
some_passes p (Some x) is = refl

module _ (c : CatalogueValue) (class : ℕ) where
  attribute_numbered : (n : ℕ) → has_attribute c class n ≡ true → (0 < n) × (n ≤ length c.attributes)
  attribute_numbered n has =
      numbered c.attributes n (some_passes (λ (a : Attribute). contains_number a.class (object_lineage c class)) (item_numbered c.attributes n) has)

  pub attributes_numbered : (ns : List ℕ) → list_any (λ a. not (has_attribute c class a)) ns ≡ false → AreWithin (length c.attributes) ns
  attributes_numbered [] none n among = absurd (false≢true among)
  attributes_numbered (k ∷ ks) none n among =
      let clear = neither (not (has_attribute c class k)) (list_any (λ a. not (has_attribute c class a)) ks) none in
      ⊎_elim
      (λ (here : k ≡ n). subst (λ m. (0 < m) × (m ≤ length c.attributes)) here (attribute_numbered k (not-is-false (has_attribute c class k) clear.0)))
      (λ (other : k ≢ n).
      let differs : (k == n) ≡ false = grind (arith, nat_tests) in
      attributes_numbered ks clear.1 n (sym (ap (λ (b : Bool). b || contains_number n ks) differs) ∙ among))
      (cases_eq k n)

-- ---- attributes of an object whose order may change
pub ordered_attributes : (v w : KeptValue) (f h : ℕ) (attributes : List ℕ) (found : Option Fault) → v ≡ w
    → found ≡ first_fault (attribute_order_tests (directory_of w) f h attributes) → found ≡ None → AreWithin (length v.catalogue.attributes) attributes
ordered_attributes v w f h attributes found same is none =
    let clear = all_clear (attribute_order_tests (directory_of w) f h attributes) (sym is ∙ none) in
    subst (λ (y : KeptValue). AreWithin (length y.catalogue.attributes) attributes) (sym same)
    (attributes_numbered w.catalogue ((directory_of w).object h).class attributes clear.1.0)
