-- Who receives: what callers may rely on, and how the list of receivers grows
use Rattle.std.proofs.Common.{◌≡◌, ◌≢◌, ℕ, zero, suc, ◌+◌, List, [], ◌∷◌, ◌++◌, eqb, not, cond, true, false, Bool, Some, None, Option, refl, sym, ap, ◌∙◌, arith, add-one}
use Rattle.std.specs.Prelude.{find, option_map}
use Rattle.std.specs.List.{filter_map, cons_option, All}
use Rattle.std.proofs.lemmas.List.{append-nil}
use Rattle.std.proofs.lemmas.List.Elements.{filter_map-append, All-append, All-cons, All-nil, All-weaker}
use Rattle.std.proofs.lemmas.Bool.Decides.{nat_tests}
use Rattle.hla_base.specs.Tables.{numbers_below, when}
use Rattle.hla_catalogue.specs.CatalogueValue.{CatalogueValue}
use Rattle.hla_catalogue.specs.Lookup.{object_lineage, interaction_lineage}
use Rattle.hla_declaration.specs.Lists.{DeclarationLists}
use Rattle.hla_declaration.specs.Declarations.{declarations_of}
use Rattle.hla_declaration.specs.Receivers.{object_class_served, interaction_class_served, receivers_of, IsReceiver}
use Rattle.hla_declaration.specs.declared.receiver.Receiver.{Receiver}

find_none : (p : ℕ → Bool) (xs : List ℕ) → ((x : ℕ) → p x ≡ false) → find p xs ≡ None
find_none p [] none = refl
find_none p (x ∷ xs) none = rw (none x) (find_none p xs none)

-- number 0, which no federate has, is never served
pub nobody_object : (c : CatalogueValue) (d : DeclarationLists) (class : ℕ) → object_class_served c (declarations_of d).subscribed 0 class ≡ None
nobody_object c d class = find_none (λ k. false) (object_lineage c class) (λ k. refl)

pub nobody_interaction : (c : CatalogueValue) (d : DeclarationLists) (class : ℕ) → interaction_class_served c (declarations_of d).subscribed_interaction 0 class ≡ None
nobody_interaction c d class = find_none (λ k. false) (interaction_lineage c class) (λ k. refl)

-- a federate as a receiver, where it is served and is not the sender
abbrev pub receiver_at : (ℕ → Option ℕ) → ℕ → ℕ → Option Receiver
receiver_at served sender g = when (not (eqb sender g)) (option_map (λ k. record { federate = g; class = k }) (served g))

same_cond : {X : Type 0} (b : Bool) (x : X) → cond b x x ≡ x
same_cond true x = refl
same_cond false x = refl

pub receivers_none : (served : ℕ → Option ℕ) (sender : ℕ) → served 0 ≡ None → receivers_of served 0 sender ≡ []
unfolding numbers_below
receivers_none served sender nobody =
    let absent : receiver_at served sender 0 ≡ None = rw nobody (same_cond (not (eqb sender 0)) None) in
    rw absent refl

receivers_with_next : (served : ℕ → Option ℕ) (n sender : ℕ) → receivers_of served (n + 1) sender ≡ receivers_of served n sender ++ filter_map (receiver_at served sender) ((n + 1) ∷ [])
unfolding numbers_below
receivers_with_next served n sender = rw (add-one (n + 1)) (filter_map-append (receiver_at served sender) (numbers_below (n + 1)) ((n + 1) ∷ []))

module _ (served : ℕ → Option ℕ) (n sender : ℕ) (o : Option Receiver) (is : o ≡ receiver_at served sender (n + 1)) where
  pub one_more : (r : Receiver) → o ≡ Some r → receivers_of served (n + 1) sender ≡ receivers_of served n sender ++ r ∷ []
  one_more r some = receivers_with_next served n sender ∙ rw (sym is ∙ some) refl

  pub none_more : o ≡ None → receivers_of served (n + 1) sender ≡ receivers_of served n sender
  none_more none = receivers_with_next served n sender ∙ rw (sym is ∙ none, append-nil) refl

-- ---- what callers may rely on: a receiver is one of the federates, and not the sender
receiver_is : (b : Bool) (served : Option ℕ) (g : ℕ) (r : Receiver) → cond b (option_map (λ k. record { federate = g; class = k }) served) None ≡ Some r
    → (b ≡ true) × (r.federate ≡ g) × (served ≢ None)
receiver_is true (Some k) g r is = let same : record { federate = g; class = k } ≡ r = cc in (refl, sym (ap (λ (x : Receiver). x.federate) same), λ e. absurd (cc))
receiver_is true None g r is = absurd (cc)
receiver_is false served g r is = absurd (cc)

module _ (served : ℕ → Option ℕ) (sender : ℕ) (nobody : served 0 ≡ None) where
  last_receiver : (n : ℕ) (r : Receiver) → receiver_at served sender n ≡ Some r → IsReceiver n sender r
  last_receiver n r is =
      let parts = receiver_is (not (eqb sender n)) (served n) n r is in
      let number : r.federate ≡ n = parts.1 in
      let other : sender ≢ n = let b : not (eqb sender n) ≡ true = parts.0 in grind (arith, nat_tests) in
      let positive : n ≢ 0 = λ e. parts.2 (rw e nobody) in
      record { some = omega arith; joined = omega arith; other = λ e. other (e ∙ number) }

  last_receivers : (n : ℕ) (o : Option Receiver) → o ≡ receiver_at served sender n → All (IsReceiver n sender) (cons_option o [])
  last_receivers n None is = All-nil (IsReceiver n sender)
  last_receivers n (Some r) is = All-cons (IsReceiver n sender) r [] (last_receiver n r (sym is)) (All-nil (IsReceiver n sender))

  pub all_receivers : (federates : ℕ) → All (IsReceiver federates sender) (receivers_of served federates sender)
  all_receivers zero = rw (receivers_none served sender nobody) (All-nil (IsReceiver 0 sender))
  all_receivers (suc n) =
      let before : All (IsReceiver (n + 1) sender) (receivers_of served n sender) =
      All-weaker (IsReceiver n sender) (IsReceiver (n + 1) sender) (λ r h. record { some = h.some; joined = omega (arith, h.joined); other = h.other }) (receivers_of served n sender) (all_receivers n) in
      rw (← add-one n, receivers_with_next served n sender)
      (All-append (IsReceiver (n + 1) sender) (receivers_of served n sender) (filter_map (receiver_at served sender) ((n + 1) ∷ [])) before (last_receivers (n + 1) (receiver_at served sender (n + 1)) refl))

module _ (c : CatalogueValue) (d : DeclarationLists) (class sender : ℕ) where
  pub object_receivers : All (IsReceiver (declarations_of d).federates sender) (receivers_of (λ g. object_class_served c (declarations_of d).subscribed g class) (declarations_of d).federates sender)
  object_receivers = all_receivers (λ g. object_class_served c (declarations_of d).subscribed g class) sender (nobody_object c d class) (declarations_of d).federates

  pub interaction_receivers
      : All (IsReceiver (declarations_of d).federates sender) (receivers_of (λ g. interaction_class_served c (declarations_of d).subscribed_interaction g class) (declarations_of d).federates sender)
  interaction_receivers = all_receivers (λ g. interaction_class_served c (declarations_of d).subscribed_interaction g class) sender (nobody_interaction c d class) (declarations_of d).federates
