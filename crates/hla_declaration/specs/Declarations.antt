-- What the federates of an execution publish and subscribe (HLA 1.3, declaration management)
use Rattle.std.specs.Prelude.{◌≡◌, ℕ, ◌<◌, Bool, false, Option, None, List, length}
use Rattle.std.specs.Option.{option_map_or}
use Rattle.hla_catalogue.specs.Lookup.{item_numbered}
use Rattle.hla_catalogue.specs.declared.declared.Order.{Order}
use Rattle.hla_declaration.specs.Entries.{entry_at}
use Rattle.hla_declaration.specs.Lists.{DeclarationLists}
use Rattle.hla_declaration.specs.declared.member.Declarer.{Declarer}

-- Tables by federate and class. For a number of no federate or of no class they say that nothing is declared
pub record DeclarationsValue : Type 0 where
  pub federates : ℕ  -- how many have joined so far; they are numbered from 1
  pub object_classes : ℕ  -- how many there are
  pub interaction_classes : ℕ
  pub published : ℕ → ℕ → Option (List ℕ)  -- the attributes that a federate publishes of an object class; None where it does not publish it
  pub subscribed : ℕ → ℕ → Option (List ℕ)
  pub published_interaction : ℕ → ℕ → Bool
  pub subscribed_interaction : ℕ → ℕ → Bool
  pub interaction_orders : ℕ → ℕ → Option Order  -- in which order a federate's interactions of a class go, where it changed that

-- what the federate with a number has at a class
abbrev pub table : {X : Type 0} → X → (Declarer → List X) → List Declarer → ℕ → ℕ → X
table absent row members f class = option_map_or (λ m. entry_at absent (row m) class) (item_numbered members f) absent

-- the tables that lists stand for
abbrev pub declarations_of : DeclarationLists → DeclarationsValue
declarations_of d = record {
  federates = length d.members;
  object_classes = d.object_classes;
  interaction_classes = d.interaction_classes;
  published = table None (λ (m : Declarer). m.published) d.members;
  subscribed = table None (λ (m : Declarer). m.subscribed) d.members;
  published_interaction = table false (λ (m : Declarer). m.published_interactions) d.members;
  subscribed_interaction = table false (λ (m : Declarer). m.subscribed_interactions) d.members;
  interaction_orders = table None (λ (m : Declarer). m.interaction_orders) d.members;
}

-- a federate declares nothing of the classes with a number
pub record IsSilent (t : DeclarationsValue) (f class : ℕ) : Type 0 where
  pub published : t.published f class ≡ None
  pub subscribed : t.subscribed f class ≡ None
  pub published_interaction : t.published_interaction f class ≡ false
  pub subscribed_interaction : t.subscribed_interaction f class ≡ false

-- nothing is declared of a number of no federate or of no class
pub record IsBounded (t : DeclarationsValue) : Type 0 where
  pub no_federate : (class : ℕ) → IsSilent t 0 class
  pub past_federates : (f class : ℕ) → t.federates < f → IsSilent t f class
  pub no_class : (f : ℕ) → IsSilent t f 0
  pub past_object_classes : (f class : ℕ) → t.object_classes < class → (t.published f class ≡ None) × (t.subscribed f class ≡ None)
  pub past_interaction_classes : (f class : ℕ) → t.interaction_classes < class → (t.published_interaction f class ≡ false) × (t.subscribed_interaction f class ≡ false)
