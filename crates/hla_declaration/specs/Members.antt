-- What one federate declares
use Rattle.std.specs.Prelude.{◌≡◌, ℕ, None, false, [], length, replicate}
use Rattle.hla_declaration.specs.Entries.{entry_at}
use Rattle.hla_declaration.specs.declared.member.Declarer.{Declarer}

-- it declares nothing of these many object classes and interaction classes
abbrev pub new_declarer : ℕ → ℕ → Declarer
new_declarer object_classes interaction_classes = record {
  published = replicate object_classes None;
  subscribed = replicate object_classes None;
  published_interactions = replicate interaction_classes false;
  subscribed_interactions = replicate interaction_classes false;
  interaction_orders = [];
}

-- it has room for these many object classes and interaction classes
pub record IsMember (object_classes interaction_classes : ℕ) (m : Declarer) : Type 0 where
  pub published : length m.published ≡ object_classes
  pub subscribed : length m.subscribed ≡ object_classes
  pub published_interactions : length m.published_interactions ≡ interaction_classes
  pub subscribed_interactions : length m.subscribed_interactions ≡ interaction_classes

-- it declares nothing any more, and has room as before
pub record IsCleared (old new : Declarer) : Type 0 where
  pub published : (class : ℕ) → entry_at None new.published class ≡ None
  pub subscribed : (class : ℕ) → entry_at None new.subscribed class ≡ None
  pub published_interactions : (class : ℕ) → entry_at false new.published_interactions class ≡ false
  pub subscribed_interactions : (class : ℕ) → entry_at false new.subscribed_interactions class ≡ false
  pub interaction_orders : (class : ℕ) → entry_at None new.interaction_orders class ≡ None
  pub room : IsMember (length old.published) (length old.published_interactions) old → IsMember (length old.published) (length old.published_interactions) new
