-- Who subscribes each class, as sets of federates
use Rattle.std.specs.Prelude.{◌≡◌, ℕ, ◌<◌, ◌≤◌, ◌==◌, Bool, false, None, is_some, List, length}
use Rattle.std.specs.Int.{bit_at}
use Rattle.hla_base.specs.Limits.{max_joins}
use Rattle.hla_declaration.specs.Entries.{entry_at}
use Rattle.hla_declaration.specs.Lists.{AreListsWhole}
use Rattle.hla_declaration.specs.Declarations.{table}
use Rattle.hla_declaration.specs.declared.member.Declarer.{Declarer}

-- is a federate in the set that the bits of a number stand for
abbrev pub has_federate : ℕ → ℕ → Bool
has_federate set f = bit_at set f == 1

-- is a federate in the set of a class; nobody is in the set of a number that has none
abbrev pub is_in_set_of : List ℕ → ℕ → ℕ → Bool
is_in_set_of sets f class = has_federate (entry_at 0 sets class) f

-- the sets say what the tables say
abbrev pub AreSubscribers : List ℕ → (ℕ → ℕ → Bool) → Type 0
AreSubscribers sets subscribed = (f class : ℕ) → f ≤ max_joins → is_in_set_of sets f class ≡ subscribed f class

-- the sets have room for each class where there is a federate, and they say who subscribes
pub record AreSetsWhole (classes federates : ℕ) (sets : List ℕ) (subscribed : ℕ → ℕ → Bool) : Type 0 where
  pub room : 0 < federates → classes ≤ length sets
  pub agree : AreSubscribers sets subscribed

-- the lists are whole, and so are the sets of either kind of class
pub record AreDeclarationsWhole (object_classes interaction_classes : ℕ) (members : List Declarer) (object_sets interaction_sets : List ℕ) : Type 0 where
  pub lists : AreListsWhole object_classes interaction_classes members
  pub objects : AreSetsWhole object_classes (length members) object_sets (λ f class. is_some (table None (λ (m : Declarer). m.subscribed) members f class))
  pub interactions : AreSetsWhole interaction_classes (length members) interaction_sets (table false (λ (m : Declarer). m.subscribed_interactions) members)
