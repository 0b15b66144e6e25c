-- What contracts see of declarations: the federates' lists
use Rattle.std.specs.Prelude.{ℕ, ◌≤◌, List, length}
use Rattle.std.specs.List.{All}
use Rattle.hla_base.specs.Limits.{max_classes, max_joins}
use Rattle.hla_declaration.specs.declared.member.Declarer.{Declarer}
use Rattle.hla_declaration.specs.Members.{IsMember}

-- `declarations_of` reads them as tables
pub record DeclarationLists : Type 0 where
  pub object_classes : ℕ
  pub interaction_classes : ℕ
  pub members : List Declarer  -- by number, counted from 1

pub record AreListsWhole (object_classes interaction_classes : ℕ) (members : List Declarer) : Type 0 where
  pub few_objects : object_classes ≤ max_classes
  pub few_interactions : interaction_classes ≤ max_classes
  pub few : length members ≤ max_joins
  pub each : All (IsMember object_classes interaction_classes) members
