-- What the indexes of a catalogue hold
use Rattle.std.specs.Prelude.{◌≡◌, ◌≤◌, ℕ, List, length, position}
use Rattle.std.specs.Str.{bytes_eq}
use Rattle.hla_base.specs.Limits.{max_classes, max_attributes, max_parameters}
use Rattle.hla_catalogue.specs.Lookup.{number_at}
use Rattle.hla_catalogue.specs.Names.{Numbered, number_named}
use Rattle.hla_catalogue.specs.Groups.{GroupsValue, group_in, declarations_with_hash}
use Rattle.hla_catalogue.specs.declared.declared.ObjectClass.{ObjectClass}
use Rattle.hla_catalogue.specs.declared.declared.InteractionClass.{InteractionClass}
use Rattle.hla_catalogue.specs.declared.declared.Attribute.{Attribute}
use Rattle.hla_catalogue.specs.declared.declared.Parameter.{Parameter}

-- each path has the number of the first class with it, each hash has the declarations of its names, and the lists keep the limits
pub record AreIndexed (object_classes : List ObjectClass) (interaction_classes : List InteractionClass) (attribute_list : List Attribute) (parameter_list : List Parameter) (object_paths interaction_paths : Numbered) (attribute_names parameter_names : GroupsValue) : Type 0 where
  pub objects : (name : List ℕ) → number_named object_paths name ≡ number_at (position (λ (k : ObjectClass). bytes_eq k.path name) object_classes)
  pub interactions : (name : List ℕ) → number_named interaction_paths name ≡ number_at (position (λ (k : InteractionClass). bytes_eq k.path name) interaction_classes)
  pub attributes : (hash : ℕ) → group_in attribute_names hash ≡ declarations_with_hash (λ (a : Attribute). a.class) (λ (a : Attribute). a.name) 1 attribute_list hash
  pub parameters : (hash : ℕ) → group_in parameter_names hash ≡ declarations_with_hash (λ (p : Parameter). p.class) (λ (p : Parameter). p.name) 1 parameter_list hash
  pub few_objects : length object_classes ≤ max_classes
  pub few_interactions : length interaction_classes ≤ max_classes
  pub few_attributes : length attribute_list ≤ max_attributes
  pub few_parameters : length parameter_list ≤ max_parameters
