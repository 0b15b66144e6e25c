-- What a declaration adds to a catalogue. Numbers count up from 1, in the order of the text; the lineage is the classes around a place, innermost first
use Rattle.std.specs.Prelude.{ℕ, ◌+◌, ◌&&◌, Bool, List, [], ◌∷◌, ◌++◌, length, Option, position, is_some, if◌then◌else◌}
use Rattle.std.specs.Str.{bytes_eq}
use Rattle.hla_catalogue.specs.CatalogueValue.{CatalogueValue}
use Rattle.hla_catalogue.specs.Lookup.{number_at, contains_number, object_path, interaction_path}
use Rattle.hla_catalogue.specs.declared.declared.ObjectClass.{ObjectClass}
use Rattle.hla_catalogue.specs.declared.declared.InteractionClass.{InteractionClass}
use Rattle.hla_catalogue.specs.declared.declared.Attribute.{Attribute}
use Rattle.hla_catalogue.specs.declared.declared.Parameter.{Parameter}
use Rattle.hla_catalogue.specs.declared.declared.Order.{Order}
use Rattle.hla_catalogue.specs.declared.declared.Transport.{Transport}

-- the class in which something stands, or 0
abbrev pub innermost : List ℕ → ℕ
innermost [] = 0
innermost (class ∷ around) = class

-- a path and one more name, with a dot between them
abbrev pub extended_path : List ℕ → List ℕ → List ℕ
extended_path [] name = name
extended_path (b ∷ path) name = (b ∷ path) ++ 46 ∷ name

-- the next object class
abbrev pub object_class : CatalogueValue → List ℕ → List ℕ → ObjectClass
object_class c lineage name = record { path = extended_path (object_path c (innermost lineage)) name; lineage = (length c.object_classes + 1) ∷ lineage }

abbrev pub with_object_class : List ℕ → List ℕ → CatalogueValue → CatalogueValue
with_object_class lineage name c = record c { object_classes = c.object_classes ++ object_class c lineage name ∷ [] }

-- the next interaction class
abbrev pub interaction_class : CatalogueValue → List ℕ → List ℕ → Transport → Order → InteractionClass
interaction_class c lineage name transport order = record {
  path = extended_path (interaction_path c (innermost lineage)) name;
  lineage = (length c.interaction_classes + 1) ∷ lineage;
  transport = transport;
  order = order;
}

abbrev pub with_interaction_class : List ℕ → List ℕ → Transport → Order → CatalogueValue → CatalogueValue
with_interaction_class lineage name transport order c = record c { interaction_classes = c.interaction_classes ++ interaction_class c lineage name transport order ∷ [] }

-- the first attribute of a name among those of some classes
abbrev pub attribute_among : CatalogueValue → List ℕ → List ℕ → Option ℕ
attribute_among c classes name = number_at (position (λ (a : Attribute). contains_number a.class classes && bytes_eq a.name name) c.attributes)

abbrev pub parameter_among : CatalogueValue → List ℕ → List ℕ → Option ℕ
parameter_among c classes name = number_at (position (λ (p : Parameter). contains_number p.class classes && bytes_eq p.name name) c.parameters)

-- an attribute of that name stands before it in the class or in a class around it
abbrev pub has_attribute_named : CatalogueValue → List ℕ → List ℕ → Bool
has_attribute_named c lineage name = is_some (attribute_among c lineage name)

abbrev pub has_parameter_named : CatalogueValue → List ℕ → List ℕ → Bool
has_parameter_named c lineage name = is_some (parameter_among c lineage name)

-- an attribute that the class does not have is declared, and any other is ignored
abbrev pub with_attribute : List ℕ → List ℕ → Transport → Order → CatalogueValue → CatalogueValue
with_attribute lineage name transport order c =
    if has_attribute_named c lineage name then c
    else record c { attributes = c.attributes ++ record { class = innermost lineage; name = name; transport = transport; order = order } ∷ [] }

abbrev pub with_parameter : List ℕ → List ℕ → CatalogueValue → CatalogueValue
with_parameter lineage name c =
    if has_parameter_named c lineage name then c
    else record c { parameters = c.parameters ++ record { class = innermost lineage; name = name } ∷ [] }
