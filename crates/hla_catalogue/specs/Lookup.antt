-- Looking up classes, attributes and parameters (HLA 1.3, support services)
use Rattle.std.specs.Prelude.{ℕ, ◌+◌, ◌-◌, Bool, false, ◌==◌, ◌&&◌, nat_lt, List, [], ◌∷◌, length, drop, Option, None, slice_get, position, is_some, codes, option_map, if◌then◌else◌}
use Rattle.std.specs.Str.{bytes_eq}
use Rattle.std.specs.List.{list_any}
use Rattle.std.specs.Option.{option_map_or}
use Rattle.hla_catalogue.specs.declared.declared.ObjectClass.{ObjectClass}
use Rattle.hla_catalogue.specs.declared.declared.InteractionClass.{InteractionClass}
use Rattle.hla_catalogue.specs.declared.declared.Attribute.{Attribute}
use Rattle.hla_catalogue.specs.declared.declared.Parameter.{Parameter}
use Rattle.hla_catalogue.specs.declared.declared.Order.{Order}
use Rattle.hla_catalogue.specs.declared.declared.Order.TheVariants.{Receive}
use Rattle.hla_base.specs.Tables.{or_else}
use Rattle.hla_catalogue.specs.CatalogueValue.{CatalogueValue}

-- the item with a number; numbers count from 1
abbrev pub item_numbered : {X : Type 0} → List X → ℕ → Option X
item_numbered xs n = if n == 0 then None else slice_get xs (n - 1)

-- the number of a place
abbrev pub number_at : Option ℕ → Option ℕ
number_at place = option_map (λ k. k + 1) place

abbrev pub contains_number : ℕ → List ℕ → Bool
contains_number n ns = list_any (λ k. k == n) ns

abbrev pub is_object_class : CatalogueValue → ℕ → Bool
is_object_class c class = is_some (item_numbered c.object_classes class)

abbrev pub is_interaction_class : CatalogueValue → ℕ → Bool
is_interaction_class c class = is_some (item_numbered c.interaction_classes class)

-- the class and those around it, innermost first; nothing where no class has the number
abbrev pub object_lineage : CatalogueValue → ℕ → List ℕ
object_lineage c class = option_map_or (λ (k : ObjectClass). k.lineage) (item_numbered c.object_classes class) []

abbrev pub interaction_lineage : CatalogueValue → ℕ → List ℕ
interaction_lineage c class = option_map_or (λ (k : InteractionClass). k.lineage) (item_numbered c.interaction_classes class) []

abbrev pub object_path : CatalogueValue → ℕ → List ℕ
object_path c class = option_map_or (λ (k : ObjectClass). k.path) (item_numbered c.object_classes class) []

abbrev pub interaction_path : CatalogueValue → ℕ → List ℕ
interaction_path c class = option_map_or (λ (k : InteractionClass). k.path) (item_numbered c.interaction_classes class) []

abbrev pub attribute_name : CatalogueValue → ℕ → List ℕ
attribute_name c attribute = option_map_or (λ (a : Attribute). a.name) (item_numbered c.attributes attribute) []

abbrev pub parameter_name : CatalogueValue → ℕ → List ℕ
parameter_name c parameter = option_map_or (λ (p : Parameter). p.name) (item_numbered c.parameters parameter) []

-- whether a class declares an attribute or inherits it
abbrev pub has_attribute : CatalogueValue → ℕ → ℕ → Bool
has_attribute c class attribute = option_map_or (λ (a : Attribute). contains_number a.class (object_lineage c class)) (item_numbered c.attributes attribute) false

abbrev pub has_parameter : CatalogueValue → ℕ → ℕ → Bool
has_parameter c class parameter = option_map_or (λ (p : Parameter). contains_number p.class (interaction_lineage c class)) (item_numbered c.parameters parameter) false

-- the order of an attribute's updates, or of a class's interactions
abbrev pub attribute_order : CatalogueValue → ℕ → Order
attribute_order c attribute = option_map_or (λ (a : Attribute). a.order) (item_numbered c.attributes attribute) Receive

abbrev pub interaction_order : CatalogueValue → ℕ → Order
interaction_order c class = option_map_or (λ (k : InteractionClass). k.order) (item_numbered c.interaction_classes class) Receive

-- the path ends with a dot and the name
abbrev pub ends_with_name : List ℕ → List ℕ → Bool
ends_with_name path name = nat_lt (length name) (length path) && bytes_eq (drop (length path - length name - 1) path) (46 ∷ name)

-- the first class whose path is the name, or else the first whose path ends with a dot and the name
abbrev pub object_class_named : CatalogueValue → List ℕ → Option ℕ
object_class_named c name = number_at
    (or_else (position (λ (k : ObjectClass). bytes_eq k.path name) c.object_classes) (position (λ (k : ObjectClass). ends_with_name k.path name) c.object_classes))

abbrev pub interaction_class_named : CatalogueValue → List ℕ → Option ℕ
interaction_class_named c name = number_at
    (or_else (position (λ (k : InteractionClass). bytes_eq k.path name) c.interaction_classes) (position (λ (k : InteractionClass). ends_with_name k.path name) c.interaction_classes))

-- the lowest number of an attribute of that name which the class has
abbrev pub attribute_named : CatalogueValue → ℕ → List ℕ → Option ℕ
attribute_named c class name = number_at
    (position (λ (a : Attribute). contains_number a.class (object_lineage c class) && bytes_eq a.name name) c.attributes)

abbrev pub parameter_named : CatalogueValue → ℕ → List ℕ → Option ℕ
parameter_named c class name = number_at
    (position (λ (p : Parameter). contains_number p.class (interaction_lineage c class) && bytes_eq p.name name) c.parameters)

-- the attribute of a class that stands for the right to delete its objects
abbrev pub deletion_privilege : CatalogueValue → ℕ → Option ℕ
deletion_privilege c class = attribute_named c class (codes "privilegeToDelete")
