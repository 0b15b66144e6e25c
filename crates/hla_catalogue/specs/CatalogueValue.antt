-- What a catalogue holds, in the order of the numbers
use Rattle.std.specs.Prelude.{List, []}
use Rattle.hla_catalogue.specs.declared.declared.ObjectClass.{ObjectClass}
use Rattle.hla_catalogue.specs.declared.declared.InteractionClass.{InteractionClass}
use Rattle.hla_catalogue.specs.declared.declared.Attribute.{Attribute}
use Rattle.hla_catalogue.specs.declared.declared.Parameter.{Parameter}

pub record CatalogueValue : Type 0 where
  pub object_classes : List ObjectClass
  pub interaction_classes : List InteractionClass
  pub attributes : List Attribute
  pub parameters : List Parameter

-- a catalogue of nothing
abbrev pub empty_catalogue : CatalogueValue
empty_catalogue = record { object_classes = []; interaction_classes = []; attributes = []; parameters = [] }
