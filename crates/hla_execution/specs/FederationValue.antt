-- What contracts see of a federation
use Rattle.std.specs.Prelude.{ℕ, List}
use Rattle.hla_catalogue.specs.CatalogueValue.{CatalogueValue}
use Rattle.hla_declaration.specs.Lists.{DeclarationLists}
use Rattle.hla_machine.specs.Registered.{Registered}
use Rattle.hla_synchronization.specs.declared.open_points.OpenPoint.{OpenPoint}
use Rattle.hla_execution.specs.MemberValue.{MemberValue}

pub record FederationValue : Type 0 where
  pub catalogue : CatalogueValue
  pub points : List OpenPoint  -- the open synchronization points, in order of opening
  pub declarations : DeclarationLists
  pub objects : List Registered  -- by number, counted from 1
  pub members : List MemberValue  -- by number, counted from 1
  pub next_name : List ℕ  -- that of the next object, where none is given
