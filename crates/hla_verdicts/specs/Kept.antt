-- What is kept of one execution, and the central machine's state that it stands for
use Rattle.std.specs.Prelude.{◌≡◌, false, List, [], length}
use Rattle.hla_catalogue.specs.CatalogueValue.{CatalogueValue}
use Rattle.hla_declaration.specs.Lists.{DeclarationLists}
use Rattle.hla_declaration.specs.Declarations as declared
use Rattle.hla_declaration.specs.Declarations.{DeclarationsValue}
use Rattle.hla_machine.specs.Registered.{Registered, RegistryValue, registry_of}
use Rattle.hla_synchronization.specs.declared.open_points.OpenPoint.{OpenPoint}
use Rattle.hla_synchronization.specs.OpenPoints.{points_of}
use Rattle.hla_machine.specs.Directory.{Directory, with_points}
use Rattle.hla_machine.specs.Central.{Central}
use Rattle.hla_machine.specs.Machine.{Allowed, after}
use Rattle.hla_machine.specs.declared.step.Step.{Step}
use Rattle.hla_machine.specs.declared.step.Outcome.{Outcome}
use Rattle.hla_machine.specs.declared.step.Choice.{Choice}
use Rattle.hla_verdicts.specs.declared.verdict.Verdict.{Verdict}
use Rattle.hla_verdicts.specs.Verdicts.{Judged}
use Rattle.hla_accounts.specs.declared.account.Account.{Account}
use Rattle.hla_accounts.specs.Accounts.{central_with}

-- an execution as contracts see it
pub record KeptValue : Type 0 where
  pub catalogue : CatalogueValue
  pub declarations : DeclarationLists
  pub objects : List Registered  -- by number, counted from 1
  pub accounts : List Account  -- by number, counted from 1
  pub points : List OpenPoint  -- in order of opening

-- the directory, but for who has joined, which the accounts say, and for the open points
abbrev pub directory_kept : CatalogueValue → DeclarationsValue → RegistryValue → Directory
directory_kept c d r = record {
  catalogue = c;
  next_federate = 1;
  joined = λ _. false;
  name = λ _. [];
  published = d.published;
  subscribed = d.subscribed;
  published_interaction = d.published_interaction;
  subscribed_interaction = d.subscribed_interaction;
  interaction_orders = d.interaction_orders;
  next_object = r.next_object;
  object = r.object;
  known = r.known;
  attribute_orders = r.orders;
  points = [];
}

-- with other declarations and objects
abbrev pub directory_with : KeptValue → DeclarationsValue → RegistryValue → Directory
directory_with v d r = with_points (directory_kept v.catalogue d r) (points_of v.points)

abbrev pub directory_of : KeptValue → Directory
directory_of v = directory_with v (declared.declarations_of v.declarations) (registry_of v.objects)

abbrev pub central_of : KeptValue → Central
central_of v = central_with (directory_of v) v.accounts

-- the parts are of one execution
pub record IsConsistent (v : KeptValue) : Type 0 where
  pub federates : (declared.declarations_of v.declarations).federates ≡ length v.accounts
  pub object_classes : v.declarations.object_classes ≡ length v.catalogue.object_classes
  pub interaction_classes : v.declarations.interaction_classes ≡ length v.catalogue.interaction_classes

-- what a test tells of a step, where the second value is kept after it
abbrev pub JudgedStep : KeptValue → Step → Outcome → Choice → KeptValue → Verdict → Type 0
JudgedStep old step out o new verdict = Judged (Allowed (central_of old) step out o) ((central_of new ≡ after (central_of old) step out o) × IsConsistent new) verdict
