-- The components and wires that a federation's parts stand for
use Rattle.std.specs.Prelude.{List}
use Rattle.hla_lbts.specs.Peers.{peers_of}
use Rattle.hla_catalogue.specs.CatalogueValue.{CatalogueValue}
use Rattle.hla_declaration.specs.Declarations as declared
use Rattle.hla_declaration.specs.Declarations.{DeclarationsValue}
use Rattle.hla_machine.specs.Registered.{RegistryValue, registry_of}
use Rattle.hla_synchronization.specs.Points.{Point}
use Rattle.hla_synchronization.specs.OpenPoints.{points_of}
use Rattle.hla_machine.specs.Directory.{Directory}
use Rattle.hla_components.specs.Components.{Components}
use Rattle.hla_execution.specs.MemberValue.{MemberTables, members_of}
use Rattle.hla_execution.specs.FederationValue.{FederationValue}

abbrev pub directory_from : CatalogueValue → List Point → DeclarationsValue → RegistryValue → MemberTables → Directory
directory_from c points d r m = record {
  catalogue = c;
  next_federate = m.next_federate;
  joined = m.joined;
  name = m.name;
  published = d.published;
  subscribed = d.subscribed;
  published_interaction = d.published_interaction;
  subscribed_interaction = d.subscribed_interaction;
  interaction_orders = d.interaction_orders;
  next_object = r.next_object;
  object = r.object;
  known = r.known;
  attribute_orders = r.orders;
  points = points;
}

abbrev pub state_from : CatalogueValue → List Point → DeclarationsValue → RegistryValue → MemberTables → Components
state_from c points d r m = record {
  directory = directory_from c points d r m;
  row = λ f. (m.local f).row;
  serial = m.serial;
  ro = λ f. (m.local f).ro;
  tso = λ f. (m.local f).tso;
  controls = λ f. (m.local f).controls;
  wire = m.wire;
  bound = λ f. (peers_of (m.local f).peers).bound;
  known_epoch = λ f. (peers_of (m.local f).peers).known_epoch;
  last_announced = λ f. (m.local f).last_announced;
  epoch = λ f. (m.local f).epoch;
  sent = m.sent;
}

abbrev pub state_of : FederationValue → Components
state_of v = state_from v.catalogue (points_of v.points) (declared.declarations_of v.declarations) (registry_of v.objects) (members_of v.members)
