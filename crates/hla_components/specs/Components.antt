-- The state of the protocol: each federate's component, and the wires between them
use Rattle.std.specs.Prelude.{ℕ, List, []}
use Rattle.hla_base.specs.declared.content.Event.{Event}
use Rattle.hla_base.specs.declared.row.TimeRow.{TimeRow}
use Rattle.hla_null_message.specs.declared.message.Message.{Message}
use Rattle.hla_catalogue.specs.CatalogueValue.{CatalogueValue}
use Rattle.hla_base.specs.Tables.{forever}
use Rattle.hla_base.specs.Rows.{new_row}
use Rattle.hla_retraction.specs.SentEvents.{SentEvent, no_event}
use Rattle.hla_machine.specs.Directory.{Directory, new_directory}
use Rattle.hla_component_rules.specs.declared.control.Control.{Control}

pub record Components : Type 0 where
  pub directory : Directory
  pub row : ℕ → TimeRow
  pub serial : ℕ → ℕ  -- of each federate's next message
  pub ro : ℕ → List Event  -- what has arrived and is to be given in receive order
  pub tso : ℕ → List Event  -- what has arrived and is to be given in time-stamp order, in key order
  pub controls : ℕ → List Control
  pub wire : ℕ → ℕ → List Message  -- from, to
  pub bound : ℕ → ℕ → ℕ  -- what a component knows of a peer: its bound
  pub known_epoch : ℕ → ℕ → ℕ  -- and its epoch
  pub last_announced : ℕ → ℕ  -- what each announced last
  pub epoch : ℕ → ℕ
  pub sent : ℕ → ℕ → SentEvent

-- an execution that was just created
abbrev pub new_components : CatalogueValue → Components
new_components catalogue = record {
  directory = new_directory catalogue;
  row = λ _. new_row;
  serial = λ _. 1;
  ro = λ _. [];
  tso = λ _. [];
  controls = λ _. [];
  wire = λ _ _. [];
  bound = λ _ _. forever;
  known_epoch = λ _ _. 0;
  last_announced = λ _. forever;
  epoch = λ _. 0;
  sent = λ _ _. no_event;
}
