-- What contracts see of one federate's component
use Rattle.std.specs.Prelude.{ℕ, List, []}
use Rattle.hla_base.specs.declared.content.Event.{Event}
use Rattle.hla_base.specs.declared.row.TimeRow.{TimeRow}
use Rattle.hla_base.specs.Rows.{new_row}
use Rattle.hla_base.specs.Tables.{forever}
use Rattle.hla_lbts.specs.declared.row.PeerRow.{PeerRow}
use Rattle.hla_lbts.specs.Peers.{PeersValue}
use Rattle.hla_component_rules.specs.declared.control.Control.{Control}

pub record LocalValue : Type 0 where
  pub row : TimeRow
  pub peers : List PeerRow  -- what it knows of the others; `peers_of` reads them as tables by number
  pub ro : List Event  -- what has arrived and is to be given in receive order
  pub tso : List Event  -- what has arrived and is to be given in time-stamp order, in key order
  pub controls : List Control
  pub last_announced : ℕ  -- what it announced last
  pub epoch : ℕ  -- how often it has enabled regulation

-- a federate that has just joined, before it has met anybody
abbrev pub new_local : List PeerRow → LocalValue
new_local peers = record { row = new_row; peers = peers; ro = []; tso = []; controls = []; last_announced = forever; epoch = 0 }

-- it knows of nobody
abbrev pub no_peers : PeersValue
no_peers = record { bound = λ _. forever; known_epoch = λ _. 0 }

-- one that has resigned
abbrev pub resigned_local : LocalValue → LocalValue
resigned_local l = record l { row = new_row; ro = []; tso = []; controls = []; last_announced = forever }
