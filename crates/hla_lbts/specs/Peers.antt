-- What a component knows of its peers, as tables by their numbers
use Rattle.std.specs.Prelude.{ℕ, max, cond, eqb, List, slice_index_or}
use Rattle.hla_base.specs.Tables.{forever}
use Rattle.hla_lbts.specs.declared.row.PeerRow.{PeerRow}

pub record PeersValue : Type 0 where
  pub bound : ℕ → ℕ  -- what a peer sends in time-stamp order is not below it; forever for a number of no peer
  pub known_epoch : ℕ → ℕ  -- how often it has enabled regulation

abbrev pub silent_peer : PeerRow
silent_peer = record { epoch = 0; bound = forever }

-- the tables that rows stand for
abbrev pub peers_of : List PeerRow → PeersValue
peers_of rows = record {
  bound = λ g. (slice_index_or rows g silent_peer).bound;
  known_epoch = λ g. (slice_index_or rows g silent_peer).epoch;
}

-- the bound after a null message with a value: one of the epoch that is known raises it, one of another does not
abbrev pub null_bound : ℕ → ℕ → ℕ → ℕ → ℕ
null_bound known bound epoch value = cond (eqb epoch known) (max bound value) bound
