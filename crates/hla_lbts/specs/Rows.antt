-- The least bound of some rows
use Rattle.std.specs.Prelude.{◌≡◌, ℕ, ◌+◌, ◌<◌, ◌≤◌, List, length, count_by, eqb}
use Rattle.std.specs.List.{All}
use Rattle.hla_base.specs.Limits.{max_joins}
use Rattle.hla_base.specs.Tables.{forever}
use Rattle.hla_lbts.specs.declared.row.PeerRow.{PeerRow}

-- no bound is below the least, and so many rows have it, one at least
pub record IsLeast (rows : List PeerRow) (least holders : ℕ) : Type 0 where
  pub small : least ≤ forever
  pub lower : All (λ (r : PeerRow). least ≤ r.bound) rows
  pub counted : count_by (λ (r : PeerRow). eqb r.bound least) rows ≡ holders
  pub held : 0 < holders

-- a row for each number that a federate may have, and one for 0, with the least of their bounds and how many have it
pub record IsCounted (rows : List PeerRow) (least holders : ℕ) : Type 0 where
  pub size : length rows ≡ max_joins + 1
  pub least_is : IsLeast rows least holders
