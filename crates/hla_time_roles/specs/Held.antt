-- The row that the fields of a federate's time hold
use Rattle.std.specs.Prelude.{ℕ, Bool, Option}
use Rattle.hla_base.specs.declared.row.Role.{Role}
use Rattle.hla_base.specs.declared.row.AdvanceRequest.{AdvanceRequest}
use Rattle.hla_base.specs.declared.row.TimeRow.{TimeRow}
use Rattle.hla_base.specs.Rows.{RowNumbers}
use Rattle.hla_lookahead.specs.FloorValue.{FloorValue}

abbrev pub row_held : ℕ → FloorValue → Role → ℕ → Role → Bool → Option AdvanceRequest → Option ℕ → Option ℕ → ℕ → ℕ → TimeRow
row_held time floor regulating regulation_time constrained asynchronous advance first_pick flushed bar enablings = record {
  time = time;
  lookahead = floor.lookahead;
  floor = floor.floor;
  regulating = regulating;
  regulation_time = regulation_time;
  constrained = constrained;
  asynchronous = asynchronous;
  advance = advance;
  first_pick = first_pick;
  flushed = flushed;
  bar = bar;
  enablings = enablings;
}

-- its numbers are within the limits
abbrev pub IsWithin : TimeRow → Type 0
IsWithin r = RowNumbers r
