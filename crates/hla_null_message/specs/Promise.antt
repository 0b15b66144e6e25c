-- What a federate may promise: it will send nothing below it in time-stamp order (Chandy and Misra 1979, Bryant 1977)
use Rattle.std.specs.Prelude.{ℕ, ◌+◌, max, min, Option, Some, None}
use Rattle.hla_base.specs.declared.row.AdvanceRequest.{AdvanceRequest}
use Rattle.hla_base.specs.declared.row.TimeRow.{TimeRow}
use Rattle.hla_base.specs.Rows.{first_or, width}

-- the wake of a next-event request, as far as the component can tell: by its first pick, or else by the time that it asked for,
-- the least stamp that waits in its queue, and the least bound of its peers
abbrev pub least_wake : Option ℕ → ℕ → ℕ → ℕ → ℕ
least_wake first asked queued bound = min (first_or first asked) (min asked (min queued bound))

-- its floor, or in a next-event request its wake and the width above it
abbrev pub promise_in : TimeRow → Option AdvanceRequest → ℕ → ℕ → ℕ
promise_in r None queued bound = r.floor
promise_in r (Some q) queued bound = max r.floor (least_wake r.first_pick q.asked queued bound + width r.lookahead q.kind)
