-- What services and callbacks do to the row of a federate (HLA 1.3, time management)
use Rattle.std.specs.Prelude.{ℕ, ◌≡◌, ◌≤◌, ◌<◌, ◌+◌, ◌*◌, false, Some}
use Rattle.hla_base.specs.Limits.{max_time, max_enablings}
use Rattle.hla_base.specs.declared.row.Role.TheVariants.{Disabled, Pending}
use Rattle.hla_base.specs.declared.row.AdvanceRequest.{AdvanceRequest}
use Rattle.hla_base.specs.declared.row.TimeRow.{TimeRow}
use Rattle.hla_base.specs.Rows.{is_flush, is_constrained, row_after_request, row_with_entry, row_after_regulation_enabled, row_after_constraint_enabled, row_after_pick, row_after_grant}
use Rattle.hla_machine.specs.Callbacks.{row_after}
use Rattle.hla_accounts.specs.declared.row_change.RowChange.{RowChange}
use Rattle.hla_accounts.specs.declared.row_change.RowChange.TheVariants.{Request, RegulateFrom, EnterRegulation, CeaseRegulation, AskConstraint, EnterConstraint, CeaseConstraint, SetLookahead, SetAsynchronous, Pick, Grant}

-- the row after it
abbrev pub changed_row : RowChange → TimeRow → TimeRow
changed_row (Request kind asked) r = row_after_request r kind asked
changed_row (RegulateFrom lookahead entry) r = row_with_entry r lookahead entry
changed_row EnterRegulation r = row_after_regulation_enabled r
changed_row CeaseRegulation r = record r { regulating = Disabled }
changed_row AskConstraint r = record r { constrained = Pending }
changed_row EnterConstraint r = row_after_constraint_enabled r
changed_row CeaseConstraint r = record r { constrained = Disabled }
changed_row (SetLookahead lookahead) r = record r { lookahead = lookahead }
changed_row (SetAsynchronous is_on) r = record r { asynchronous = is_on }
changed_row (Pick stamp) r = row_after r r.advance (λ q. row_after_pick r q stamp)
changed_row (Grant time) r = row_after r r.advance (λ q. row_after_grant r q time)

-- the entry of a newcomer among the regulators is within the limits
pub record MayRegulateFrom (r : TimeRow) (lookahead entry : ℕ) : Type 0 where
  pub small : lookahead ≤ max_time
  pub bounded : entry ≤ 2 * max_time
  pub above : lookahead ≤ entry
  pub start : is_constrained r ≡ false → entry ≤ max_time + lookahead
  pub few : r.enablings < max_enablings

-- its numbers are within the limits
abbrev pub MayChangeRow : RowChange → TimeRow → Type 0
MayChangeRow (Request kind asked) r = asked ≤ max_time
MayChangeRow (RegulateFrom lookahead entry) r = MayRegulateFrom r lookahead entry
MayChangeRow (SetLookahead lookahead) r = lookahead ≤ max_time
MayChangeRow (Pick stamp) r = (q : AdvanceRequest) → r.advance ≡ Some q → is_flush q.kind ≡ false → stamp ≤ q.asked
MayChangeRow (Grant time) r = time ≤ max_time
MayChangeRow change r = Unit {0}
