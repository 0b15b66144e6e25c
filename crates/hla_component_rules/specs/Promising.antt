-- What a component promises, and where a newcomer among the regulators may enter
use Rattle.std.specs.Prelude.{ℕ, ◌-◌, max, min, cond, ltb, Option, Some, None, List}
use Rattle.hla_base.specs.declared.content.Event.{Event}
use Rattle.hla_base.specs.declared.row.AdvanceRequest.{AdvanceRequest}
use Rattle.hla_base.specs.declared.row.TimeRow.{TimeRow}
use Rattle.hla_base.specs.Tables.{forever}
use Rattle.hla_base.specs.Rows.{is_enabled, is_constrained, next_request, width, bar_of}
use Rattle.hla_null_message.specs.Promise.{promise_in}
use Rattle.hla_component_rules.specs.Queues.{first_stamp, least_ordered}

-- what a component may promise now: it will send nothing below it
abbrev pub promise_of : TimeRow → List Event → ℕ → ℕ
promise_of r tso bound = promise_in r (next_request r) (first_stamp tso) bound

-- Query Minimum Next Event Time
abbrev pub least_waiting : TimeRow → List Event → List Event → ℕ → ℕ
least_waiting r tso ro bound = min bound (min (first_stamp tso) (cond (is_constrained r) forever (least_ordered ro)))

-- ---- the entry of a newcomer among the regulators, by what each announced last
abbrev pub entry_held : TimeRow → Option AdvanceRequest → ℕ → ℕ
entry_held r None last_announced = 0
entry_held r (Some q) last_announced = cond (ltb r.floor last_announced) (last_announced - width r.lookahead q.kind) 0

abbrev pub entry_for : TimeRow → ℕ → ℕ
entry_for r last_announced = max (bar_of r) (cond (is_enabled r.regulating) (entry_held r (next_request r) last_announced) 0)
