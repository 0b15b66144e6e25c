-- What a monitor counts in the records of a history
use Rattle.std.specs.Prelude.{ℕ, ◌+◌, ◌-◌, ◌<◌, Bool, true, false, cond, List, Some, length, fold}
use Rattle.hla_callbacks.specs.declared.callback.Callback.{Callback}
use Rattle.hla_callbacks.specs.declared.callback.Callback.TheVariants as callback
use Rattle.hla_machine.specs.declared.service.Service.TheVariants as service
use Rattle.hla_machine.specs.declared.step.Step.TheVariants.{Join, Call, Tick}
use Rattle.hla_machine.specs.declared.step.Act.{Act}
use Rattle.hla_machine.specs.declared.step.Act.TheVariants as act
use Rattle.hla_machine.specs.declared.step.Answer.TheVariants as answer
use Rattle.hla_machine.specs.declared.step.Outcome.{Outcome}
use Rattle.hla_machine.specs.declared.step.Outcome.TheVariants as outcome
use Rattle.hla_machine.specs.declared.step.Record.{Record}
use Rattle.hla_monitor.specs.declared.status.Status.{Status}

abbrev pub is_done_outcome : Outcome → Bool
is_done_outcome (outcome.Done a) = true
is_done_outcome out = false

-- an execution was created, from a FED file that was read
abbrev pub is_creation : Act → Outcome → Bool
is_creation (act.Create (Some catalogue)) out = is_done_outcome out
is_creation a out = false

abbrev pub is_destruction : Act → Outcome → Bool
is_destruction act.Destroy out = is_done_outcome out
is_destruction a out = false

abbrev pub is_joining : Act → Outcome → Bool
is_joining (act.Step (Join name)) out = is_done_outcome out
is_joining a out = false

abbrev pub is_resigning : Act → Outcome → Bool
is_resigning (act.Step (Call f (service.Resign way))) out = is_done_outcome out
is_resigning a out = false

abbrev pub is_tick : Act → Bool
is_tick (act.Step (Tick f)) = true
is_tick a = false

-- a callback was given, also where the ambassador failed in it
abbrev pub has_callback : Outcome → Bool
has_callback (outcome.Done (answer.Ticked (Some k))) = true
has_callback (outcome.Failed k) = true
has_callback out = false

abbrev pub is_grant : Callback → Bool
is_grant (callback.TimeAdvanceGrant time) = true
is_grant k = false

-- the callback was a Time Advance Grant
abbrev pub has_grant : Outcome → Bool
has_grant (outcome.Done (answer.Ticked (Some k))) = is_grant k
has_grant (outcome.Failed k) = is_grant k
has_grant out = false

-- one more, or one less, or as before
abbrev pub count_after : ℕ → Bool → Bool → ℕ
count_after n up down = cond up (n + 1) (cond down (n - 1) n)

abbrev pub executions_after : ℕ → Record → ℕ
executions_after n r = count_after n (is_creation r.act r.outcome) (is_destruction r.act r.outcome)

abbrev pub joined_after : ℕ → Record → ℕ
joined_after n r = count_after n (is_joining r.act r.outcome) (is_resigning r.act r.outcome)

abbrev pub callbacks_after : ℕ → Record → ℕ
callbacks_after n r = count_after n (cond (is_tick r.act) (has_callback r.outcome) false) false

abbrev pub grants_after : ℕ → Record → ℕ
grants_after n r = count_after n (cond (is_tick r.act) (has_grant r.outcome) false) false

-- the counts of these records
unfoldable pub status_of : List Record → Status
status_of rs = record {
  steps = length rs;
  executions = fold executions_after 0 rs;
  joined = fold joined_after 0 rs;
  callbacks = fold callbacks_after 0 rs;
  grants = fold grants_after 0 rs;
}

-- the counts with one record more
abbrev pub status_after : Status → Record → Status
status_after s r = record {
  steps = s.steps + 1;
  executions = executions_after s.executions r;
  joined = joined_after s.joined r;
  callbacks = callbacks_after s.callbacks r;
  grants = grants_after s.grants r;
}

-- each count is below a number
abbrev pub IsBelow : ℕ → Status → Type 0
IsBelow n s = (s.steps < n) × (s.executions < n) × (s.joined < n) × (s.callbacks < n) × (s.grants < n)
