-- Records that replay are a run of the central machine, also where an ambassador failed in a callback.
use Rattle.std.proofs.Common.{◌≡◌, ℕ, List, [], ◌∷◌, Option, Some, None, map, refl, sym, ap, subst}
use Rattle.hla_base.specs.declared.fault.Fault.{Fault}
use Rattle.hla_callbacks.specs.declared.callback.Callback.{Callback}
use Rattle.hla_machine.specs.declared.service.Service.{Service}
use Rattle.hla_machine.specs.declared.service.Service.TheVariants as service
use Rattle.hla_machine.specs.declared.step.Act.{Act}
use Rattle.hla_machine.specs.declared.step.Act.TheVariants as act
use Rattle.hla_machine.specs.declared.step.Answer.TheVariants as answer
use Rattle.hla_machine.specs.declared.step.Choice.{Choice}
use Rattle.hla_machine.specs.declared.step.Outcome.{Outcome}
use Rattle.hla_machine.specs.declared.step.Outcome.TheVariants as outcome
use Rattle.hla_machine.specs.declared.step.Record.{Record}
use Rattle.hla_machine.specs.declared.step.Step.{Step}
use Rattle.hla_machine.specs.declared.step.Step.TheVariants.{Join, Call, Carry, Announce, Tick}
use Rattle.hla_machine.specs.Central.{Central}
use Rattle.hla_machine.specs.Machine.{MayAnswer, Allowed, after}
use Rattle.hla_machine.specs.Runs.{Executions, no_executions, set_execution, create_fault, destroy_fault, EndsAs, AllowedIn, AllowedAct, after_step_in, after_act, AreRun}
use Rattle.hla_machine.specs.Histories.{AreLawful}
use Rattle.hla_machine.proofs.Histories.Histories.{history_lawful}
use Rattle.hla_components.specs.Executions.{central_executions}
use Rattle.hla_components.proofs.Refinement.Executions.{runs_from_none}
use Rattle.hla_history.specs.Closing.{Replays}
use Rattle.hla_history.specs.Heard.{given_outcome, given_record}

-- the outcome that the next-state function gives where an ambassador fails in this callback
abbrev given : Callback → Outcome
given k = outcome.Done (answer.Ticked (Some k))

-- only a tick answers a callback
no_service_ticks : (c : Central) (f : ℕ) (s : Service) (k : Callback) (o : Choice) → MayAnswer c f s (answer.Ticked (Some k)) o → ⊥
no_service_ticks c f (service.Resign way) k o h = h
no_service_ticks c f s k o h = h

failed_step : (c : Central) (s : Step) (k : Callback) (o : Choice) → Allowed c s (given k) o → Allowed c s (outcome.Failed k) o
failed_step c (Join name) k o h = absurd h.0.1
failed_step c (Call f s) k o h = absurd (no_service_ticks c f s k o h.0.1)
failed_step c (Carry from to) k o h = absurd h.0.1
failed_step c (Announce f) k o h = absurd h.0.1
failed_step c (Tick f) k o h = h

failed_after : (c : Central) (s : Step) (k : Callback) (o : Choice) → Allowed c s (given k) o → after c s (outcome.Failed k) o ≡ after c s (given k) o
failed_after c (Join name) k o h = absurd h.0.1
failed_after c (Call f s) k o h = absurd (no_service_ticks c f s k o h.0.1)
failed_after c (Carry from to) k o h = absurd h.0.1
failed_after c (Announce f) k o h = absurd h.0.1
failed_after c (Tick f) k o h = refl

no_callback : (e : Option Fault) (k : Callback) → EndsAs e (given k) → ⊥
no_callback None k h = cc h
no_callback (Some e) k h = cc h

failed_in : (x : Executions) (name : List ℕ) (c : Option Central) (s : Step) (k : Callback) (o : Choice) → AllowedIn c s (given k) o
    → AllowedIn c s (outcome.Failed k) o × (after_step_in x name c s (outcome.Failed k) o ≡ after_step_in x name c s (given k) o)
failed_in x name None s k o h = let wrong : ⊥ = cc h.0 in absurd wrong
failed_in x name (Some c) s k o h = (
  failed_step c s k o h,
  ap (λ (d : Central). let y : Executions = record { creates = x.creates; present = x.present; execution = set_execution x name (Some d) } in y) (failed_after c s k o h),
)

failed_act : (x : Executions) (name : List ℕ) (a : Act) (k : Callback) (o : Choice) → AllowedAct x name a (given k) o
    → AllowedAct x name a (outcome.Failed k) o × (after_act x name a (outcome.Failed k) o ≡ after_act x name a (given k) o)
failed_act x name (act.Create catalogue) k o h = absurd (no_callback (create_fault x name catalogue) k h.0)
failed_act x name act.Destroy k o h = absurd (no_callback (destroy_fault (x.execution name)) k h.0)
failed_act x name (act.Step s) k o h = failed_in x name (x.execution name) s k o h

one_as_given : (x : Executions) (name : List ℕ) (a : Act) (out : Outcome) (o : Choice) (rs : List Record) (y : Executions) → AllowedAct x name a (given_outcome out) o → AreRun (after_act x name a (given_outcome out) o) rs y
    → AllowedAct x name a out o × AreRun (after_act x name a out o) rs y
one_as_given x name a (outcome.Done answered) o rs y h later = (h, later)
one_as_given x name a (outcome.Refused e) o rs y h later = (h, later)
one_as_given x name a (outcome.Failed k) o rs y h later =
    let failed = failed_act x name a k o h in
    (failed.0, subst (λ (z : Executions). AreRun z rs y) (sym failed.1) later)

run_as_given : (rs : List Record) (x y : Executions) → AreRun x (map given_record rs) y → AreRun x rs y
run_as_given [] x y h = h
run_as_given (r ∷ rs) x y h = one_as_given x r.execution r.act r.outcome r.choice rs y h.0 (run_as_given rs (after_act x r.execution r.act (given_outcome r.outcome) r.choice) y h.1)

-- a history that replays is a run of the machine
pub replayed_run : (rs : List Record) → Replays rs → (y : Executions) × AreRun no_executions rs y
replayed_run rs is = (central_executions is.0, run_as_given rs no_executions (central_executions is.0) (runs_from_none (map given_record rs) is.0 is.1))

-- and lawful
pub replayed_lawful : (rs : List Record) → Replays rs → AreLawful rs
replayed_lawful rs is = let run = replayed_run rs is in history_lawful rs run.0 run.1
