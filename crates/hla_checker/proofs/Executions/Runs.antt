-- One more record of a run
use Rattle.std.proofs.Common.{◌≡◌, ℕ, ◌+◌, ◌<◌, List, [], ◌∷◌, ◌++◌, length, get_or, take, refl, sym, subst}
use Rattle.std.proofs.lemmas.List.{take_more}
use Rattle.std.proofs.lemmas.Option.{slice_get_read}
use Rattle.hla_machine.specs.declared.step.Record.{Record}
use Rattle.hla_machine.specs.Runs.{Executions, no_executions, AllowedAct, after_act, AreRun}
use Rattle.hla_verdicts.specs.declared.verdict.Verdict.TheVariants as verdict
use Rattle.hla_checker.specs.declared.table.ExecutionTable.{ExecutionTable}
use Rattle.hla_checker.specs.Table.{AreConsistent, JudgedAct, executions_of}
use Rattle.hla_checker.specs.Faults.{IsRunUpTo, IsNoStep}

run_then : (x : Executions) (rs : List Record) (y z : Executions) (r : Record) → AreRun x rs y → AllowedAct y r.execution r.act r.outcome r.choice → z ≡ after_act y r.execution r.act r.outcome r.choice → AreRun x (rs ++ r ∷ []) z
run_then x [] y z r run allowed after = subst (λ (s : Executions). AllowedAct s r.execution r.act r.outcome r.choice × (after_act s r.execution r.act r.outcome r.choice ≡ z)) (sym run) (allowed, sym after)
run_then x (q ∷ rs) y z r run allowed after = (run.0, run_then (after_act x q.execution q.act q.outcome q.choice) rs y z r run.1 allowed after)

pub run_more : (rs : List Record) (k : ℕ) (y z : ExecutionTable) (r : Record) → AreRun no_executions (take k rs) (executions_of y) → k < length rs → r ≡ get_or rs k r → JudgedAct y r.execution r.act r.outcome r.choice z verdict.Allowed
    → AreRun no_executions (take (k + 1) rs) (executions_of z) × AreConsistent z.executions.items
run_more rs k y z r run within at judged =
    let grows : take (k + 1) rs ≡ take k rs ++ get_or rs k r ∷ [] = take_more rs k r within in (
      subst (λ (qs : List Record). AreRun no_executions qs (executions_of z)) (sym grows)
          (subst (λ (q : Record). AreRun no_executions (take k rs ++ q ∷ []) (executions_of z)) at (run_then no_executions (take k rs) (executions_of y) (executions_of z) r run judged.0 judged.1.0)),
      judged.1.1,
    )

pub run_stops : (rs : List Record) (k : ℕ) (y z : ExecutionTable) (r : Record) → AreRun no_executions (take k rs) (executions_of y) → k < length rs → r ≡ get_or rs k r → JudgedAct y r.execution r.act r.outcome r.choice z verdict.Wrong
    → IsRunUpTo rs k IsNoStep
run_stops rs k y z r run within at judged = (executions_of y, r, run, slice_get_read rs (length rs) k r refl within at, judged)

pub run_open : (rs : List Record) (k : ℕ) (y : Executions) (r : Record) → AreRun no_executions (take k rs) y → k < length rs → r ≡ get_or rs k r → IsRunUpTo rs k (λ _ _. Unit {0})
run_open rs k y r run within at = (y, r, run, slice_get_read rs (length rs) k r refl within at, tt)
