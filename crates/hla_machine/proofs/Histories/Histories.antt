-- Records that are a run of all executions are lawful, execution by execution
use Rattle.std.proofs.Common.{refl, subst, List, [], ◌∷◌, ◌++◌, Option, Some, None}
use Rattle.hla_machine.specs.declared.step.Record.{Record}
use Rattle.hla_machine.specs.Central.{Central, new_central}
use Rattle.hla_machine.specs.Runs.{IsRun, Executions, no_executions, after_act, AreRun}
use Rattle.hla_machine.specs.Projection.{Story, TellsOf}
use Rattle.hla_machine.specs.History.{HasHistory}
use Rattle.hla_machine.specs.Histories.{AreLawful}
use Rattle.hla_machine.proofs.Histories.Lawful.{each_lawful}
use Rattle.hla_machine.proofs.Histories.Projections.{cut_to_one}

-- where a beginning of the records leads
first_records : (x : Executions) (before rest : List Record) (y : Executions) → AreRun x (before ++ rest) y → (z : Executions) × AreRun x before z
first_records x [] rest y run = (x, refl)
first_records x (r ∷ rs) rest y run = let w = first_records (after_act x r.execution r.act r.outcome r.choice) rs rest y run.1 in (w.0, (run.0, w.1))

-- a story that is told is a run
told_run : (s : Story) (e : Option Central) → TellsOf (Some s) e → (c : Central) × IsRun (new_central s.catalogue) s.happenings c
told_run s None tells = absurd tells
told_run s (Some c) tells = (c, tells)

new_history : (s : Story) → HasHistory (new_central s.catalogue)
new_history s = record { catalogue = s.catalogue; before = []; run = refl }

pub history_lawful : (records : List Record) (x : Executions) → AreRun no_executions records x → AreLawful records
history_lawful records x run before rest name s whole is =
    let first = first_records no_executions before rest x (subst (λ (rs : List Record). AreRun no_executions rs x) whole run) in
    let tells = subst (λ (o : Option Story). TellsOf o (first.0.execution name)) is (cut_to_one before first.0 name first.1) in
    let w = told_run s (first.0.execution name) tells in
    each_lawful (new_central s.catalogue) s.happenings w.0 (new_history s) w.1
