use Rattle.std.proofs.Common.{List, sym, ap, refl, ◌∙◌}
use Rattle.std.specs.List.{position}
use Rattle.std.specs.Str.{bytes_eq}
use Rattle.hla_checker.specs.declared.table.NamedExecution.{NamedExecution}
use Rattle.hla_checker.specs.declared.table.ExecutionTable.{ExecutionTable}
use Rattle.std.specs.Vec.{with_item}
use Rattle.hla_checker.proofs.Executions.TablePlaces.{no_place, found_there, table_with}
use Rattle.hla_checker.proofs.Executions.TableChanges.{consistent_set}
use Rattle.hla_checker.proofs.Executions.Acts.{step_nowhere, step_there}
use Rattle.hla_checker.proofs.table.ExecutionTable.judge_step.Goals as goal

pub returns-in-None-clause-ok : goal.returns-in-None-clause-ok
returns-in-None-clause-ok c =
    step_nowhere c.args.self.now c.args.name.now c.args.step.now c.args.outcome.now c.args.choice.now c.is_unfound.result c.of.result
    (no_place c.args.self.now.executions.items c.args.name.now (ap (λ (ys : List NamedExecution). position (λ (x : NamedExecution). bytes_eq c.args.name.now x.name) ys) (sym c.as_slice.ensures.value) ∙ sym c.place_of.ensures ∙ c.in-None.is))
    c.is_unfound.ensures c.of.ensures c.requires.consistent

pub returns-in_ok-verdict-in-Some-clause-ok : goal.returns-in_ok-verdict-in-Some-clause-ok
returns-in_ok-verdict-in-Some-clause-ok c =
    let xs = c.args.self.now.executions.items in
    let old = c.index_mut-kept.result.now in
    let at = ap (λ (ys : List NamedExecution). position (λ (x : NamedExecution). bytes_eq c.args.name.now x.name) ys) (sym c.as_slice.ensures.value) ∙ sym c.place_of.ensures ∙ c.in-Some.is in
    let there = found_there xs c.args.name.now c.in-Some.place old at c.index_mut-kept.ensures.value in
    let new : NamedExecution = record { name = old.name; execution = c.judge.new.self } in
    let then : ExecutionTable = record { creates = c.args.self.now.creates; present = c.args.self.now.present; executions = with_item c.args.self.now.executions c.in-Some.place new } in
    step_there c.args.self.now then c.args.name.now old new c.args.step.now c.args.outcome.now c.args.choice.now c.in_ok-verdict-in-Some.verdict refl refl there.0
    (table_with xs c.args.name.now c.in-Some.place old at c.index_mut-kept.ensures.value new there.1)
    (λ kept. consistent_set xs c.in-Some.place new kept c.requires.consistent)
    c.in_ok-verdict-in-Some.ensures.ok
