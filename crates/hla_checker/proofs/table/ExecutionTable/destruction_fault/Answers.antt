use Rattle.std.proofs.Common.{List, sym, ap, ◌∙◌, true, false}
use Rattle.std.specs.List.{position}
use Rattle.std.specs.Str.{bytes_eq}
use Rattle.hla_checker.specs.declared.table.NamedExecution.{NamedExecution}
use Rattle.hla_checker.specs.Table.{centrals_of}
use Rattle.hla_checker.proofs.Executions.TableChanges.{destruction_nowhere, destruction_there}
use Rattle.hla_checker.proofs.Executions.TablePlaces.{no_place, found_there}
use Rattle.hla_checker.proofs.table.ExecutionTable.destruction_fault.Goals as goal

pub returns-in-None : goal.returns-in-None
returns-in-None c =
    let xs = c.args.self.now.executions.items in
    sym (destruction_nowhere (centrals_of xs c.args.name.now) (no_place xs c.args.name.now
    (ap (λ (ys : List NamedExecution). position (λ (x : NamedExecution). bytes_eq c.args.name.now x.name) ys) (sym c.as_slice.ensures.value) ∙ sym c.place_of.ensures ∙ c.in-None.is)))

pub returns-then-is_joined_by_any : goal.returns-then-is_joined_by_any
returns-then-is_joined_by_any c =
    let xs = c.args.self.now.executions.items in
    let there = found_there xs c.args.name.now c.in-Some.place c.index.result.now
    (ap (λ (ys : List NamedExecution). position (λ (x : NamedExecution). bytes_eq c.args.name.now x.name) ys) (sym c.as_slice.ensures.value) ∙ sym c.place_of.ensures ∙ c.in-Some.is) c.index.ensures in
    sym (destruction_there (centrals_of xs c.args.name.now) c.index.result.now true there.0 (sym c.is_joined_by_any.ensures ∙ c.if-is_joined_by_any.true))

pub returns-else-is_joined_by_any : goal.returns-else-is_joined_by_any
returns-else-is_joined_by_any c =
    let xs = c.args.self.now.executions.items in
    let there = found_there xs c.args.name.now c.in-Some.place c.index.result.now
    (ap (λ (ys : List NamedExecution). position (λ (x : NamedExecution). bytes_eq c.args.name.now x.name) ys) (sym c.as_slice.ensures.value) ∙ sym c.place_of.ensures ∙ c.in-Some.is) c.index.ensures in
    sym (destruction_there (centrals_of xs c.args.name.now) c.index.result.now false there.0 (sym c.is_joined_by_any.ensures ∙ c.if-is_joined_by_any.false))
