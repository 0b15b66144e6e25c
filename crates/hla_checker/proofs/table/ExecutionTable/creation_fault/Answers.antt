use Rattle.std.proofs.Common.{List, Bool, is_some, sym, ap, ◌∙◌}
use Rattle.std.specs.List.{position}
use Rattle.std.specs.Str.{bytes_eq}
use Rattle.hla_checker.specs.declared.table.NamedExecution.{NamedExecution}
use Rattle.hla_checker.specs.Table.{centrals_of}
use Rattle.hla_checker.specs.Creating.{creation_tests}
use Rattle.hla_checker.proofs.Executions.TablePlaces.{place_there}
use Rattle.hla_checker.proofs.table.ExecutionTable.creation_fault.Goals as goal

pub returns : goal.returns
returns c =
    let now = c.args.self.now in
    let found = c.is_some-is_there.ensures ∙ place_there now.executions.items c.args.name.now c.place_of.result
    (ap (λ (xs : List NamedExecution). position (λ (x : NamedExecution). bytes_eq c.args.name.now x.name) xs) (sym c.as_slice.ensures.value) ∙ sym c.place_of.ensures) in
    c.creation_refusal.ensures
    ∙ ap (λ (b : Bool). creation_tests b c.is_some.result now.creates now.present) found
    ∙ ap (λ (b : Bool). creation_tests (is_some (centrals_of now.executions.items c.args.name.now)) b now.creates now.present) c.is_some.ensures
