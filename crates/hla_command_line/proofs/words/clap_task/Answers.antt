use Rattle.std.proofs.Common.{◌∙◌, ap, sym}
use Rattle.clap.specs.Faults.{fault_of, is_simple_and_free}
use Rattle.clap.specs.Simple.{App, is_simple, subcommand_of}
use Rattle.clap.specs.Matches.{found_of}
use Rattle.clap.specs.Walk.{texts}
use Rattle.clap.specs.Kinds.{HasKind}
use Rattle.std.proofs.Common.{subst}
use Rattle.clap.specs.Kinds.{Kinds}
use Rattle.hla_command_line.proofs.WordLemmas.{line_is_simple, line_is_free, with_rows, refusal_found, task_met, rows_met, task_given}
use Rattle.hla_command_line.proofs.words.clap_task.Goals as goal

pub returns-in-Err-clause-err : goal.returns-in-Err-clause-err
returns-in-Err-clause-err c =
    let line_is = c.in-Ok.ensures in
    let free = ap is_simple_and_free line_is ∙ line_is_free in
    let P : Kinds → Type 0 = λ kinds. HasKind kinds c.in-Err.error in
    refusal_found (texts c.args.words.now) c.in-Err.error c.fault_of_error.result
    (subst P (ap (λ (a : App). fault_of a (texts c.args.words.now)) line_is) (c.in-Err.ensures.kinds free)) c.fault_of_error.ensures

pub returns-clause-ok : goal.returns-clause-ok
returns-clause-ok c =
    let line_is = c.in-Ok.ensures in
    let found = c.in-Ok-try_get_matches_from.ensures in
    let none = sym (ap (λ (a : App). fault_of a (texts c.args.words.now)) line_is) ∙ found.kinds (ap is_simple_and_free line_is ∙ line_is_free) in
    let met = sym (rows_met _ c.in-Some.name.now _ c.in-Some.ensures.name c.in-Some.ensures.rows) ∙ (found.matches (ap is_simple line_is ∙ line_is_simple)).1
    ∙ ap (λ (a : App). subcommand_of a (texts c.args.words.now)) line_is in
    task_given (texts c.args.words.now) c.task_with.result c.ok_or.result
    (task_met (texts c.args.words.now) c.in-Some.name.now _ none (sym met) ∙ sym (with_rows (found_of c.in-Some.found.now) c.in-Some.name.now) ∙ sym c.task_with.ensures) c.ok_or.ensures.ok_part
