use Rattle.std.proofs.Common.{◌≡◌, List, Ok, sym, subst}
use Rattle.hla_commands.specs.Script.{script_of}
use Rattle.hla_commands.specs.declared.lines.Line.{Line}
use Rattle.hla_run.proofs.WholeLemmas.{run_recorded}
use Rattle.hla_run.proofs.runner.run_scripts.Goals as goal

pub returns-clause-recorded : goal.returns-clause-recorded
returns-clause-recorded g c =
    let read = c.in_ok-catalogue in
    let says : script_of c.args.script.now ≡ Ok c.as_slice.result.now = subst (λ (lines : List Line). script_of c.args.script.now ≡ Ok lines) (sym c.as_slice.ensures) read.ensures.says in
    run_recorded c.tell_on_threads.result c.args.fed.now c.args.script.now read.field-0.catalogue c.as_slice.result.now _ _ read.ensures.describes says c.tell_on_threads.ensures.recorded
