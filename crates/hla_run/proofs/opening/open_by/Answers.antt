use Rattle.std.proofs.Common.{List, ℕ, ap, refl, subst, sym, ◌∙◌}
use Rattle.hla_commands.specs.declared.lines.Command.{Command}
use Rattle.hla_commands.specs.declared.lines.Command.TheVariants as command
use Rattle.hla_history.specs.Creating.{catalogue_from}
use Rattle.hla_machine.specs.declared.step.Act.TheVariants as act
use Rattle.hla_run.specs.Accounted.{AddsLine, IsActOfLine}
use Rattle.hla_run.specs.Recorded.{IsOpeningLine}
use Rattle.hla_run.proofs.OfficeLemmas.{line_answered}
use Rattle.hla_run.proofs.opening.open_by.Goals as goal

pub returns-in-Create-clause-office : goal.returns-in-Create-clause-office
returns-in-Create-clause-office g c =
    let read = catalogue_from c.args.fed.now in
    let asked = c.args.command.now in
    let acts : IsActOfLine read asked (act.Create read) = subst (λ (x : Command). IsActOfLine read x (act.Create read)) (sym c.in-Create.is) refl in (
      line_answered read c.args.rti.now.handed c.args.execution asked (act.Create read) _ c.outcome_of_done.result c.args.rti.now.own c.create.new.self.own acts c.create.ensures.answered c.outcome_of_done.ensures,
      subst IsOpeningLine (sym c.in-Create.is) tt,
    )

pub returns-in-Ok-clause-office : goal.returns-in-Ok-clause-office
returns-in-Ok-clause-office g c =
    let read = catalogue_from c.args.fed.now in
    let own = c.join_next.new.rti.own in
    let asked = ap (λ (n : List ℕ). command.Join n) c.as_slice-name.ensures ∙ sym c.in-Join.is in
    (subst (λ (x : Command). AddsLine read c.args.rti.now.handed c.args.execution x c.in-Ok.outcome c.args.rti.now.own own) asked (c.in-Ok.ensures.office read), subst IsOpeningLine (sym c.in-Join.is) tt)
