use Rattle.std.specs.Prelude.{None}
use Rattle.std.proofs.Common.{◌≡◌, ℕ, ◌+◌, ◌++◌, List, [], Option, length, ap, subst, sym, refl, ◌∙◌, arith}
use Rattle.std.proofs.lemmas.List.{append-nil}
use Rattle.hla_catalogue.specs.CatalogueValue.{CatalogueValue}
use Rattle.hla_commands.specs.declared.lines.Command.{Command}
use Rattle.hla_commands.specs.declared.lines.Command.TheVariants as command
use Rattle.hla_commands.specs.declared.lines.Line.{Line}
use Rattle.hla_machine.specs.declared.step.Act.TheVariants as act
use Rattle.hla_machine.specs.declared.step.Outcome.{Outcome}
use Rattle.hla_machine.specs.declared.step.Record.{Record}
use Rattle.hla_callers.specs.Callers.{Office}
use Rattle.hla_outcomes.specs.declared.outcomes.LineOutcome.{LineOutcome}
use Rattle.hla_run.specs.Accounted.{AddsLine, AreDoneBelow, IsActOfLine, IsDestroyingLine}
use Rattle.hla_run.specs.Recorded.{IsOfficeLine, KeepsOffice}
use Rattle.hla_run.proofs.KeptLemmas.{kept_calls_noted, kept_calls_same, other_call}
use Rattle.hla_run.proofs.OfficeLemmas.{done_first, done_noted, done_passed, line_answered, line_extended, line_told}
use Rattle.hla_run.proofs.RecordLemmas.{grown_same, line_at, office_noted, office_same, same_line}
use Rattle.hla_run.proofs.StrangerLemmas.{openings_noted, openings_same, other_line}
use Rattle.hla_run.proofs.opening.destroy.Goals.{in-Destroy, in_default}
use Rattle.hla_run.proofs.opening.destroy.Goals as goal

pub loop-place-preserved : goal.loop-place-preserved
loop-place-preserved g c =
    let lines = c.args.lines.now in
    let execution = c.args.execution in
    let before = c.loop-place.outcomes in
    let kept = c.loop-place.invariant in
    let l = c.index-lines-place.result in
    let at = line_at lines c.loop-place.place l c.loop-place-test.true c.index-lines-place.is in
    let old = c.loop-place.rti.own in
    elim c.match-line.branch [
      | in-Destroy w ↦
          let told : LineOutcome = record { place = c.loop-place.place; outcome = w.outcome_of_done-outcome.result } in
          let now = w.destroy.new.self.own in
          let adds : (read : Option CatalogueValue) (handed : ℕ) → AddsLine read handed execution l.command told.outcome old now = λ read handed.
          let acts : IsActOfLine read l.command act.Destroy = subst (λ (x : Command). IsActOfLine read x act.Destroy) (sym w.in-Destroy.is) refl in
          line_answered read handed execution l.command act.Destroy _ told.outcome old now acts w.destroy.ensures.answered w.outcome_of_done-outcome.ensures in
          let one = adds None 0 in
          let grown = line_extended None 0 execution l.command told.outcome old now one in
          let line : IsOfficeLine now l.command told.outcome = line_told None 0 execution l.command told.outcome old now one in
          let noted = office_noted lines old now grown c.args.outcomes.now before c.match-line.outcomes kept.recorded told l at (w.outcomes-is ∙ w.note.ensures.noted) line in
          record {
            each = ap (λ (os : List (Option Outcome)). length os) w.outcomes-is ∙ w.note.ensures.length ∙ kept.each;
            office = λ read handed.
                let so_far = kept.office read handed in
                let next = done_noted IsDestroyingLine read handed lines execution c.loop-place.place c.args.rti.now.own.transcript so_far.0 before c.match-line.outcomes l told old now so_far.2 so_far.1 refl at w.in-Destroy.is (w.outcomes-is ∙ w.note.ensures.noted) (adds read handed) in
                subst (λ (x : Office). (more : List Record) × (x.own.transcript ≡ c.args.rti.now.own.transcript ++ more) × AreDoneBelow IsDestroyingLine read handed lines execution (c.loop-place.place + 1) more c.match-line.outcomes) (sym w.rti-is) next;
            recorded = subst (λ (x : Office). KeepsOffice lines x.own c.args.outcomes.now c.match-line.outcomes) (sym w.rti-is) noted;
            openings = openings_noted lines c.args.outcomes.now before c.match-line.outcomes told kept.openings (w.outcomes-is ∙ w.note.ensures.noted) (other_line lines c.loop-place.place l command.Destroy at w.in-Destroy.is (λ opens. opens));
            calls = kept_calls_noted lines c.args.outcomes.now before c.match-line.outcomes told kept.calls (w.outcomes-is ∙ w.note.ensures.noted)
                (other_call lines c.loop-place.place l at (λ name call is. let clash : command.Destroy ≡ command.Federate name call = sym w.in-Destroy.is ∙ is in cc));
          }
      | in_default w ↦ record {
        each = ap (λ (os : List (Option Outcome)). length os) w.outcomes-is ∙ kept.each;
        office = λ read handed.
            let so_far = kept.office read handed in
            let passed = done_passed IsDestroyingLine read handed lines execution c.loop-place.place so_far.0 before c.match-line.outcomes so_far.2 w.outcomes-is
            (λ m found is. w.in_default.not-Destroy (ap (λ (x : Line). x.command) (same_line lines c.loop-place.place l m at found) ∙ is)) in
            (so_far.0, ap (λ (x : Office). x.own.transcript) w.rti-is ∙ so_far.1, passed);
        recorded = subst (λ (x : Office). KeepsOffice lines x.own c.args.outcomes.now c.match-line.outcomes) (sym w.rti-is) (office_same lines old old (grown_same old old refl) c.args.outcomes.now before c.match-line.outcomes kept.recorded w.outcomes-is);
        openings = openings_same lines c.args.outcomes.now before c.match-line.outcomes kept.openings w.outcomes-is;
        calls = kept_calls_same lines c.args.outcomes.now before c.match-line.outcomes kept.calls w.outcomes-is;
      }
    ]

pub loop-place-init : goal.loop-place-init
loop-place-init g c = record {
  each = refl;
  office = λ read handed. ([], sym (append-nil c.args.rti.now.own.transcript), done_first IsDestroyingLine read handed c.args.lines.now c.args.execution c.args.outcomes.now);
  recorded = λ catalogue history stranger within recorded. recorded;
  openings = λ place l o at opens told. told;
  calls = λ place l name call o at is told. told;
}

pub returns-clause-office : goal.returns-clause-office
returns-clause-office g c = λ read handed.
    let done = c.loop-place.invariant.office read handed in
    let all : c.loop-place.place ≡ length c.args.lines.now = omega arith in
    (done.0, done.1, subst (λ (k : ℕ). AreDoneBelow IsDestroyingLine read handed c.args.lines.now c.args.execution k done.0 c.loop-place.outcomes) all done.2)
