use Rattle.std.specs.Prelude.{not}
use Rattle.std.proofs.Common.{◌≡◌, ℕ, List, Bool, false, Option, length, ap, subst, sym, ◌∙◌}
use Rattle.hla_base.specs.declared.fault.Fault.TheVariants.{FederateNotExecutionMember}
use Rattle.hla_machine.specs.declared.step.Outcome.{Outcome}
use Rattle.hla_machine.specs.declared.step.Outcome.TheVariants as outcome
use Rattle.hla_outcomes.specs.declared.outcomes.LineOutcome.{LineOutcome}
use Rattle.hla_run.proofs.RecordLemmas.{kept_noted, kept_same, line_at, stranger_aside, telling_aside}
use Rattle.hla_commands.specs.declared.lines.Command.TheVariants as command
use Rattle.hla_run.specs.Recorded.{has_life, is_stranger}
use Rattle.hla_run.proofs.StrangerLemmas.{openings_noted, openings_same, other_line}
use Rattle.hla_run.proofs.opening.refuse_strangers.Goals.{in-Federate+then-not-has_joined, in-Federate+else-not-has_joined, in_default}
use Rattle.hla_run.proofs.opening.refuse_strangers.Goals as goal

pub loop-place-preserved : goal.loop-place-preserved
loop-place-preserved g c =
    let lines = c.args.lines.now in
    let stranger = is_stranger c.args.lives.now in
    let before = c.loop-place.outcomes in
    let kept = c.loop-place.invariant in
    let l = c.index-lines-place.result in
    let told : LineOutcome = record { place = c.loop-place.place; outcome = outcome.Refused FederateNotExecutionMember } in
    let at = line_at lines c.loop-place.place l c.loop-place-test.true c.index-lines-place.is in
    record {
      each = elim c.match-line.branch [
        | in-Federate+then-not-has_joined w ↦ ap (λ (os : List (Option Outcome)). length os) w.outcomes-is ∙ w.note.ensures.length ∙ kept.each
        | in-Federate+else-not-has_joined w ↦ ap (λ (os : List (Option Outcome)). length os) w.outcomes-is ∙ kept.each
        | in_default w ↦ ap (λ (os : List (Option Outcome)). length os) w.outcomes-is ∙ kept.each
      ];
      recorded = elim c.match-line.branch [
        | in-Federate+then-not-has_joined w ↦
            let none : has_life c.args.lives.now w.in-Federate.name ≡ false =
            subst (λ (n : List ℕ). has_life c.args.lives.now n ≡ false) w.as_slice.ensures (sym w.has_joined.ensures ∙ w.if-not-has_joined.true) in
            let aside = stranger_aside stranger l.command w.in-Federate.name w.in-Federate.call (ap (λ (b : Bool). not b) none) w.in-Federate.is in
            kept_noted lines stranger c.args.outcomes.now before c.match-line.outcomes told kept.recorded (w.outcomes-is ∙ w.note.ensures.noted) (telling_aside lines stranger told l at aside)
        | in-Federate+else-not-has_joined w ↦ kept_same lines stranger c.args.outcomes.now before c.match-line.outcomes kept.recorded w.outcomes-is
        | in_default w ↦ kept_same lines stranger c.args.outcomes.now before c.match-line.outcomes kept.recorded w.outcomes-is
      ];
      openings = elim c.match-line.branch [
        | in-Federate+then-not-has_joined w ↦
            openings_noted lines c.args.outcomes.now before c.match-line.outcomes told kept.openings (w.outcomes-is ∙ w.note.ensures.noted)
            (other_line lines c.loop-place.place l (command.Federate w.in-Federate.name w.in-Federate.call) at w.in-Federate.is (λ opens. opens))
        | in-Federate+else-not-has_joined w ↦ openings_same lines c.args.outcomes.now before c.match-line.outcomes kept.openings w.outcomes-is
        | in_default w ↦ openings_same lines c.args.outcomes.now before c.match-line.outcomes kept.openings w.outcomes-is
      ];
    }
