use Rattle.hla_run.specs.Recorded.{IsLifeOf, IsLifeRecorded, IsToldTo}
use Rattle.std.proofs.Common.{◌≡◌, ◌∙◌, ◌+◌, List, ℕ, length, ap, arith, rules, subst, sym}
use Rattle.std.specs.Str.{bytes_eq}
use Rattle.std.proofs.lemmas.Slice.Eq.{bytes_eq-Decides}
use Rattle.std.proofs.lemmas.Bool.Decides.{not_from_Decides}
use Rattle.hla_commands.specs.declared.lines.Command.TheVariants as command
use Rattle.hla_commands.specs.declared.lines.Line.{Line}
use Rattle.hla_run.specs.declared.life.Life.{Life}
use Rattle.hla_run.proofs.life.live.Goals.{in-Federate+then-eq, in-Federate+else-eq, in_default}
use Rattle.hla_run.proofs.AnswerLemmas.{told_past}
use Rattle.hla_run.proofs.RecordLemmas.{call_at, line_at, same_line}
use Rattle.hla_run.proofs.life.live.Goals as goal

pub loop-place-preserved : goal.loop-place-preserved
loop-place-preserved g c =
    let before = c.loop-place.invariant in
    let first = c.args.life in
    let lines = c.args.stage.now.lines.now in
    let place = c.loop-place.place in
    let own = c.loop-place.life in
    let line = c.line-item.result in
    let at = line_at lines place line c.loop-place-test.true c.line-item.is in
    let Same : Life g.row.L.Denot g.row.B.Denot g.row.P.Denot g.row.H.Denot → Type 0 = λ life. IsLifeOf first life in
    let Recorded : List ℕ → Life g.row.L.Denot g.row.B.Denot g.row.P.Denot g.row.H.Denot → Type 0 = λ execution life. IsLifeRecorded c.args.stage.now.catalogue.now c.args.stage.now.lines.now execution life in
    record {
      same = elim c.match-line.branch [
        | in-Federate+then-eq w ↦ subst Same (sym w.life-is) (w.next-life.ensures.same.0 ∙ before.same.0, w.next-life.ensures.same.1 ∙ before.same.1)
        | in-Federate+else-eq w ↦ subst Same (sym w.life-is) before.same
        | in_default w ↦ subst Same (sym w.life-is) before.same
      ];
      recorded = λ execution begins. elim c.match-line.branch [
        | in-Federate+then-eq w ↦ subst (Recorded execution) (sym w.life-is) (w.next-life.ensures.recorded execution (before.recorded execution begins))
        | in-Federate+else-eq w ↦ subst (Recorded execution) (sym w.life-is) (before.recorded execution begins)
        | in_default w ↦ subst (Recorded execution) (sym w.life-is) (before.recorded execution begins)
      ];
      told = λ begins. elim c.match-line.branch [
        | in-Federate+then-eq w ↦ subst (IsToldTo lines (place + 1)) (sym w.life-is) (w.next-life.ensures.told (before.told begins))
        | in-Federate+else-eq w ↦ subst (IsToldTo lines (place + 1)) (sym w.life-is) (told_past lines place own (λ l call found is.
            let both : command.Federate w.in-Federate.name w.in-Federate.call ≡ command.Federate own.name call = sym w.in-Federate.is ∙ ap (λ (x : Line). x.command) (same_line lines place line l at found) ∙ is in
            let names : w.in-Federate.name ≡ own.name = cc in
            not_from_Decides (bytes_eq w.as_slice.result.now w.as_slice-in-Federate.result.now) (bytes_eq-Decides w.as_slice.result.now w.as_slice-in-Federate.result.now) (sym w.eq.ensures ∙ w.if-eq.false)
            (w.as_slice.ensures ∙ names ∙ sym w.as_slice-in-Federate.ensures)) (before.told begins))
        | in_default w ↦ subst (IsToldTo lines (place + 1)) (sym w.life-is) (told_past lines place own (λ l call found is. w.in_default.not-Federate own.name call (ap (λ (x : Line). x.command) (same_line lines place line l at found) ∙ is)) (before.told begins))
      ];
    }

pub next-life-requires : goal.next-life-requires
next-life-requires g c =
    let lines = c.args.stage.now.lines.now in
    let at = line_at lines c.loop-place.place c.line-item.result c.loop-place-test.true c.line-item.is in
    let same : c.in-Federate.name ≡ c.loop-place.life.name = search rules in
    call_at lines c.loop-place.place c.line-item.result c.in-Federate.name c.loop-place.life.name c.in-Federate.call at c.in-Federate.is same

pub returns-clause-told : goal.returns-clause-told
returns-clause-told g c = λ begins.
    let lines = c.args.stage.now.lines.now in
    let all : c.loop-place.place ≡ length lines = omega arith in
    subst (λ (n : ℕ). IsToldTo lines n c.loop-place.life) all (c.loop-place.invariant.told begins)
