use Rattle.std.specs.Prelude.{IfSome}
use Rattle.std.proofs.Common.{◌≡◌, ◌-◌, ◌+◌, ◌≤◌, ℕ, List, [], Option, length, ap, subst, sym, refl, ◌∙◌, arith, length-drop, rules}
use Rattle.hla_commands.specs.declared.lines.Line.{Line}
use Rattle.hla_history.specs.Creating.{catalogue_from}
use Rattle.hla_machine.specs.declared.step.Record.{Record}
use Rattle.hla_machine.specs.declared.step.Outcome.{Outcome}
use Rattle.hla_outcomes.specs.Joining.{joins, joins_by}
use Rattle.hla_run.specs.Accounted.{AreDoneBelow}
use Rattle.hla_run.specs.Recorded.{HasLifeOf, IsOfficeLine, IsOpeningLine}
use Rattle.hla_outcomes.specs.declared.outcomes.LineOutcome.{LineOutcome}
use Rattle.hla_outcomes.proofs.JoinLemmas.{joins_more}
use Rattle.hla_run.proofs.OfficeLemmas.{done_first, done_noted, done_passed, line_told, line_weaker, opened_as, opened_extended, opened_not}
use Rattle.hla_run.proofs.RecordLemmas.{line_at, office_noted, office_same, same_line}
use Rattle.hla_run.proofs.StrangerLemmas.{each_life_noted, each_life_same, untold_lives}
use Rattle.hla_run.proofs.opening.open.Goals.{in-Some, in_default}
use Rattle.hla_run.proofs.opening.open.Goals as goal

pub loop-place-preserved : goal.loop-place-preserved
loop-place-preserved g c =
    let taken = joins_by c.index-lines-place.result.command in
    let left : length c.open_by.new.ambassadors ≡ length c.loop-place.ambassadors - taken =
    ap (λ (bs : List g.row.B.Denot). length bs) c.in_ok-opened.ensures.taken ∙ length-drop taken c.loop-place.ambassadors in
    let more = joins_more c.args.lines.now c.loop-place.place c.index-lines-place.result c.loop-place-test.true c.index-lines-place.is in
    let lines = c.args.lines.now in
    let before = c.loop-place.outcomes in
    let l = c.index-lines-place.result in
    let at = line_at lines c.loop-place.place l c.loop-place-test.true c.index-lines-place.is in
    let execution = c.args.execution in
    let read = catalogue_from c.args.fed.now in
    let old = c.loop-place.rti in
    let now = c.open_by.new.rti.own in
    let office = c.in_ok-opened.ensures.office in
    let grown = opened_extended read old.handed execution l.command c.in_ok-opened.opened old.own now office in
    record {
      each = elim c.match-opened.branch [
        | in-Some w ↦ ap (λ (os : List (Option Outcome)). length os) w.outcomes-is ∙ w.note.ensures.length ∙ c.loop-place.invariant.each
        | in_default w ↦ ap (λ (os : List (Option Outcome)). length os) w.outcomes-is ∙ c.loop-place.invariant.each
      ];
      enough = omega (arith, more, left, c.loop-place.invariant.enough);
      fresh = c.in_ok-opened.ensures.fresh c.loop-place.invariant.fresh;
      joined = c.in_ok-opened.ensures.joined c.loop-place.invariant.joined;
      handed = omega (arith, more, c.in_ok-opened.ensures.handed, c.loop-place.invariant.handed);
      recorded = elim c.match-opened.branch [
        | in-Some w ↦
            let told : LineOutcome = record { place = c.loop-place.place; outcome = w.in-Some.outcome } in
            let line : IsOfficeLine now l.command told.outcome = line_told read old.handed execution l.command told.outcome old.own now (opened_as read old.handed execution l.command c.in_ok-opened.opened told.outcome old.own now w.in-Some.is office).0 in
            office_noted lines old.own now grown c.args.outcomes.now before c.match-opened.outcomes c.loop-place.invariant.recorded told l at (w.outcomes-is ∙ w.note.ensures.noted) line
        | in_default w ↦ office_same lines old.own now grown c.args.outcomes.now before c.match-opened.outcomes c.loop-place.invariant.recorded w.outcomes-is
      ];
      office = λ none blank.
          let so_far = c.loop-place.invariant.office none blank in
          let within : old.handed ≤ joins lines + joins lines = omega (arith, c.loop-place.invariant.handed, none) in
          elim c.match-opened.branch [
            | in-Some w ↦
                let told : LineOutcome = record { place = c.loop-place.place; outcome = w.in-Some.outcome } in
                let line = opened_as read old.handed execution l.command c.in_ok-opened.opened told.outcome old.own now w.in-Some.is office in
                let adds = line_weaker read old.handed (joins lines + joins lines) execution l.command told.outcome old.own now within line.0 in
                let next = done_noted IsOpeningLine read (joins lines + joins lines) lines execution c.loop-place.place [] old.own.transcript before c.match-opened.outcomes l told old.own now so_far refl refl at line.1 (w.outcomes-is ∙ w.note.ensures.noted) adds in
                subst (λ (rs : List Record). AreDoneBelow IsOpeningLine read (joins lines + joins lines) lines execution (c.loop-place.place + 1) rs c.match-opened.outcomes) (sym next.1) next.2
            | in_default w ↦
                let aside = opened_not read old.handed execution l.command c.in_ok-opened.opened old.own now w.in_default.not-Some office in
                let passed = done_passed IsOpeningLine read (joins lines + joins lines) lines execution c.loop-place.place old.own.transcript before c.match-opened.outcomes so_far w.outcomes-is
                (λ m found opens. aside.1 (subst (λ (x : Line). IsOpeningLine x.command) (sym (same_line lines c.loop-place.place l m at found)) opens)) in
                subst (λ (rs : List Record). AreDoneBelow IsOpeningLine read (joins lines + joins lines) lines execution (c.loop-place.place + 1) rs c.match-opened.outcomes) (sym aside.0) passed
          ];
      lives = λ untold.
          let each = c.loop-place.invariant.lives untold in
          let old = c.loop-place.lives.items in
          let new = c.open_by.new.lives.items in
          elim c.match-opened.branch [
            | in-Some w ↦
                let told : LineOutcome = record { place = c.loop-place.place; outcome = w.in-Some.outcome } in
                let own = subst (λ (o : Option Outcome). IfSome o (HasLifeOf new l.command)) w.in-Some.is c.in_ok-opened.ensures.life in
                each_life_noted lines old new before c.match-opened.outcomes told l each c.in_ok-opened.ensures.lives at (w.outcomes-is ∙ w.note.ensures.noted) own
            | in_default w ↦ each_life_same lines old new before c.match-opened.outcomes each c.in_ok-opened.ensures.lives w.outcomes-is
          ];
    }

pub returns-clause-office : goal.returns-clause-office
returns-clause-office g c = λ none blank.
    let all : c.loop-place.place ≡ length c.args.lines.now = omega arith in
    let most = joins c.args.lines.now + joins c.args.lines.now in
    subst (λ (k : ℕ). AreDoneBelow IsOpeningLine (catalogue_from c.args.fed.now) most c.args.lines.now c.args.execution k c.loop-place.rti.own.transcript c.loop-place.outcomes) all (c.loop-place.invariant.office none blank)

pub loop-place-init : goal.loop-place-init
loop-place-init g c =
    let most = joins c.args.lines.now + joins c.args.lines.now in
    record {
      each = refl;
      enough = search rules;
      handed = omega arith;
      fresh = search rules;
      joined = search rules;
      recorded = λ catalogue history stranger within recorded. recorded;
      office = λ none blank.
          subst (λ (rs : List Record). AreDoneBelow IsOpeningLine (catalogue_from c.args.fed.now) most c.args.lines.now c.args.execution 0 rs c.args.outcomes.now) (sym blank)
          (done_first IsOpeningLine (catalogue_from c.args.fed.now) most c.args.lines.now c.args.execution c.args.outcomes.now);
      lives = λ untold. untold_lives c.args.lines.now _ c.args.outcomes.now untold;
    }
