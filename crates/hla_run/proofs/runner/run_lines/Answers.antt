use Rattle.std.proofs.Common.{◌≡◌, ◌<◌, ℕ, ◌+◌, List, Bool, true, false, Option, None, length, get_or, sym, subst, ◌∙◌, ap, arith}
use Rattle.std.specs.Prelude.{codes, slice_index_or}
use Rattle.std.specs.List.{All}
use Rattle.hla_history.specs.Creating.{catalogue_from}
use Rattle.hla_machine.specs.declared.step.Outcome.{Outcome}
use Rattle.hla_outcomes.specs.Joining.{joins}
use Rattle.hla_run.specs.Recorded.{AreJoined, AreNotTold, AreOutcomesRecorded, HasEachLife, IsLifeOf, IsLifeRecorded, IsNameInTurn, IsOpeningLine, IsToldTo, IsTranscriptIn, KeepsOpenings, has_life, is_stranger}
use Rattle.hla_run.specs.declared.life.Life.{Life}
use Rattle.hla_run.proofs.RecordLemmas.{blank_recorded, fresh_recorded, grown_within, joined_in, joined_same, none_at}
use Rattle.hla_run.proofs.AnswerLemmas.{told_first}
use Rattle.hla_run.proofs.KeptLemmas.{known_life, named_all, turn_kept}
use Rattle.hla_run.proofs.EndLemmas.{actor_in}
use Rattle.hla_run.proofs.OfficeLemmas.{done_kept}
use Rattle.hla_run.proofs.WholeLemmas.{accounted}
use Rattle.hla_run.proofs.StrangerLemmas.{each_life_kept, openings_twice, stranger_told}
use Rattle.hla_run.proofs.runner.run_lines.Goals as goal

pub returns-then-are_of_all-clause-recorded : goal.returns-then-are_of_all-clause-recorded
returns-then-are_of_all-clause-recorded g c = λ history lefts agree office here theirs.
    let catalogue = c.args.catalogue.now in
    let read = catalogue_from c.args.fed.now in
    let lines = c.args.lines.now in
    let most = joins lines + joins lines in
    let execution = c.in_ok-execution.execution in
    let played : execution ≡ codes "play" = c.in_ok-execution.ensures.ok in
    let lives = c.in_ok-lives.lives.items in
    let seen = c.as_slice.result.now in
    let stranger : List ℕ → Bool = is_stranger seen in
    let blank = subst (λ (os : List (Option Outcome)). AreOutcomesRecorded catalogue lines history stranger os) (sym c.requires.blank) (blank_recorded catalogue lines history stranger (length lines)) in
    let untold : AreNotTold c.args.outcomes.now = λ place. ap (λ (os : List (Option Outcome)). slice_index_or os place None) c.requires.blank ∙ none_at (length lines) place in
    let own : IsTranscriptIn history c.destroy.new.rti.own.transcript = actor_in history 0 c.destroy.new.rti.own.transcript office in
    let closing = c.destroy.ensures.office read most in
    let before : IsTranscriptIn history c.«open».new.rti.own.transcript = λ r there. own r (grown_within c.«open».new.rti.own c.destroy.new.rti.own (closing.0, closing.1) r there) in
    let opened = c.in_ok-lives.ensures.recorded catalogue history stranger before blank in
    let refused = c.refuse_strangers.ensures.recorded catalogue history opened in
    let joined : AreJoined history execution lives = joined_in history c.«open».new.rti.own.transcript execution lives before c.in_ok-lives.ensures.joined in
    let after = c.in_ok-lives-2.lives.items in
    let lived : All (IsLifeRecorded catalogue lines execution) after = λ k d below.
    let within : k < length lives = omega (arith, below, c.in_ok-lives-2.ensures.each) in
    (c.in_ok-lives-2.ensures.lived k d d within).recorded execution (fresh_recorded catalogue lines execution (get_or lives k d) (c.in_ok-lives.ensures.fresh k d within)) in
    let named : AreJoined history execution after = λ k d below.
    let within : k < length lives = omega (arith, below, c.in_ok-lives-2.ensures.each) in
    joined_same history execution (get_or lives k d) (get_or after k d) (c.in_ok-lives-2.ensures.lived k d d within).same (joined k d within) in
    let told = c.in_ok-lefts.ensures.recorded catalogue lines execution history stranger lived named lefts refused in
    let calls : KeepsOpenings lines c.refuse_strangers.new.outcomes c.gather_all.new.outcomes = c.in_ok-lefts.ensures.calls catalogue lines execution lived in
    let first = openings_twice lines c.«open».new.outcomes c.refuse_strangers.new.outcomes c.gather_all.new.outcomes c.refuse_strangers.ensures.openings calls in
    let all = openings_twice lines c.«open».new.outcomes c.gather_all.new.outcomes c.destroy.new.outcomes first c.destroy.ensures.openings in
    let first_lives : HasEachLife lines seen c.«open».new.outcomes =
    subst (λ (ls : List (Life g.row.L.Denot g.row.B.Denot g.row.P.Denot g.row.H.Denot)). HasEachLife lines ls c.«open».new.outcomes) (sym c.as_slice.ensures.value) (c.in_ok-lives.ensures.lives untold) in
    let each : HasEachLife lines seen c.destroy.new.outcomes = each_life_kept lines seen c.«open».new.outcomes c.destroy.new.outcomes all first_lives in
    let whole : All (IsToldTo lines (length lines)) after = λ k d below.
    let within : k < length lives = omega (arith, below, c.in_ok-lives-2.ensures.each) in
    (c.in_ok-lives-2.ensures.lived k d d within).told (told_first lines (get_or lives k d) (c.in_ok-lives.ensures.fresh k d within).1) in
    let same_names : (k : ℕ) (d e : Life g.row.L.Denot g.row.B.Denot g.row.P.Denot g.row.H.Denot) → k < length lives → IsLifeOf (get_or lives k d) (get_or after k e) = λ k d e below.
    (c.in_ok-lives-2.ensures.lived k d e below).same in
    let turns : (name : List ℕ) → stranger name ≡ false → IsNameInTurn catalogue lines history c.destroy.new.outcomes name = λ name known.
    let first : has_life lives name ≡ true =
    subst (λ (ls : List (Life g.row.L.Denot g.row.B.Denot g.row.P.Denot g.row.H.Denot)). has_life ls name ≡ true) c.as_slice.ensures.value (known_life seen name known) in
    let many : length after ≡ length lives = omega (arith, c.in_ok-lives-2.ensures.each) in
    let has = named_all lives after name many same_names first in
    turn_kept catalogue lines history c.gather_all.new.outcomes c.destroy.new.outcomes name c.destroy.ensures.calls (c.in_ok-lefts.ensures.turns catalogue lines execution history played lived whole named lefts agree name has) in
    let opening = c.in_ok-lives.ensures.office c.requires.handed c.requires.office in
    let known = c.in_ok-lefts.ensures.callers catalogue lines execution history played lived whole named lefts agree in
    record {
      stranger = stranger;
      recorded = c.destroy.ensures.recorded catalogue history stranger own told;
      strangers = stranger_told lines seen c.destroy.new.outcomes each;
      in_turn = turns;
      office = record {
        execution = execution;
        named = played;
        first = c.«open».new.rti.own.transcript;
        last = closing.0;
        all = sym office ∙ closing.1;
        opens = done_kept IsOpeningLine read most lines execution (length lines) c.«open».new.rti.own.transcript c.«open».new.outcomes c.destroy.new.outcomes all opening;
        destroys = closing.2;
      };
      accounted = accounted catalogue lines history c.in_ok-lefts.lefts.items c.destroy.new.rti.handed here theirs agree known;
    }

pub returns-then-are_of_all-clause-done : goal.returns-then-are_of_all-clause-done
returns-then-are_of_all-clause-done g c = c.are_of_all.ensures.0 c.if-are_of_all.true
