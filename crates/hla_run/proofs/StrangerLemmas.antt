-- Of whom it is told that nobody has joined under the name, of no line is it told that one has.
use Rattle.std.proofs.Common.{◌≡◌, ℕ, suc, List, [], ◌∷◌, ◌++◌, get_or, Bool, true, false, Option, None, Some, inl, inr, refl, sym, ap, subst, ◌∙◌, arith}
use Rattle.std.specs.Prelude.{slice_get, slice_index_or, not, ◌||◌}
use Rattle.std.specs.List.{All}
use Rattle.std.specs.Str.{bytes_eq}
use Rattle.std.proofs.lemmas.Bool.{or_left, or_right}
use Rattle.std.proofs.lemmas.List.Elements.{All-contains, Contains-append_left, Contains-push, Contains-get_or}
use Rattle.std.proofs.lemmas.List.Folds.{list_any-append}
use Rattle.hla_catalogue.specs.CatalogueValue.{CatalogueValue}
use Rattle.hla_commands.specs.declared.lines.Command.{Command}
use Rattle.hla_commands.specs.declared.lines.Line.{Line}
use Rattle.hla_machine.specs.declared.step.Answer.TheVariants as answer
use Rattle.hla_machine.specs.declared.step.Outcome.{Outcome}
use Rattle.hla_machine.specs.declared.step.Outcome.TheVariants as outcome
use Rattle.hla_machine.specs.declared.step.Record.{Record}
use Rattle.hla_outcomes.specs.Running.{with_line_noted, with_lines_noted}
use Rattle.hla_outcomes.specs.declared.outcomes.LineOutcome.{LineOutcome}
use Rattle.hla_players.specs.Deeds.{caller_of}
use Rattle.hla_run.specs.Recorded.{AreNotTold, AreOwnTellings, GathersCalls, HasEachLife, HasLifeOf, IsLifeRecorded, IsOpeningLine, IsOwnTelling, IsStranger, KeepsOpenings, KeepsLives, has_life, is_stranger}
use Rattle.hla_run.specs.declared.life.Life.{Life}
use Rattle.hla_run.proofs.RecordLemmas.{noted_cases, same_line}

-- ---- lines that create and join
pub openings_same : (lines : List Line) (old mid new : List (Option Outcome)) → KeepsOpenings lines old mid → new ≡ mid → KeepsOpenings lines old new
openings_same lines old mid new before same = λ place l o at opens told. before place l o at opens (subst (λ (os : List (Option Outcome)). slice_index_or os place None ≡ Some o) same told)

pub openings_twice : (lines : List Line) (old mid new : List (Option Outcome)) → KeepsOpenings lines old mid → KeepsOpenings lines mid new → KeepsOpenings lines old new
openings_twice lines old mid new first second = λ place l o at opens told. first place l o at opens (second place l o at opens told)

-- what is told of a line of another kind
pub openings_noted : (lines : List Line) (old mid new : List (Option Outcome)) (t : LineOutcome) → KeepsOpenings lines old mid → new ≡ with_line_noted mid t → ((l : Line) → slice_get lines t.place ≡ Some l → IsOpeningLine l.command → ⊥) → KeepsOpenings lines old new
openings_noted lines old mid new t before noted other = λ place l o at opens told.
    let here = subst (λ (os : List (Option Outcome)). slice_index_or os place None ≡ Some o) noted told in
    elim (noted_cases mid t.place place t.outcome o here) [
      | inl was ↦ before place l o at opens was
      | inr now ↦ absurd (other l (ap (λ n. slice_get lines n) now.0 ∙ at) opens)
    ]

-- a line that is of another kind
pub other_line : (lines : List Line) (place : ℕ) (m : Line) (asked : Command) → slice_get lines place ≡ Some m → m.command ≡ asked → (IsOpeningLine asked → ⊥) → (l : Line) → slice_get lines place ≡ Some l → IsOpeningLine l.command → ⊥
other_line lines place m asked at is other l found opens = other (subst IsOpeningLine (ap (λ (x : Line). x.command) (sym (same_line lines place m l at found)) ∙ is) opens)

own_line : (c : CatalogueValue) (lines : List Line) (records : List Record) (execution : List ℕ) (f : ℕ) (own : List ℕ) (t : LineOutcome) → IsOwnTelling c lines records execution f own t → (l : Line) → slice_get lines t.place ≡ Some l → IsOpeningLine l.command → ⊥
own_line c lines records execution f own t h l at opens = subst IsOpeningLine (h.1 l at) opens

all_own : (c : CatalogueValue) (lines : List Line) (records : List Record) (execution : List ℕ) (f : ℕ) (own : List ℕ) (told : List LineOutcome) (outcomes : List (Option Outcome)) → AreOwnTellings c lines records execution f own told
    → KeepsOpenings lines outcomes (with_lines_noted outcomes told)
all_own c lines records execution f own [] outcomes tellings = λ place l o at opens told. told
all_own c lines records execution f own (t ∷ ts) outcomes tellings =
    let first : KeepsOpenings lines outcomes (with_line_noted outcomes t) =
    openings_noted lines outcomes outcomes (with_line_noted outcomes t) t (λ place l o at opens told. told) refl (own_line c lines records execution f own t (tellings 0 t (omega arith))) in
    openings_twice lines outcomes (with_line_noted outcomes t) (with_lines_noted (with_line_noted outcomes t) ts) first
    (all_own c lines records execution f own ts (with_line_noted outcomes t) (λ k d below. tellings (suc k) d (omega (arith, below))))

module _ {L B P H : Type 0} where
  pub calls_more : (lives : List (Life L B P H)) (life : Life L B P H) (old mid new : List (Option Outcome)) → GathersCalls lives old mid → new ≡ with_lines_noted mid life.told.items → GathersCalls (lives ++ life ∷ []) old new
  calls_more lives life old mid new before noted = λ c lines execution recorded.
      let Recorded : Life L B P H → Type 0 = IsLifeRecorded c lines execution in
      let others : All Recorded lives = λ k d below. All-contains Recorded (lives ++ life ∷ []) (get_or lives k d) recorded (Contains-append_left lives (life ∷ []) (get_or lives k d) (Contains-get_or lives k d below)) in
      let own : Recorded life = All-contains Recorded (lives ++ life ∷ []) life recorded (Contains-push lives life) in
      let last = all_own c lines (caller_of life.player).transcript execution life.number life.name life.told.items mid own.1 in
      openings_same lines old (with_lines_noted mid life.told.items) new (openings_twice lines old mid (with_lines_noted mid life.told.items) (before c lines execution others) last) noted

  pub calls_of : (some all : List (Life L B P H)) (old new : List (Option Outcome)) → some ≡ all → GathersCalls some old new → GathersCalls all old new
  calls_of some all old new same h = subst (λ (ls : List (Life L B P H)). GathersCalls ls old new) same h

  -- ---- lives
  pub life_or : (lives : List (Life L B P H)) (life : Life L B P H) (name : List ℕ) → has_life (lives ++ life ∷ []) name ≡ (has_life lives name || (bytes_eq life.name name || false))
  life_or lives life name = list_any-append (λ (x : Life L B P H). bytes_eq x.name name) lives (life ∷ [])

  pub lives_more : (lives : List (Life L B P H)) (life : Life L B P H) → KeepsLives lives (lives ++ life ∷ [])
  lives_more lives life = λ name has. life_or lives life name ∙ or_left (has_life lives name) (bytes_eq life.name name || false) has

  pub life_last : (lives : List (Life L B P H)) (life : Life L B P H) (name : List ℕ) → bytes_eq life.name name ≡ true → has_life (lives ++ life ∷ []) name ≡ true
  life_last lives life name same = life_or lives life name ∙ or_right (has_life lives name) (bytes_eq life.name name || false) (or_left (bytes_eq life.name name) false same)

  -- ---- who is told to have joined
  pub untold_lives : (lines : List Line) (lives : List (Life L B P H)) (outcomes : List (Option Outcome)) → AreNotTold outcomes → HasEachLife lines lives outcomes
  untold_lives lines lives outcomes untold = λ place l o at told. let none = sym (untold place) ∙ told in absurd (cc)

  life_stays : (old new : List (Life L B P H)) (asked : Command) (out : Outcome) → KeepsLives old new → HasLifeOf old asked out → HasLifeOf new asked out
  life_stays old new asked out keeps has = λ name f is done. keeps name (has name f is done)

  pub each_life_same : (lines : List Line) (old new : List (Life L B P H)) (before after : List (Option Outcome)) → HasEachLife lines old before → KeepsLives old new → after ≡ before → HasEachLife lines new after
  each_life_same lines old new before after each keeps same = λ place l o at told.
      life_stays old new l.command o keeps (each place l o at (subst (λ (os : List (Option Outcome)). slice_index_or os place None ≡ Some o) same told))

  pub each_life_noted : (lines : List Line) (old new : List (Life L B P H)) (before after : List (Option Outcome)) (t : LineOutcome) (l : Line) → HasEachLife lines old before → KeepsLives old new → slice_get lines t.place ≡ Some l → after ≡ with_line_noted before t
      → HasLifeOf new l.command t.outcome → HasEachLife lines new after
  each_life_noted lines old new before after t l each keeps at noted own = λ place m o found told.
      let here = subst (λ (os : List (Option Outcome)). slice_index_or os place None ≡ Some o) noted told in
      elim (noted_cases before t.place place t.outcome o here) [
        | inl was ↦ life_stays old new m.command o keeps (each place m o found was)
        | inr now ↦
            let same : l ≡ m = same_line lines t.place l m at (ap (λ n. slice_get lines n) now.0 ∙ found) in
            subst (λ (x : Line). HasLifeOf new x.command o) same (subst (λ (x : Outcome). HasLifeOf new l.command x) now.1 own)
      ]

  pub each_life_kept : (lines : List Line) (lives : List (Life L B P H)) (old new : List (Option Outcome)) → KeepsOpenings lines old new → HasEachLife lines lives old → HasEachLife lines lives new
  each_life_kept lines lives old new keeps each = λ place l o at told name f is done. each place l o at (keeps place l o at (subst IsOpeningLine (sym is) tt) told) name f is done

  -- who is none of the lives is a stranger
  pub stranger_told : (lines : List Line) (lives : List (Life L B P H)) (outcomes : List (Option Outcome)) → HasEachLife lines lives outcomes → (name : List ℕ) → is_stranger lives name ≡ true → IsStranger lines outcomes name
  stranger_told lines lives outcomes each name known = λ place l f at is told.
      let has = each place l (outcome.Done (answer.Federate f)) at told name f is refl in
      let clash : false ≡ true = subst (λ (b : Bool). not b ≡ true) has known in absurd (cc)
