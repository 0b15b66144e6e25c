-- What stays of lines of federates behind their lives.
use Rattle.std.proofs.Common.{◌≡◌, ℕ, suc, ◌<◌, List, [], ◌∷◌, length, get_or, Bool, true, false, Option, None, Some, inl, inr, refl, sym, ap, subst, ◌∙◌, arith}
use Rattle.std.specs.Prelude.{slice_get, slice_index_or, not}
use Rattle.std.specs.Str.{bytes_eq}
use Rattle.std.proofs.lemmas.Bool.{or_cases, or_left, or_right}
use Rattle.hla_catalogue.specs.CatalogueValue.{CatalogueValue}
use Rattle.hla_commands.specs.declared.lines.Call.{Call}
use Rattle.hla_commands.specs.declared.lines.Command.TheVariants as command
use Rattle.hla_commands.specs.declared.lines.Line.{Line}
use Rattle.hla_machine.specs.declared.step.Outcome.{Outcome}
use Rattle.hla_machine.specs.declared.step.Record.{Record}
use Rattle.hla_outcomes.specs.Running.{with_line_noted}
use Rattle.hla_outcomes.specs.declared.outcomes.LineOutcome.{LineOutcome}
use Rattle.hla_run.specs.Recorded.{IsLifeOf, IsNameInTurn, KeepsCalls, has_life, is_stranger}
use Rattle.hla_run.specs.declared.life.Life.{Life}
use Rattle.hla_run.proofs.RecordLemmas.{noted_cases, same_line}

-- ---- lines that are calls
pub kept_calls_same : (lines : List Line) (old mid new : List (Option Outcome)) → KeepsCalls lines old mid → new ≡ mid → KeepsCalls lines old new
kept_calls_same lines old mid new before same = λ place l name call o at is told. before place l name call o at is (subst (λ (os : List (Option Outcome)). slice_index_or os place None ≡ Some o) same told)

pub kept_calls_noted : (lines : List Line) (old mid new : List (Option Outcome)) (t : LineOutcome) → KeepsCalls lines old mid → new ≡ with_line_noted mid t
    → ((l : Line) (name : List ℕ) (call : Call) → slice_get lines t.place ≡ Some l → l.command ≡ command.Federate name call → ⊥) → KeepsCalls lines old new
kept_calls_noted lines old mid new t before noted other = λ place l name call o at is told.
    let here = subst (λ (os : List (Option Outcome)). slice_index_or os place None ≡ Some o) noted told in
    elim (noted_cases mid t.place place t.outcome o here) [
      | inl was ↦ before place l name call o at is was
      | inr now ↦ absurd (other l name call (ap (λ n. slice_get lines n) now.0 ∙ at) is)
    ]

-- a line that is of another kind
pub other_call : (lines : List Line) (place : ℕ) (m : Line) → slice_get lines place ≡ Some m → ((name : List ℕ) (call : Call) → m.command ≡ command.Federate name call → ⊥)
    → (l : Line) (name : List ℕ) (call : Call) → slice_get lines place ≡ Some l → l.command ≡ command.Federate name call → ⊥
other_call lines place m at other l name call found is = other name call (ap (λ (x : Line). x.command) (same_line lines place m l at found) ∙ is)

pub turn_kept : (c : CatalogueValue) (lines : List Line) (history : List Record) (old new : List (Option Outcome)) (name : List ℕ) → KeepsCalls lines old new → IsNameInTurn c lines history old name → IsNameInTurn c lines history new name
turn_kept c lines history old new name keeps h = record {
  caller = h.caller;
  told = h.told;
  own = h.own;
  tells = λ place l call o at is told. h.tells place l call o at is (keeps place l name call o at is told);
}

-- ---- lives of the same names
not_false : (b : Bool) → not b ≡ false → b ≡ true
not_false true is = refl
not_false false is = sym is

module _ {L B P H : Type 0} where
  pub named_all : (old new : List (Life L B P H)) (name : List ℕ) → length new ≡ length old → ((k : ℕ) (d e : Life L B P H) → k < length old → IsLifeOf (get_or old k d) (get_or new k e)) → has_life old name ≡ true → has_life new name ≡ true
  named_all [] new name each same has = let clash : false ≡ true = has in absurd (cc)
  named_all (x ∷ xs) [] name each same has = absurd (omega (arith, each))
  named_all (x ∷ xs) (y ∷ ys) name each same has =
      let head : IsLifeOf x y = same 0 x y (omega arith) in
      elim (or_cases (bytes_eq x.name name) (has_life xs name) has) [
        | inl own ↦ or_left (bytes_eq y.name name) (has_life ys name) (ap (λ (n : List ℕ). bytes_eq n name) head.0 ∙ own)
        | inr rest ↦ or_right (bytes_eq y.name name) (has_life ys name) (named_all xs ys name (omega (arith, each)) (λ k d e below. same (suc k) d e (omega (arith, below))) rest)
      ]

  -- who is no stranger is one of them
  pub known_life : (lives : List (Life L B P H)) (name : List ℕ) → is_stranger lives name ≡ false → has_life lives name ≡ true
  known_life lives name known = not_false (has_life lives name) known
