-- The end of a run: the whole history is accounted for.
use Rattle.std.proofs.Common.{◌≡◌, ℕ, zero, suc, ◌<◌, ◌≤◌, ◌==◌, List, [], ◌∷◌, length, Bool, true, Option, Result, Ok, Err, ◌⊎◌, inl, inr, refl, sym, subst, arith, eqb-true, eq-eqb}
use Rattle.std.specs.Prelude.{slice_index_or, IfOk, OnOk, filter}
use Rattle.std.specs.Io.KnownBytes.{Appends}
use Rattle.std.specs.List.{All, Contains}
use Rattle.std.proofs.Math.Nat.{one-le_iff_ne-zero}
use Rattle.std.proofs.lemmas.Bool.{cases_eq, cond-true}
use Rattle.std.proofs.lemmas.List.Elements.{All-contains, Contains-append_cases, Contains-append_left, Contains-append_right, filter-append}
use Rattle.std.proofs.lemmas.List.Folds.{Any-from_list_any}
use Rattle.hla_catalogue.specs.CatalogueValue.{CatalogueValue}
use Rattle.hla_commands.specs.declared.lines.Line.{Line}
use Rattle.hla_commands.specs.Script.{script_of}
use Rattle.hla_fed_file.specs.Grammar.{Describes}
use Rattle.hla_machine.specs.declared.step.Outcome.{Outcome}
use Rattle.hla_machine.specs.declared.step.Record.{Record}
use Rattle.hla_history.specs.Closing.{records_by}
use Rattle.hla_history.specs.Creating.{catalogue_from}
use Rattle.hla_callers.specs.Callers.{Leaver, Office}
use Rattle.hla_callers.specs.Close.{AllAgree, AllHere, AreOfCallers}
use Rattle.hla_interface.specs.Exchanges.{IsExchange}
use Rattle.hla_outcomes.specs.Running.{AreAllDone, told_text}
use Rattle.hla_outcomes.specs.declared.fault.RunFault.{RunFault}
use Rattle.hla_players.specs.declared.watching.Ran.{Ran}
use Rattle.hla_run.specs.Accounted.{IsAccounted, IsRunRecorded, IsToldRecorded, RecordsTold}
use Rattle.hla_run.specs.Recorded.{AgreeAll, IsCallerKnown}
use Rattle.hla_run.proofs.EndLemmas.{agree_all, agreed_within}

-- ---- an actor's records
first_only : (x r : Record) (k : ℕ) → k < length (x ∷ []) → slice_index_or (x ∷ []) k r ≡ r → x ≡ r
first_only x r zero below is = is
first_only x r (suc k) below is = absurd (omega (arith, below))

passed : (p : Record → Bool) (rs : List Record) (r : Record) → Contains rs r → p r ≡ true → Contains (filter p rs) r
passed p [] r there passes = absurd (omega (arith, there.1))
passed p (x ∷ xs) r there passes =
    let both : Contains (filter p (x ∷ [])) r ⊎ Contains (filter p xs) r → Contains (filter p (x ∷ xs)) r = λ either.
    subst (λ (rs : List Record). Contains rs r) (sym (filter-append p (x ∷ []) xs)) (elim either [ inl one ↦ Contains-append_left (filter p (x ∷ [])) (filter p xs) r one | inr later ↦ Contains-append_right (filter p (x ∷ [])) (filter p xs) r later ]) in
    elim (Contains-append_cases (x ∷ []) xs r there) [
      | inl one ↦
          let same : x ≡ r = first_only x r one.0 one.1 one.2 in
          let kept : filter p (r ∷ []) ≡ r ∷ [] = cond-true _ _ _ passes in
          both (inl (subst (λ (y : Record). Contains (filter p (y ∷ [])) r) (sym same) (subst (λ (rs : List Record). Contains rs r) (sym kept) (0, omega arith, refl))))
      | inr later ↦ both (inr (passed p xs r later passes))
    ]

-- ---- who made a record
pub accounted : (c : CatalogueValue) (lines : List Line) (history : List Record) (lefts : List Leaver) (handed : ℕ) → AllHere handed lefts → AreOfCallers handed history → AgreeAll history lefts → All (λ (l : Leaver). IsCallerKnown c lines history l.caller) lefts
    → (r : Record) → Contains history r → IsAccounted c lines history r
accounted c lines history lefts handed here theirs agree known r there = elim (cases_eq r.actor 0) [
  | inl office ↦ inl office
  | inr other ↦
      let most : r.actor ≤ handed = All-contains (λ (x : Record). x.actor ≤ handed) history r theirs there in
      let found = Any-from_list_any (λ (l : Leaver). l.caller.number == r.actor) lefts (here r.actor (one-le_iff_ne-zero.1 other) most) in
      let l : Leaver = found.1 in
      let among : Contains lefts l = (found.0, found.2, found.3) in
      let number : l.caller.number ≡ r.actor = eqb-true l.caller.number r.actor found.4 in
      elim (All-contains (λ (x : Leaver). IsCallerKnown c lines history x.caller) lefts l known among) [
        | inl own ↦ inr (inl (own.0, l.caller, own.1, own.2, sym number))
        | inr exchanges ↦
            let mine = passed (λ (x : Record). x.actor == l.caller.number) history r there (eq-eqb r.actor l.caller.number (sym number)) in
            let agrees : l.caller.transcript ≡ records_by l.caller.number history = All-contains (λ (x : Leaver). x.caller.transcript ≡ records_by x.caller.number history) lefts l agree among in
            inr (inr (All-contains IsExchange l.caller.transcript r exchanges (subst (λ (rs : List Record). Contains rs r) (sym agrees) mine)))
      ]
]

-- ---- what was written
-- of lines that all were done, where the transcripts of all agree with the history
pub told_run : (result : Result Ran RunFault) (read : Option CatalogueValue) (c : CatalogueValue) (lines : List Line) (outcomes : List (Option Outcome)) (lefts : List Leaver) (rti : Office) (old new : Option (List ℕ)) → length outcomes ≡ length lines
    → AreAllDone lines outcomes → RecordsTold read c lines outcomes lefts rti → OnOk result (Appends old new (told_text c lines outcomes)) → IfOk result (λ r. AllAgree r.closed lefts rti.own) → IfOk result (λ r. AreOfCallers rti.handed r.closed)
    → OnOk result (rti.own.number ≡ 0) → OnOk result (AllHere rti.handed lefts) → IfOk result (λ r. IsToldRecorded r.closed read c lines old new)
told_run (Ok r) read c lines outcomes lefts rti old new each done recorded told agree theirs own here =
    let office : rti.own.transcript ≡ records_by 0 r.closed = subst (λ (n : ℕ). rti.own.transcript ≡ records_by n r.closed) own agree.1 in
    (record { outcomes = outcomes; each = each; done = done; writes = told }, recorded r.closed (agreed_within r.closed lefts rti.own agree) (agree_all r.closed lefts rti.own agree) office here theirs)
told_run (Err e) read c lines outcomes lefts rti old new each done recorded told agree theirs own here = tt

pub run_recorded : (result : Result Ran RunFault) (fed script : List ℕ) (c : CatalogueValue) (lines : List Line) (old new : Option (List ℕ)) → Describes fed c → script_of script ≡ Ok lines → IfOk result (λ r. IsToldRecorded r.closed (catalogue_from fed) c lines old new)
    → IfOk result (λ r. IsRunRecorded r.closed fed script old new)
run_recorded (Ok r) fed script c lines old new describes says told = (
  record {
    catalogue = c;
    lines = lines;
    outcomes = told.0.outcomes;
    describes = describes;
    says = says;
    each = told.0.each;
    done = told.0.done;
    writes = told.0.writes;
  },
  told.1,
)
run_recorded (Err e) fed script c lines old new describes says told = tt
