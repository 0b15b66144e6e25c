-- What the infrastructure itself did answers its lines, in turn.
use Rattle.std.proofs.Common.{◌≡◌, ℕ, ◌<◌, ◌≤◌, ◌+◌, List, [], ◌∷◌, ◌++◌, Option, None, Some, Result, ◌⊎◌, inl, inr, refl, sym, ap, subst, ◌∙◌, arith, below_more}
use Rattle.std.specs.Prelude.{slice_get, slice_index_or}
use Rattle.std.specs.List.{All, Contains}
use Rattle.std.proofs.lemmas.List.{append-nil, append_assoc}
use Rattle.std.proofs.lemmas.List.Elements.{All-push, Contains-append_left, Contains-push}
use Rattle.hla_base.specs.Limits.{max_callers}
use Rattle.hla_base.specs.declared.fault.Fault.{Fault}
use Rattle.hla_base.specs.declared.fault.Fault.TheVariants as fault
use Rattle.hla_catalogue.specs.CatalogueValue.{CatalogueValue}
use Rattle.hla_commands.specs.declared.lines.Command.{Command}
use Rattle.hla_commands.specs.declared.lines.Command.TheVariants as command
use Rattle.hla_commands.specs.declared.lines.Line.{Line}
use Rattle.hla_machine.specs.declared.step.Act.{Act}
use Rattle.hla_machine.specs.declared.step.Act.TheVariants as act
use Rattle.hla_machine.specs.declared.step.Answer.{Answer}
use Rattle.hla_machine.specs.declared.step.Answer.TheVariants as answer
use Rattle.hla_machine.specs.declared.step.Outcome.{Outcome}
use Rattle.hla_machine.specs.declared.step.Outcome.TheVariants as outcome
use Rattle.hla_machine.specs.declared.step.Record.{Record}
use Rattle.hla_machine.specs.declared.step.Step.TheVariants as step
use Rattle.hla_callers.specs.Callers.{Caller, HasActed, HasAnswered, HasNotActed, answer_given}
use Rattle.hla_outcomes.specs.Running.{with_line_noted}
use Rattle.hla_outcomes.specs.declared.outcomes.LineOutcome.{LineOutcome}
use Rattle.hla_players.proofs.DeedLemmas.{answer_told}
use Rattle.hla_run.specs.Accounted.{AddsLine, AreDoneBelow, AreDoneInTurn, IsActOfLine, IsToldOf, LacksCallers, LacksLineRecord, OpensLine}
use Rattle.hla_run.specs.Recorded.{HasExtended, IsActRecorded, IsOfficeLine, IsOpeningLine, IsRecordOf}
use Rattle.hla_run.proofs.AnswerLemmas.{added_told, below_next, rising_more}
use Rattle.hla_run.proofs.RecordLemmas.{noted_cases, noted_first, noted_same, same_line}

-- ---- what a line has added
pub line_answered : (read : Option CatalogueValue) (handed : ℕ) (execution : List ℕ) (asked : Command) (a : Act) (given : Result Answer Fault) (out : Outcome) (old new : Caller) → IsActOfLine read asked a → HasAnswered old execution a given new → answer_given out ≡ given
    → AddsLine read handed execution asked out old new
line_answered read handed execution asked a given out old new acts answered told = (
  a,
  acts,
  elim (added_told old new execution a out (answer_told old new execution a given out answered told)) [
    | inl own ↦ inl own
    | inr none ↦ inr (none.0 ∙ append-nil old.transcript, inl none.1)
  ],
)

pub line_joined : (read : Option CatalogueValue) (handed : ℕ) (execution name : List ℕ) (f : ℕ) (old new : Caller) → HasActed old execution (act.Step (step.Join name)) (outcome.Done (answer.Federate f)) new
    → AddsLine read handed execution (command.Join name) (outcome.Done (answer.Federate f)) old new
line_joined read handed execution name f old new acted =
    let own : Record = record { actor = old.number; execution = execution; act = act.Step (step.Join name); outcome = outcome.Done (answer.Federate f); choice = acted.0 } in
    (act.Step (step.Join name), refl, inl (own, ap (λ (x : Caller). x.transcript) acted.1, (refl, refl, refl)))

pub line_refused : (read : Option CatalogueValue) (handed : ℕ) (execution name : List ℕ) (e : Fault) (old new : Caller)
    → (HasActed old execution (act.Step (step.Join name)) (outcome.Refused e) new ⊎ HasNotActed old e new) ⊎ ((e ≡ fault.LimitReached) × (max_callers ≤ handed) × (new ≡ old)) → AddsLine read handed execution (command.Join name) (outcome.Refused e) old new
line_refused read handed execution name e old new refused = (
  act.Step (step.Join name),
  refl,
  elim refused [
    | inl (inl acted) ↦
        let own : Record = record { actor = old.number; execution = execution; act = act.Step (step.Join name); outcome = outcome.Refused e; choice = acted.0 } in
        inl (own, ap (λ (x : Caller). x.transcript) acted.1, (refl, refl, refl))
    | inl (inr none) ↦ inr (ap (λ (x : Caller). x.transcript) none.1, inl (e, refl, none.0))
    | inr limit ↦ inr (ap (λ (x : Caller). x.transcript) limit.2, inr (name, refl, ap (λ (x : Fault). outcome.Refused x) limit.0, limit.1))
  ],
)

-- no more callers were handed out than these
pub line_weaker : (read : Option CatalogueValue) (handed most : ℕ) (execution : List ℕ) (asked : Command) (out : Outcome) (old new : Caller) → handed ≤ most → AddsLine read handed execution asked out old new → AddsLine read most execution asked out old new
line_weaker read handed most execution asked out old new within h = (
  h.0,
  h.1,
  elim h.2 [
    | inl own ↦ inl own
    | inr none ↦ inr (none.0, elim none.1 [ inl lacks ↦ inl lacks | inr few ↦ inr (few.0, few.1, few.2, omega (arith, few.3, within)) ])
  ],
)

pub line_extended : (read : Option CatalogueValue) (handed : ℕ) (execution : List ℕ) (asked : Command) (out : Outcome) (old new : Caller) → AddsLine read handed execution asked out old new → HasExtended old new
line_extended read handed execution asked out old new h = elim h.2 [ inl own ↦ (own.0 ∷ [], own.1) | inr none ↦ ([], none.0 ∙ sym (append-nil old.transcript)) ]

pub opened_extended : (read : Option CatalogueValue) (handed : ℕ) (execution : List ℕ) (asked : Command) (out : Option Outcome) (old new : Caller) → OpensLine read handed execution asked out old new → HasExtended old new
opened_extended read handed execution asked None old new h = ([], h.0 ∙ sym (append-nil old.transcript))
opened_extended read handed execution asked (Some out) old new h = line_extended read handed execution asked out old new h.0

-- a line that was done, or none
pub opened_as : (read : Option CatalogueValue) (handed : ℕ) (execution : List ℕ) (asked : Command) (out : Option Outcome) (o : Outcome) (old new : Caller) → out ≡ Some o → OpensLine read handed execution asked out old new
    → AddsLine read handed execution asked o old new × IsOpeningLine asked
opened_as read handed execution asked out o old new is h = subst (λ (x : Option Outcome). OpensLine read handed execution asked x old new) is h

pub opened_not : (read : Option CatalogueValue) (handed : ℕ) (execution : List ℕ) (asked : Command) (out : Option Outcome) (old new : Caller) → ((o : Outcome) → out ≡ Some o → ⊥) → OpensLine read handed execution asked out old new
    → (new.transcript ≡ old.transcript) × (IsOpeningLine asked → ⊥)
opened_not read handed execution asked None old new none h = h
opened_not read handed execution asked (Some o) old new none h = absurd (none o refl)

-- ---- it is what is told of the line
line_acted : (read : Option CatalogueValue) (handed : ℕ) (execution : List ℕ) (asked : Command) (out : Outcome) (old new : Caller) (b : Act) → (h : AddsLine read handed execution asked out old new) → h.0 ≡ b
    → IsActRecorded new.transcript execution b out ⊎ LacksCallers handed asked out
line_acted read handed execution asked out old new b h is = elim h.2 [
  | inl own ↦ inl (inl (record { found = own.0; there = subst (λ (rs : List Record). Contains rs own.0) (sym own.1) (Contains-push old.transcript own.0); inside = own.2.0; acts = own.2.1 ∙ is; answers = own.2.2 }))
  | inr none ↦ elim none.1 [ inl lacks ↦ inl (inr lacks) | inr few ↦ inr few ]
]

pub line_told : (read : Option CatalogueValue) (handed : ℕ) (execution : List ℕ) (asked : Command) (out : Outcome) (old new : Caller) → AddsLine read handed execution asked out old new → IsOfficeLine new asked out
line_told read handed execution command.Create out old new h = λ c stranger. elim (line_acted read handed execution command.Create out old new (act.Create read) h h.1) [
  | inl told ↦ (read, (execution, told))
  | inr few ↦ let clash : command.Create ≡ command.Join few.0 = few.1 in cc
]
line_told read handed execution command.Destroy out old new h = λ c stranger. elim (line_acted read handed execution command.Destroy out old new act.Destroy h h.1) [
  | inl told ↦ (execution, told)
  | inr few ↦ let clash : command.Destroy ≡ command.Join few.0 = few.1 in cc
]
line_told read handed execution (command.Join name) out old new h = λ c stranger. elim (line_acted read handed execution (command.Join name) out old new (act.Step (step.Join name)) h h.1) [
  | inl told ↦ inl (execution, told)
  | inr few ↦ inr few.2
]
line_told read handed execution (command.Carry from to) out old new h = absurd h.1
line_told read handed execution (command.Announce name) out old new h = absurd h.1
line_told read handed execution (command.Federate name call) out old new h = absurd h.1

-- ---- in turn
module _ (read : Option CatalogueValue) (handed : ℕ) (lines : List Line) (execution : List ℕ) (t : LineOutcome) (l : Line) (at : slice_get lines t.place ≡ Some l) (a : Act) (acts : IsActOfLine read l.command a) where
  done_answered : (r : Record) → IsRecordOf execution a (answer_given t.outcome) r → (records : List Record) (told : List LineOutcome) → AreDoneInTurn read handed lines execution records told → AreDoneInTurn read handed lines execution (records ++ r ∷ []) (told ++ t ∷ [])
  done_answered r own records [] h = (l, a, at, acts, inl (r, [], ap (λ (rs : List Record). rs ++ r ∷ []) h, own, refl))
  done_answered r own records (u ∷ us) h = (
    h.0,
    h.1,
    h.2,
    h.3,
    elim h.4 [
      | inl made ↦ inl (made.0, made.1 ++ r ∷ [], ap (λ (rs : List Record). rs ++ r ∷ []) made.2, made.3, done_answered r own made.1 us made.4)
      | inr none ↦ inr (none.0, done_answered r own records us none.1)
    ],
  )

  done_lacking : LacksLineRecord handed l.command t.outcome → (records : List Record) (told : List LineOutcome) → AreDoneInTurn read handed lines execution records told → AreDoneInTurn read handed lines execution records (told ++ t ∷ [])
  done_lacking lacks records [] h = (l, a, at, acts, inr (lacks, h))
  done_lacking lacks records (u ∷ us) h = (
    h.0,
    h.1,
    h.2,
    h.3,
    elim h.4 [
      | inl made ↦ inl (made.0, made.1, made.2, made.3, done_lacking lacks made.1 us made.4)
      | inr none ↦ inr (none.0, done_lacking lacks records us none.1)
    ],
  )

-- ---- up to a place
module _ (Kind : Command → Type 0) (read : Option CatalogueValue) (handed : ℕ) (lines : List Line) (execution : List ℕ) where
  pub done_first : (outcomes : List (Option Outcome)) → AreDoneBelow Kind read handed lines execution 0 [] outcomes
  done_first outcomes = record {
    told = [];
    rising = tt;
    below = λ k d within. absurd (omega (arith, within));
    kind = λ k d within. absurd (omega (arith, within));
    tells = λ place l o within at of told. absurd (omega (arith, within));
    in_turn = refl;
  }

  -- a line of another kind
  pub done_passed : (k : ℕ) (records : List Record) (mid new : List (Option Outcome)) → AreDoneBelow Kind read handed lines execution k records mid → new ≡ mid → ((m : Line) → slice_get lines k ≡ Some m → Kind m.command → ⊥)
      → AreDoneBelow Kind read handed lines execution (k + 1) records new
  done_passed k records mid new before same other =
      let Told : ℕ → Type 0 = λ (p : ℕ). (m : Line) (o : Outcome) → slice_get lines p ≡ Some m → Kind m.command → slice_index_or new p None ≡ Some o → Contains before.told (record { place = p; outcome = o }) in
      record {
        told = before.told;
        rising = before.rising;
        below = below_next k before.told before.below;
        kind = before.kind;
        tells = λ place l o within at of told.
            below_more Told k (λ p below m q found is now. before.tells p m q below found is (subst (λ (os : List (Option Outcome)). slice_index_or os p None ≡ Some q) same now)) (λ m q found is now. absurd (other m found is)) place within l o at of told;
        in_turn = before.in_turn;
      }

  -- one of this kind
  next_below : (k : ℕ) (records more : List Record) (mid new : List (Option Outcome)) (l : Line) (t : LineOutcome) (before : AreDoneBelow Kind read handed lines execution k records mid) → t.place ≡ k → slice_get lines t.place ≡ Some l → Kind l.command
      → new ≡ with_line_noted mid t → AreDoneInTurn read handed lines execution more (before.told ++ t ∷ []) → AreDoneBelow Kind read handed lines execution (k + 1) more new
  next_below k records more mid new l t before here at kind noted turns =
      let Told : ℕ → Type 0 = λ (p : ℕ). (m : Line) (o : Outcome) → slice_get lines p ≡ Some m → Kind m.command → slice_index_or new p None ≡ Some o → Contains (before.told ++ t ∷ []) (record { place = p; outcome = o }) in
      let last : (p : ℕ) (o : Outcome) → t.place ≡ p → t.outcome ≡ o → Contains (before.told ++ t ∷ []) (record { place = p; outcome = o }) = λ p o one two.
      subst (λ (u : LineOutcome). Contains (before.told ++ t ∷ []) u) (noted_first t p o one two) (Contains-push before.told t) in
      record {
        told = before.told ++ t ∷ [];
        rising = rising_more before.told t before.rising (subst (λ (p : ℕ). All (λ (u : LineOutcome). u.place < p) before.told) (sym here) before.below);
        below = All-push (λ (u : LineOutcome). u.place < k + 1) before.told t (below_next k before.told before.below) (omega (arith, here));
        kind = All-push (IsToldOf Kind lines) before.told t before.kind (λ m found. subst (λ (x : Line). Kind x.command) (same_line lines t.place l m at found) kind);
        tells = λ place m o within found of told.
            below_more Told k
            (λ p below n q found_at is now. elim (noted_cases mid t.place p t.outcome q (subst (λ (os : List (Option Outcome)). slice_index_or os p None ≡ Some q) noted now)) [
              | inl was ↦ Contains-append_left before.told (t ∷ []) (record { place = p; outcome = q }) (before.tells p n q below found_at is was)
              | inr own ↦ last p q own.0 own.1
            ])
            (λ n q found_at is now.
            let there : slice_index_or (with_line_noted mid t) t.place None ≡ Some q = subst (λ (p : ℕ). slice_index_or (with_line_noted mid t) p None ≡ Some q) (sym here) (subst (λ (os : List (Option Outcome)). slice_index_or os k None ≡ Some q) noted now) in
            last k q here (noted_same mid t.place t.outcome q there))
            place within m o found of told;
        in_turn = turns;
      }

  pub done_noted : (k : ℕ) (base records : List Record) (mid new : List (Option Outcome)) (l : Line) (t : LineOutcome) (old now : Caller) → AreDoneBelow Kind read handed lines execution k records mid → old.transcript ≡ base ++ records → t.place ≡ k
      → slice_get lines t.place ≡ Some l → Kind l.command → new ≡ with_line_noted mid t → AddsLine read handed execution l.command t.outcome old now
      → (more : List Record) × (now.transcript ≡ base ++ more) × AreDoneBelow Kind read handed lines execution (k + 1) more new
  done_noted k base records mid new l t old now before is here at kind noted adds = elim adds.2 [
    | inl own ↦
        let turns = done_answered read handed lines execution t l at adds.0 adds.1 own.0 own.2 records before.told before.in_turn in (
          records ++ own.0 ∷ [],
          own.1 ∙ ap (λ (rs : List Record). rs ++ own.0 ∷ []) is ∙ append_assoc base records (own.0 ∷ []),
          next_below k records (records ++ own.0 ∷ []) mid new l t before here at kind noted turns,
        )
    | inr none ↦ (records, none.0 ∙ is, next_below k records records mid new l t before here at kind noted (done_lacking read handed lines execution t l at adds.0 adds.1 none.1 records before.told before.in_turn))
  ]

  -- what is told of such lines stays told
  pub done_kept : (k : ℕ) (records : List Record) (old new : List (Option Outcome)) → ((place : ℕ) (l : Line) (o : Outcome) → slice_get lines place ≡ Some l → Kind l.command → slice_index_or new place None ≡ Some o → slice_index_or old place None ≡ Some o)
      → AreDoneBelow Kind read handed lines execution k records old → AreDoneBelow Kind read handed lines execution k records new
  done_kept k records old new keeps h = record {
    told = h.told;
    rising = h.rising;
    below = h.below;
    kind = h.kind;
    tells = λ place l o within at of told. h.tells place l o within at of (keeps place l o at of told);
    in_turn = h.in_turn;
  }
