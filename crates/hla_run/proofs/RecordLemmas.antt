-- What is told of the lines of federates is what records answer.
use Rattle.std.proofs.Common.{◌≡◌, ℕ, zero, suc, ◌<◌, List, [], ◌∷◌, ◌++◌, length, get_or, replicate, Bool, true, Option, None, Some, Result, Ok, ◌⊎◌, inl, inr, refl, sym, ap, subst, ◌∙◌, arith}
use Rattle.std.specs.Prelude.{slice_get, slice_index_or, slice_set}
use Rattle.std.specs.List.{All, Contains}
use Rattle.std.proofs.lemmas.List.{append-nil}
use Rattle.std.proofs.lemmas.List.Elements.{All-contains, All-push, Contains-append_left, Contains-push, Contains-get_or}
use Rattle.std.proofs.lemmas.Option.{slice_get_read}
use Rattle.hla_base.specs.declared.fault.Fault.{Fault}
use Rattle.hla_base.specs.declared.fault.Fault.TheVariants as fault
use Rattle.hla_catalogue.specs.CatalogueValue.{CatalogueValue}
use Rattle.hla_commands.specs.declared.lines.Call.{Call}
use Rattle.hla_commands.specs.declared.lines.Command.{Command}
use Rattle.hla_commands.specs.declared.lines.Command.TheVariants as command
use Rattle.hla_commands.specs.declared.lines.Line.{Line}
use Rattle.hla_machine.specs.declared.service.Service.TheVariants as service
use Rattle.hla_machine.specs.declared.step.Act.{Act}
use Rattle.hla_machine.specs.declared.step.Act.TheVariants as act
use Rattle.hla_machine.specs.declared.step.Answer.{Answer}
use Rattle.hla_machine.specs.declared.step.Answer.TheVariants as answer
use Rattle.hla_machine.specs.declared.step.Outcome.{Outcome}
use Rattle.hla_machine.specs.declared.step.Outcome.TheVariants as outcome
use Rattle.hla_machine.specs.declared.step.Record.{Record}
use Rattle.hla_machine.specs.declared.step.Step.TheVariants as step
use Rattle.hla_callers.specs.Callers.{Caller, FederateCaller, Leaver, HasActed, answer_given}
use Rattle.hla_callers.specs.Close.{Agrees}
use Rattle.hla_players.specs.Deeds.{HasDone, HasTold, DoesDeed, IsGoneBy, caller_of}
use Rattle.hla_run.specs.Recorded.{act_of_call, AreAnsweredInTurn, HasAnswerOf, HasJoined, IsOfficeRecorded, IsJoiningRecorded, IsActRecorded, IsCallRecorded, IsNamedCallRecorded, IsResignedBy, IsUnmade, IsLineRecorded, IsTellingRecorded, AreTellingsRecorded, IsOwnTelling, AreOwnTellings, AreOutcomesRecorded, HasExtended, IsTranscriptIn, IsCallAt, IsFresh, AreFresh, AreJoined, IsLifeOf, IsLifeRecorded, IsPlayerAs, NeedsNoRecord, KeepsRecorded, KeepsOffice, IsOfficeLine, LeavesBehind, LeavesPair, GathersRecorded}
use Rattle.hla_outcomes.specs.Running.{with_line_noted, with_lines_noted}
use Rattle.hla_run.specs.declared.life.Life.{Life}
use Rattle.hla_outcomes.specs.declared.outcomes.LineOutcome.{LineOutcome}
use Rattle.hla_players.specs.declared.player.Deed.{Deed}
use Rattle.hla_players.specs.declared.player.Player.{Player}
use Rattle.hla_players.specs.declared.player.Player.TheVariants as player

-- ---- among more records
pub answer_in : (history records : List Record) (execution : List ℕ) (a : Act) (given : Result Answer Fault) → IsTranscriptIn history records → HasAnswerOf records execution a given → HasAnswerOf history execution a given
answer_in history records execution a given within h = record { found = h.found; there = within h.found h.there; inside = h.inside; acts = h.acts; answers = h.answers }

resigned_in : (history records : List Record) (execution : List ℕ) (f : ℕ) → IsTranscriptIn history records → IsResignedBy records execution f → IsResignedBy history execution f
resigned_in history records execution f within h = (h.0, answer_in history records execution (act.Step (step.Call f (service.Resign h.0))) (Ok answer.Done) within h.1)

unmade_in : (c : CatalogueValue) (history records : List Record) (execution : List ℕ) (f : ℕ) (call : Call) (out : Outcome) → IsTranscriptIn history records → IsUnmade c records execution f call out → IsUnmade c history execution f call out
unmade_in c history records execution f call out within h = (
  h.0,
  h.1,
  elim h.2 [
    | inl unknown ↦ inl unknown
    | inr (inl full) ↦ inr (inl full)
    | inr (inr (inl memory)) ↦ inr (inr (inl memory))
    | inr (inr (inr gone)) ↦ inr (inr (inr (gone.0, resigned_in history records execution f within gone.1)))
  ],
)

call_in : (c : CatalogueValue) (history records : List Record) (execution : List ℕ) (f : ℕ) (call : Call) (out : Outcome) → IsTranscriptIn history records → IsCallRecorded c records execution f call out → IsCallRecorded c history execution f call out
call_in c history records execution f call out within h = elim h [
  | inl made ↦ inl (record { asked = made.asked; asks = made.asks; answered = answer_in history records execution (act_of_call made.asked f) (answer_given out) within made.answered })
  | inr none ↦ inr (unmade_in c history records execution f call out within none)
]

own_telling_in : (c : CatalogueValue) (lines : List Line) (history records : List Record) (execution : List ℕ) (f : ℕ) (name : List ℕ) (t : LineOutcome) → IsTranscriptIn history records → IsOwnTelling c lines records execution f name t
    → IsOwnTelling c lines history execution f name t
own_telling_in c lines history records execution f name t within h = (h.0, h.1, call_in c history records execution f h.0 t.outcome within h.2)

pub own_tellings_in : (c : CatalogueValue) (lines : List Line) (history records : List Record) (execution : List ℕ) (f : ℕ) (name : List ℕ) (told : List LineOutcome) → IsTranscriptIn history records → AreOwnTellings c lines records execution f name told
    → AreOwnTellings c lines history execution f name told
own_tellings_in c lines history records execution f name told within h = λ k d below. own_telling_in c lines history records execution f name (get_or told k d) within (h k d below)

-- who has resigned makes no call
pub unjoined : (c : CatalogueValue) (records : List Record) (execution : List ℕ) (f : ℕ) (call : Call) → IsResignedBy records execution f → IsUnmade c records execution f call (outcome.Refused fault.FederateNotExecutionMember)
unjoined c records execution f call gone = (fault.FederateNotExecutionMember, refl, inr (inr (inr (refl, gone))))

-- ---- a federate that has joined under a name
named_recorded : (c : CatalogueValue) (records : List Record) (stranger : List ℕ → Bool) (execution : List ℕ) (f : ℕ) (name : List ℕ) (call : Call) (out : Outcome) → HasJoined records execution name f → IsCallRecorded c records execution f call out
    → IsNamedCallRecorded c records stranger name call out
named_recorded c records stranger execution f name call out joined h = elim h [
  | inl made ↦ inl (record { execution = execution; federate = f; joined = joined; called = made })
  | inr none ↦ inr (inl (record { execution = execution; federate = f; joined = joined; unmade = none }))
]

telling_named : (c : CatalogueValue) (lines : List Line) (history : List Record) (stranger : List ℕ → Bool) (execution : List ℕ) (f : ℕ) (name : List ℕ) (t : LineOutcome) → HasJoined history execution name f → IsOwnTelling c lines history execution f name t
    → IsTellingRecorded c lines history stranger t
telling_named c lines history stranger execution f name t joined h = λ l at.
    subst (λ (x : Command). IsLineRecorded c history stranger x t.outcome) (sym (h.1 l at)) (named_recorded c history stranger execution f name h.0 t.outcome joined h.2)

-- what a federate tells of its lines is in the history, where that has its joining and its transcript
pub tellings_named : (c : CatalogueValue) (lines : List Line) (history records : List Record) (stranger : List ℕ → Bool) (execution : List ℕ) (f : ℕ) (name : List ℕ) (told : List LineOutcome) → HasJoined history execution name f → IsTranscriptIn history records
    → AreOwnTellings c lines records execution f name told → AreTellingsRecorded c lines history stranger told
tellings_named c lines history records stranger execution f name told joined within h = λ k d below.
    telling_named c lines history stranger execution f name (get_or told k d) joined (own_tellings_in c lines history records execution f name told within h k d below)

-- a transcript that has grown has what it had
pub grown_within : (old new : Caller) → HasExtended old new → IsTranscriptIn new.transcript old.transcript
grown_within old new grown = λ r there. subst (λ (rs : List Record). Contains rs r) (sym grown.1) (Contains-append_left old.transcript grown.0 r there)

pub grown_same : (old new : Caller) → new ≡ old → HasExtended old new
grown_same old new same = ([], ap (λ (x : Caller). x.transcript) same ∙ sym (append-nil old.transcript))

-- ---- other lines
office_in : (history records : List Record) (a : Act) (out : Outcome) → IsTranscriptIn history records → IsOfficeRecorded records a out → IsOfficeRecorded history a out
office_in history records a out within h = (h.0, elim h.1 [ inl answered ↦ inl (answer_in history records h.0 a (answer_given out) within answered) | inr none ↦ inr none ])

joining_in : (history records : List Record) (name : List ℕ) (out : Outcome) → IsTranscriptIn history records → IsJoiningRecorded records name out → IsJoiningRecorded history name out
joining_in history records name out within h = elim h [ inl told ↦ inl (office_in history records (act.Step (step.Join name)) out within told) | inr none ↦ inr none ]

named_in : (c : CatalogueValue) (history records : List Record) (stranger : List ℕ → Bool) (name : List ℕ) (call : Call) (out : Outcome) → IsTranscriptIn history records → IsNamedCallRecorded c records stranger name call out
    → IsNamedCallRecorded c history stranger name call out
named_in c history records stranger name call out within h = elim h [
  | inl made ↦
      let asked = made.called in
      let joined = answer_in history records made.execution (act.Step (step.Join name)) (Ok (answer.Federate made.federate)) within made.joined in
      let answered = answer_in history records made.execution (act_of_call asked.asked made.federate) (answer_given out) within asked.answered in
      inl (record { execution = made.execution; federate = made.federate; joined = joined; called = record { asked = asked.asked; asks = asked.asks; answered = answered } })
  | inr (inl none) ↦
      let joined = answer_in history records none.execution (act.Step (step.Join name)) (Ok (answer.Federate none.federate)) within none.joined in
      inr (inl (record { execution = none.execution; federate = none.federate; joined = joined; unmade = unmade_in c history records none.execution none.federate call out within none.unmade }))
  | inr (inr strange) ↦ inr (inr strange)
]

line_in : (c : CatalogueValue) (history records : List Record) (stranger : List ℕ → Bool) (l : Command) (out : Outcome) → IsTranscriptIn history records → IsLineRecorded c records stranger l out → IsLineRecorded c history stranger l out
line_in c history records stranger command.Create out within h = (h.0, office_in history records (act.Create h.0) out within h.1)
line_in c history records stranger command.Destroy out within h = office_in history records act.Destroy out within h
line_in c history records stranger (command.Join name) out within h = joining_in history records name out within h
line_in c history records stranger (command.Carry from to) out within h = h
line_in c history records stranger (command.Announce name) out within h = h
line_in c history records stranger (command.Federate name call) out within h = named_in c history records stranger name call out within h

-- what is told of a stranger needs no record
pub stranger_aside : (stranger : List ℕ → Bool) (l : Command) (name : List ℕ) (call : Call) → stranger name ≡ true → l ≡ command.Federate name call → NeedsNoRecord stranger l (outcome.Refused fault.FederateNotExecutionMember)
stranger_aside stranger l name call known is = λ c records.
    subst (λ (x : Command). IsLineRecorded c records stranger x (outcome.Refused fault.FederateNotExecutionMember)) (sym is) (inr (inr (refl, known)))

-- the line at a place
pub line_at : (lines : List Line) (k : ℕ) (l : Line) → k < length lines → l ≡ get_or lines k l → slice_get lines k ≡ Some l
line_at lines k l below is = slice_get_read lines (length lines) k l refl below is

pub same_line : (lines : List Line) (k : ℕ) (l m : Line) → slice_get lines k ≡ Some l → slice_get lines k ≡ Some m → l ≡ m
same_line lines k l m one other = let both : Some l ≡ Some m = sym one ∙ other in cc

pub telling_aside : (lines : List Line) (stranger : List ℕ → Bool) (t : LineOutcome) (l : Line) → slice_get lines t.place ≡ Some l → NeedsNoRecord stranger l.command t.outcome
    → (c : CatalogueValue) (history : List Record) → IsTellingRecorded c lines history stranger t
telling_aside lines stranger t l at aside c history = λ m found. subst (λ (x : Line). IsLineRecorded c history stranger x.command t.outcome) (same_line lines t.place l m at found) (aside c history)

-- a call of a federate, at its place
pub call_at : (lines : List Line) (k : ℕ) (l : Line) (name own : List ℕ) (call : Call) → slice_get lines k ≡ Some l → l.command ≡ command.Federate name call → name ≡ own → IsCallAt lines k own call
call_at lines k l name own call at is same = λ m found. subst (λ (x : Line). x.command ≡ command.Federate own call) (same_line lines k l m at found) (is ∙ ap (λ (n : List ℕ). command.Federate n call) same)

-- ---- an act that is told
pub acted_extended : (old new : Caller) (execution : List ℕ) (a : Act) (out : Outcome) → HasActed old execution a out new → HasExtended old new
acted_extended old new execution a out acted =
    let own : Record = record { actor = old.number; execution = execution; act = a; outcome = out; choice = acted.0 } in
    (own ∷ [], ap (λ (x : Caller). x.transcript) acted.1)

pub acted_recorded : (old new : Caller) (execution : List ℕ) (a : Act) (ended : Outcome) (given : Result Answer Fault) → given ≡ answer_given ended → HasActed old execution a ended new → HasAnswerOf new.transcript execution a given
acted_recorded old new execution a ended given told acted =
    let own : Record = record { actor = old.number; execution = execution; act = a; outcome = ended; choice = acted.0 } in
    let more : new.transcript ≡ old.transcript ++ own ∷ [] = ap (λ (x : Caller). x.transcript) acted.1 in
    let last : HasAnswerOf (old.transcript ++ own ∷ []) execution a given = record { found = own; there = Contains-push old.transcript own; inside = refl; acts = refl; answers = sym told } in
    subst (λ (rs : List Record). HasAnswerOf rs execution a given) (sym more) last

pub told_recorded : (old new : Caller) (execution : List ℕ) (a : Act) (out : Outcome) → HasTold old execution a out new → HasExtended old new × IsActRecorded new.transcript execution a out
told_recorded old new execution a out told = elim told [
  | inl acted ↦ (acted_extended old new execution a acted.0 acted.2, inl (acted_recorded old new execution a acted.0 (answer_given out) acted.1 acted.2))
  | inr none ↦ (grown_same old new none.2.1, inr (none.0, none.1, none.2.0))
]

pub done_recorded : (records : List Record) (execution : List ℕ) (a : Act) (out : Outcome) (given : Answer) → out ≡ outcome.Done given → IsActRecorded records execution a out → HasAnswerOf records execution a (Ok given)
done_recorded records execution a out given is h = elim h [
  | inl answered ↦ subst (λ (o : Outcome). HasAnswerOf records execution a (answer_given o)) is answered
  | inr none ↦ let clash : outcome.Done given ≡ outcome.Refused none.0 = sym is ∙ none.1 in cc
]

module _ {L B P H : Type 0} where
  -- a federate stays the same while it is joined, and is gone once it has resigned
  pub player_stays : (execution : List ℕ) (f : ℕ) (m : FederateCaller) (what : Deed) (out : Outcome) (p : Player L B P H) → DoesDeed m what out p → IsGoneBy what out p → (m.execution ≡ execution) × (m.federate ≡ f) → IsPlayerAs execution f p
  player_stays execution f m what out (player.Joined n) done gone was = (done.1.1 ∙ was.0, done.1.0 ∙ was.1)
  player_stays execution f m what out (player.Gone l) done gone was =
      let asked : Act = act.Step (step.Call m.federate (service.Resign gone.0)) in
      let told : HasTold m.caller m.execution asked out l.caller = subst (λ (d : Deed). HasDone m.caller m.execution m.federate d out l.caller) gone.1 done.0 in
      let answered = done_recorded l.caller.transcript m.execution asked out answer.Done gone.2 (told_recorded m.caller l.caller m.execution asked out told).1 in
      let own : IsResignedBy l.caller.transcript m.execution m.federate = (gone.0, answered) in
      subst (λ (n : ℕ). IsResignedBy l.caller.transcript execution n) was.1 (subst (λ (x : List ℕ). IsResignedBy l.caller.transcript x m.federate) was.0 own)

-- ---- outcomes by place
pub noted_cases : (xs : List (Option Outcome)) (i j : ℕ) (v o : Outcome) → slice_index_or (slice_set xs i (Some v)) j None ≡ Some o → (slice_index_or xs j None ≡ Some o) ⊎ ((i ≡ j) × (v ≡ o))
noted_cases [] i j v o is = inl is
noted_cases (x ∷ xs) zero zero v o is = inr (refl, cc)
noted_cases (x ∷ xs) zero (suc j) v o is = inl is
noted_cases (x ∷ xs) (suc i) zero v o is = inl is
noted_cases (x ∷ xs) (suc i) (suc j) v o is = elim (noted_cases xs i j v o is) [ inl before ↦ inl before | inr now ↦ inr (ap (λ n. suc n) now.0, now.1) ]

pub noted_same : (xs : List (Option Outcome)) (i : ℕ) (v o : Outcome) → slice_index_or (slice_set xs i (Some v)) i None ≡ Some o → v ≡ o
noted_same [] i v o is = absurd (cc)
noted_same (x ∷ xs) zero v o is = cc
noted_same (x ∷ xs) (suc i) v o is = noted_same xs i v o is

pub noted_first : (t : LineOutcome) (place : ℕ) (o : Outcome) → t.place ≡ place → t.outcome ≡ o → t ≡ record { place = place; outcome = o }
noted_first t place o at is =
    let first : t ≡ record { place = place; outcome = t.outcome } = ap (λ (n : ℕ). let x : LineOutcome = record { place = n; outcome = t.outcome } in x) at in
    first ∙ ap (λ (y : Outcome). let x : LineOutcome = record { place = place; outcome = y } in x) is

abbrev pub untold : Option Outcome
untold = None

pub none_at : (n place : ℕ) → slice_index_or (replicate n untold) place untold ≡ untold
none_at zero place = refl
none_at (suc n) zero = refl
none_at (suc n) (suc place) = none_at n place

module _ (c : CatalogueValue) (lines : List Line) (history : List Record) (stranger : List ℕ → Bool) where
  pub noted_recorded : (outcomes : List (Option Outcome)) (t : LineOutcome) → AreOutcomesRecorded c lines history stranger outcomes → IsTellingRecorded c lines history stranger t
      → AreOutcomesRecorded c lines history stranger (with_line_noted outcomes t)
  noted_recorded outcomes t before telling = λ place l o at is.
      elim (noted_cases outcomes t.place place t.outcome o is) [
        | inl old ↦ before place l o at old
        | inr now ↦ subst (λ (x : Outcome). IsLineRecorded c history stranger l.command x) now.1 (telling l (ap (λ n. slice_get lines n) now.0 ∙ at))
      ]

  pub all_noted_recorded : (told : List LineOutcome) (outcomes : List (Option Outcome)) → AreOutcomesRecorded c lines history stranger outcomes → AreTellingsRecorded c lines history stranger told
      → AreOutcomesRecorded c lines history stranger (with_lines_noted outcomes told)
  all_noted_recorded [] outcomes before tellings = before
  all_noted_recorded (t ∷ ts) outcomes before tellings =
      all_noted_recorded ts (with_line_noted outcomes t) (noted_recorded outcomes t before (tellings 0 t (omega arith))) (λ k d below. tellings (suc k) d (omega (arith, below)))

  pub blank_recorded : (n : ℕ) → AreOutcomesRecorded c lines history stranger (replicate n None)
  blank_recorded n = λ place l o at is. let none = none_at n place in absurd (cc)

-- what is noted of one more line
pub kept_noted : (lines : List Line) (stranger : List ℕ → Bool) (old mid new : List (Option Outcome)) (t : LineOutcome) → KeepsRecorded lines stranger old mid → new ≡ with_line_noted mid t
    → ((c : CatalogueValue) (history : List Record) → IsTellingRecorded c lines history stranger t) → KeepsRecorded lines stranger old new
kept_noted lines stranger old mid new t before noted telling = λ c history recorded.
    subst (λ (os : List (Option Outcome)). AreOutcomesRecorded c lines history stranger os) (sym noted) (noted_recorded c lines history stranger mid t (before c history recorded) (telling c history))

-- the same, by what the infrastructure did itself
module _ (lines : List Line) (own_old own_new : Caller) (grown : HasExtended own_old own_new) (old mid new : List (Option Outcome)) (before : KeepsOffice lines own_old old mid) where
  pub office_noted : (t : LineOutcome) (l : Line) → slice_get lines t.place ≡ Some l → new ≡ with_line_noted mid t → IsOfficeLine own_new l.command t.outcome → KeepsOffice lines own_new old new
  office_noted t l at noted told = λ c history stranger within recorded.
      let kept = before c history stranger (λ r there. within r (grown_within own_old own_new grown r there)) recorded in
      let telling : IsTellingRecorded c lines history stranger t = λ m found.
      subst (λ (x : Line). IsLineRecorded c history stranger x.command t.outcome) (same_line lines t.place l m at found) (line_in c history own_new.transcript stranger l.command t.outcome within (told c stranger)) in
      subst (λ (os : List (Option Outcome)). AreOutcomesRecorded c lines history stranger os) (sym noted) (noted_recorded c lines history stranger mid t kept telling)

  pub office_same : new ≡ mid → KeepsOffice lines own_new old new
  office_same same = λ c history stranger within recorded.
      let kept = before c history stranger (λ r there. within r (grown_within own_old own_new grown r there)) recorded in
      subst (λ (os : List (Option Outcome)). AreOutcomesRecorded c lines history stranger os) (sym same) kept

pub kept_same : (lines : List Line) (stranger : List ℕ → Bool) (old mid new : List (Option Outcome)) → KeepsRecorded lines stranger old mid → new ≡ mid → KeepsRecorded lines stranger old new
kept_same lines stranger old mid new before same = λ c history recorded. subst (λ (os : List (Option Outcome)). AreOutcomesRecorded c lines history stranger os) (sym same) (before c history recorded)

-- ---- what is left behind
-- what holds of all callers that left something behind
left_of : (old mid new : List Leaver) (first second : Leaver) (c : Caller) → mid ≡ old ++ first ∷ [] → new ≡ mid ++ second ∷ [] → first.caller ≡ c → (P : Caller → Type 0) → All (λ (l : Leaver). P l.caller) new → All (λ (l : Leaver). P l.caller) old × P c
left_of old mid new first second c one two own P all =
    let OfLeaver : Leaver → Type 0 = λ (l : Leaver). P l.caller in
    let both : All OfLeaver (mid ++ second ∷ []) = subst (λ (ls : List Leaver). All OfLeaver ls) two all in
    let before : All OfLeaver mid = λ k d below. All-contains OfLeaver (mid ++ second ∷ []) (get_or mid k d) both (Contains-append_left mid (second ∷ []) (get_or mid k d) (Contains-get_or mid k d below)) in
    let some : All OfLeaver (old ++ first ∷ []) = subst (λ (ls : List Leaver). All OfLeaver ls) one before in (
      λ k d below. All-contains OfLeaver (old ++ first ∷ []) (get_or old k d) some (Contains-append_left old (first ∷ []) (get_or old k d) (Contains-get_or old k d below)),
      subst P own (All-contains OfLeaver (old ++ first ∷ []) first some (Contains-push old first)),
    )

left_behind : (old mid new : List Leaver) (first second : Leaver) (c : Caller) → mid ≡ old ++ first ∷ [] → new ≡ mid ++ second ∷ [] → first.caller ≡ c → LeavesBehind old c new
left_behind old mid new first second c one two own = λ history. (
  left_of old mid new first second c one two own (λ (x : Caller). IsTranscriptIn history x.transcript),
  left_of old mid new first second c one two own (λ (x : Caller). Agrees history x),
)

pub pair_behind : (old new : List Leaver) (c : Caller) → LeavesPair old c new → LeavesBehind old c new
pair_behind old new c pair = left_behind old (old ++ pair.0 ∷ []) new pair.0 pair.1 c refl pair.2 pair.3

module _ {L B P H : Type 0} where
  pub gathered_more : (lives : List (Life L B P H)) (life : Life L B P H) (some all : List Leaver) (old mid new : List (Option Outcome)) → GathersRecorded lives some old mid → new ≡ with_lines_noted mid life.told.items
      → LeavesBehind some (caller_of life.player) all → GathersRecorded (lives ++ life ∷ []) all old new
  gathered_more lives life some all old mid new before noted behind = λ c lines execution history stranger recorded joined lefts outcomes.
      let left = (behind history).0 lefts in
      let Recorded : Life L B P H → Type 0 = IsLifeRecorded c lines execution in
      let Joined : Life L B P H → Type 0 = λ (x : Life L B P H). HasJoined history execution x.name x.number in
      let others : All Recorded lives = λ k d below. All-contains Recorded (lives ++ life ∷ []) (get_or lives k d) recorded (Contains-append_left lives (life ∷ []) (get_or lives k d) (Contains-get_or lives k d below)) in
      let others_joined : All Joined lives = λ k d below. All-contains Joined (lives ++ life ∷ []) (get_or lives k d) joined (Contains-append_left lives (life ∷ []) (get_or lives k d) (Contains-get_or lives k d below)) in
      let own : Recorded life = All-contains Recorded (lives ++ life ∷ []) life recorded (Contains-push lives life) in
      let own_joined : Joined life = All-contains Joined (lives ++ life ∷ []) life joined (Contains-push lives life) in
      let so_far = before c lines execution history stranger others others_joined left.0 outcomes in
      let tellings = tellings_named c lines history (caller_of life.player).transcript stranger execution life.number life.name life.told.items own_joined left.1 own.1 in
      subst (λ (os : List (Option Outcome)). AreOutcomesRecorded c lines history stranger os) (sym noted) (all_noted_recorded c lines history stranger life.told.items mid so_far tellings)

  pub gathered_all_of : (some all : List (Life L B P H)) (lefts : List Leaver) (old new : List (Option Outcome)) → some ≡ all → GathersRecorded some lefts old new → GathersRecorded all lefts old new
  gathered_all_of some all lefts old new same h = subst (λ (ls : List (Life L B P H)). GathersRecorded ls lefts old new) same h

  -- a life that tells nothing yet
  pub fresh_recorded : (c : CatalogueValue) (lines : List Line) (execution : List ℕ) (life : Life L B P H) → IsFresh execution life → IsLifeRecorded c lines execution life
  fresh_recorded c lines execution life fresh = (
    fresh.0,
    subst (λ (told : List LineOutcome). AreOwnTellings c lines (caller_of life.player).transcript execution life.number life.name told) (sym fresh.1) (λ k d below. absurd (omega (arith, below))),
    inr (subst (λ (told : List LineOutcome). AreAnsweredInTurn c lines [] execution life.number life.name (caller_of life.player).transcript told) (sym fresh.1) fresh.2),
  )

  -- ---- who has joined
  pub fresh_more : (execution : List ℕ) (lives : List (Life L B P H)) (life : Life L B P H) → AreFresh execution lives → IsFresh execution life → AreFresh execution (lives ++ life ∷ [])
  fresh_more execution lives life before fresh = All-push (IsFresh execution) lives life before fresh

  pub joined_in : (history records : List Record) (execution : List ℕ) (lives : List (Life L B P H)) → IsTranscriptIn history records → AreJoined records execution lives → AreJoined history execution lives
  joined_in history records execution lives within h = λ k d below.
      let life = get_or lives k d in
      answer_in history records execution (act.Step (step.Join life.name)) (Ok (answer.Federate life.number)) within (h k d below)

  pub joined_more : (records : List Record) (execution : List ℕ) (lives : List (Life L B P H)) (life : Life L B P H) → AreJoined records execution lives → HasJoined records execution life.name life.number → AreJoined records execution (lives ++ life ∷ [])
  joined_more records execution lives life before own = All-push (λ (x : Life L B P H). HasJoined records execution x.name x.number) lives life before own

  -- the lives of the same federates
  pub joined_same : (records : List Record) (execution : List ℕ) (old new : Life L B P H) → IsLifeOf old new → HasJoined records execution old.name old.number → HasJoined records execution new.name new.number
  joined_same records execution old new same h =
      subst (λ (n : ℕ). HasJoined records execution new.name n) (sym same.1) (subst (λ (name : List ℕ). HasJoined records execution name old.number) (sym same.0) h)
