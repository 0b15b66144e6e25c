-- What a federate does is answered by records of its own, in turn.
use Rattle.std.proofs.Common.{◌≡◌, ℕ, suc, ◌<◌, ◌+◌, List, [], ◌∷◌, ◌++◌, length, true, Option, None, Some, Result, Ok, ◌⊎◌, inl, inr, refl, sym, ap, subst, ◌∙◌, arith, below_more, length-append}
use Rattle.std.specs.Prelude.{slice_get}
use Rattle.std.specs.List.{Contains}
use Rattle.std.proofs.lemmas.List.{append-nil, append_assoc}
use Rattle.std.proofs.lemmas.List.Elements.{All-push, Contains-append_left, Contains-append_right, Contains-push}
use Rattle.hla_base.specs.declared.fault.Fault.{Fault}
use Rattle.hla_catalogue.specs.CatalogueValue.{CatalogueValue}
use Rattle.hla_commands.specs.declared.lines.Call.{Call}
use Rattle.hla_commands.specs.declared.lines.Command.TheVariants as command
use Rattle.hla_commands.specs.declared.lines.Line.{Line}
use Rattle.hla_machine.specs.declared.service.Service.{Service}
use Rattle.hla_machine.specs.declared.step.Act.{Act}
use Rattle.hla_machine.specs.declared.step.Act.TheVariants as act
use Rattle.hla_machine.specs.declared.step.Answer.{Answer}
use Rattle.hla_machine.specs.declared.step.Answer.TheVariants as answer
use Rattle.hla_machine.specs.declared.step.Outcome.{Outcome}
use Rattle.hla_machine.specs.declared.step.Outcome.TheVariants as outcome
use Rattle.hla_machine.specs.declared.step.Record.{Record}
use Rattle.hla_machine.specs.declared.step.Step.TheVariants as step
use Rattle.hla_requests.specs.Requests.{service_of}
use Rattle.hla_callers.specs.Callers.{Caller, FederateCaller, HasAnswered, answer_given}
use Rattle.hla_players.specs.Deeds.{HasTold, DoesDeed, IsDeedOf, caller_of}
use Rattle.hla_players.specs.declared.player.Deed.{Deed}
use Rattle.hla_players.specs.declared.player.Deed.TheVariants as deed
use Rattle.hla_players.specs.declared.player.Player.{Player}
use Rattle.hla_players.proofs.DeedLemmas.{answer_told}
use Rattle.hla_outcomes.specs.declared.outcomes.LineOutcome.{LineOutcome}
use Rattle.hla_run.specs.Recorded.{act_of_call, AddsAct, AddsCall, AddsTicks, AreAnsweredInTurn, AreEmptyTicks, ArePlacesBelow, ArePlacesRising, AreSpent, AreToldBelow, GivesUpLast, HasExtended, IsAnswerTo, IsCallAt, IsCallRecorded, IsRecordOf, IsToldTo, IsUnmade}
use Rattle.hla_run.specs.declared.life.Life.{Life}

-- ---- in turn, where a call adds records
module _ (c : CatalogueValue) (lines : List Line) (execution : List ℕ) (f : ℕ) (name : List ℕ) (t : LineOutcome) (call : Call) (at : IsCallAt lines t.place name call) where
  -- what is told before stays, where more records come behind
  told_before : (u : LineOutcome) (us : List LineOutcome) (before records more : List Record)
      → ((past rest : List Record) → past ++ rest ≡ before ++ records → AreAnsweredInTurn c lines past execution f name rest us → AreAnsweredInTurn c lines past execution f name (rest ++ more) (us ++ t ∷ [])) → AreAnsweredInTurn c lines before execution f name records (u ∷ us)
      → AreAnsweredInTurn c lines before execution f name (records ++ more) (u ∷ (us ++ t ∷ []))
  told_before u us before records more again h = (
    h.0,
    h.1,
    h.2,
    h.3,
    elim h.4 [
      | inl made ↦
          let own = h.1 ++ made.0 ∷ [] in
          let all : (before ++ own) ++ made.1 ≡ before ++ records = append_assoc before own made.1 ∙ ap (λ (rs : List Record). before ++ rs) (append_assoc h.1 (made.0 ∷ []) made.1 ∙ sym made.2) in
          inl (made.0, made.1 ++ more, ap (λ (rs : List Record). rs ++ more) made.2 ∙ append_assoc h.1 (made.0 ∷ made.1) more, made.3, made.4, again (before ++ own) made.1 all made.5)
      | inr none ↦
          let all : (before ++ h.1) ++ none.0 ≡ before ++ records = append_assoc before h.1 none.0 ∙ ap (λ (rs : List Record). before ++ rs) (sym none.1) in
          inr (none.0 ++ more, ap (λ (rs : List Record). rs ++ more) none.1 ∙ append_assoc h.1 none.0 more, none.2, again (before ++ h.1) none.0 all none.3)
    ],
  )

  module _ (spent : List Record) (is_spent : AreSpent c execution f call spent) where
    turn_answered : (r : Record) (before records : List Record) (told : List LineOutcome) → IsAnswerTo c execution f call (answer_given t.outcome) r → GivesUpLast c call t.outcome spent → AreAnsweredInTurn c lines before execution f name records told
        → AreAnsweredInTurn c lines before execution f name (records ++ (spent ++ r ∷ [])) (told ++ t ∷ [])
    turn_answered r before records [] own last h = (call, spent, at, is_spent, inl (r, [], ap (λ (rs : List Record). rs ++ (spent ++ r ∷ [])) h, own, last, refl))
    turn_answered r before records (u ∷ us) own last h = told_before u us before records (spent ++ r ∷ []) (λ past rest same so_far. turn_answered r past rest us own last so_far) h

    -- by the records until then, which are all that the caller has
    turn_unmade : (before records : List Record) (told : List LineOutcome) → IsUnmade c ((before ++ records) ++ spent) execution f call t.outcome → AreAnsweredInTurn c lines before execution f name records told
        → AreAnsweredInTurn c lines before execution f name (records ++ spent) (told ++ t ∷ [])
    turn_unmade before records [] unmade h =
        let here : (before ++ records) ++ spent ≡ before ++ spent = append_assoc before records spent ∙ ap (λ (rs : List Record). before ++ (rs ++ spent)) h in
        (call, spent, at, is_spent, inr ([], ap (λ (rs : List Record). rs ++ spent) h ∙ sym (append-nil spent), subst (λ (rs : List Record). IsUnmade c rs execution f call t.outcome) here unmade, refl))
    turn_unmade before records (u ∷ us) unmade h =
        told_before u us before records spent (λ past rest same so_far. turn_unmade past rest us (subst (λ (rs : List Record). IsUnmade c (rs ++ spent) execution f call t.outcome) (sym same) unmade) so_far) h

-- one line more, by what its call has added
pub turn_added : (c : CatalogueValue) (lines : List Line) (execution : List ℕ) (f : ℕ) (name : List ℕ) (old new : Caller) (told : List LineOutcome) (t : LineOutcome) (call : Call) → AreAnsweredInTurn c lines [] execution f name old.transcript told
    → IsCallAt lines t.place name call → AddsCall c execution f call t.outcome old new → AreAnsweredInTurn c lines [] execution f name new.transcript (told ++ t ∷ [])
turn_added c lines execution f name old new told t call before at adds =
    let InTurn : List Record → Type 0 = λ rs. AreAnsweredInTurn c lines [] execution f name rs (told ++ t ∷ []) in
    elim adds.2 [
      | inl made ↦ subst InTurn (sym made.1) (turn_answered c lines execution f name t call at adds.0 adds.1 made.0 [] old.transcript told made.2 made.3 before)
      | inr none ↦
          let unmade : IsUnmade c (old.transcript ++ adds.0) execution f call t.outcome = subst (λ (rs : List Record). IsUnmade c rs execution f call t.outcome) none.0 none.1 in
          subst InTurn (sym none.0) (turn_unmade c lines execution f name t call at adds.0 adds.1 [] old.transcript told unmade before)
    ]

-- ---- what an act has added
pub added_told : (old new : Caller) (execution : List ℕ) (a : Act) (out : Outcome) → HasTold old execution a out new → AddsAct execution a out [] old new
added_told old new execution a out told = elim told [
  | inl acted ↦
      let own : Record = record { actor = old.number; execution = execution; act = a; outcome = acted.0; choice = acted.2.0 } in
      inl (own, ap (λ (x : Caller). x.transcript) acted.2.1, (refl, refl, sym acted.1))
  | inr none ↦ inr (ap (λ (x : Caller). x.transcript) none.2.1 ∙ sym (append-nil old.transcript), (none.0, none.1, none.2.0))
]

pub added_tick : (m new : FederateCaller) (given : Result Answer Fault) (out : Outcome) → HasAnswered m.caller m.execution (act.Step (step.Tick m.federate)) given new.caller → answer_given out ≡ given
    → AddsAct m.execution (act.Step (step.Tick m.federate)) out [] m.caller new.caller
added_tick m new given out answered told = added_told m.caller new.caller m.execution (act.Step (step.Tick m.federate)) out (answer_told m.caller new.caller m.execution (act.Step (step.Tick m.federate)) given out answered told)

pub added_act_of : (e execution : List ℕ) (f g : ℕ) (out : Outcome) (old new : Caller) → e ≡ execution → f ≡ g → AddsAct e (act.Step (step.Tick f)) out [] old new → AddsAct execution (act.Step (step.Tick g)) out [] old new
added_act_of e execution f g out old new same number h =
    subst (λ (n : ℕ). AddsAct execution (act.Step (step.Tick n)) out [] old new) number (subst (λ (x : List ℕ). AddsAct x (act.Step (step.Tick f)) out [] old new) same h)

-- behind what was spent before
pub added_behind : (old mid new : Caller) (execution : List ℕ) (a : Act) (out : Outcome) (spent : List Record) → mid.transcript ≡ old.transcript ++ spent → AddsAct execution a out [] mid new → AddsAct execution a out spent old new
added_behind old mid new execution a out spent is adds = elim adds [
  | inl own ↦ inl (own.0, own.1 ∙ ap (λ (rs : List Record). rs ++ own.0 ∷ []) is ∙ append_assoc old.transcript spent (own.0 ∷ []), own.2)
  | inr none ↦ inr (none.0 ∙ append-nil mid.transcript ∙ is, none.1)
]

-- one tick with nothing more is spent
pub spent_more : (old mid new : Caller) (execution : List ℕ) (f n : ℕ) (spent : List Record) → AreEmptyTicks execution f spent → length spent ≡ n → mid.transcript ≡ old.transcript ++ spent
    → AddsAct execution (act.Step (step.Tick f)) (outcome.Done (answer.Ticked None)) [] mid new → (more : List Record) × AreEmptyTicks execution f more × (length more ≡ n + 1) × (new.transcript ≡ old.transcript ++ more)
spent_more old mid new execution f n spent empty many is adds = elim adds [
  | inl own ↦
      let last = length-append spent (own.0 ∷ []) in (
        spent ++ own.0 ∷ [],
        All-push (IsRecordOf execution (act.Step (step.Tick f)) (Ok (answer.Ticked None))) spent own.0 empty own.2,
        omega (arith, last, many),
        own.1 ∙ ap (λ (rs : List Record). rs ++ own.0 ∷ []) is ∙ append_assoc old.transcript spent (own.0 ∷ []),
      )
  | inr none ↦ let clash : outcome.Done (answer.Ticked None) ≡ outcome.Refused none.1.0 = none.1.1 in absurd (cc)
]

pub added_call_of : (c : CatalogueValue) (e execution : List ℕ) (f g : ℕ) (call : Call) (out : Outcome) (old new : Caller) → e ≡ execution → f ≡ g → AddsCall c e f call out old new → AddsCall c execution g call out old new
added_call_of c e execution f g call out old new same number h =
    subst (λ (n : ℕ). AddsCall c execution n call out old new) number (subst (λ (x : List ℕ). AddsCall c x f call out old new) same h)

added_asked : (c : CatalogueValue) (execution : List ℕ) (f : ℕ) (call : Call) (asked : Option Service) (out : Outcome) (spent : List Record) (old new : Caller) → service_of c call ≡ Ok asked → AreSpent c execution f call spent → GivesUpLast c call out spent
    → AddsAct execution (act_of_call asked f) out spent old new → AddsCall c execution f call out old new
added_asked c execution f call asked out spent old new asks is_spent last adds = (
  spent,
  is_spent,
  elim adds [
    | inl own ↦ inl (own.0, own.1, (asked, asks, own.2), last)
    | inr none ↦ inr (none.0, (none.1.0, none.1.1, elim none.1.2 [ inl full ↦ inr (inl full) | inr memory ↦ inr (inr (inl memory)) ]))
  ],
)

pub nothing_spent : (c : CatalogueValue) (execution : List ℕ) (f : ℕ) (call : Call) → AreSpent c execution f call []
nothing_spent c execution f call = (λ k d below. absurd (omega (arith, below)), inl refl)

pub added_ticks : (c : CatalogueValue) (execution : List ℕ) (f : ℕ) (call : Call) (out : Outcome) (old new : Caller) → service_of c call ≡ Ok None → AddsTicks execution f out old new → AddsCall c execution f call out old new
added_ticks c execution f call out old new asks adds = added_asked c execution f call None out adds.0 old new asks (adds.1, inr (asks, adds.2)) (λ ticks. adds.3) adds.4

module _ {L B P H : Type 0} where
  pub added_deed : (c : CatalogueValue) (call : Call) (m : FederateCaller) (d : Deed) (out : Outcome) (p : Player L B P H) → (d ≡ deed.Tick → ⊥) → IsDeedOf c call d → DoesDeed m d out p → AddsCall c m.execution m.federate call out m.caller (caller_of p)
  added_deed c call m deed.Tick out p other asks done = absurd (other refl)
  added_deed c call m (deed.Serve s) out p other asks done =
      let last : GivesUpLast c call out [] = λ ticks. (let clash : Ok None ≡ Ok (Some s) = sym ticks ∙ asks in absurd (cc)) in
      added_asked c m.execution m.federate call (Some s) out [] m.caller (caller_of p) asks (nothing_spent c m.execution m.federate call) last (added_told m.caller (caller_of p) m.execution _ out done.0)
  added_deed c call m (deed.Refused e) out p other asks done = (
    [],
    nothing_spent c m.execution m.federate call,
    inr (ap (λ (x : Caller). x.transcript) done.0.1 ∙ sym (append-nil m.caller.transcript), (e, done.0.0, elim asks [ inl unknown ↦ inl unknown | inr memory ↦ inr (inr (inl memory)) ])),
  )

-- what a call has added answers it, among all that its caller has then
pub added_recorded : (c : CatalogueValue) (execution : List ℕ) (f : ℕ) (call : Call) (out : Outcome) (old new : Caller) → AddsCall c execution f call out old new → HasExtended old new × IsCallRecorded c new.transcript execution f call out
added_recorded c execution f call out old new adds = elim adds.2 [
  | inl made ↦
      let r : Record = made.0 in
      let there = subst (λ (rs : List Record). Contains rs r) (sym made.1) (Contains-append_right old.transcript (adds.0 ++ r ∷ []) r (Contains-push adds.0 r)) in
      ((adds.0 ++ r ∷ [], made.1), inl (record { asked = made.2.0; asks = made.2.1; answered = record { found = r; there = there; inside = made.2.2.0; acts = made.2.2.1; answers = made.2.2.2 } }))
  | inr none ↦ ((adds.0, none.0), inr none.1)
]

-- ---- lines one after another
pub rising_more : (told : List LineOutcome) (t : LineOutcome) → ArePlacesRising told → ArePlacesBelow t.place told → ArePlacesRising (told ++ t ∷ [])
rising_more [] t rising below = (λ k d within. absurd (omega (arith, within)), tt)
rising_more (u ∷ us) t rising below = (All-push (λ (v : LineOutcome). u.place < v.place) us t rising.0 (below 0 u (omega arith)), rising_more us t rising.1 (λ k d within. below (suc k) d (omega (arith, within))))

pub below_next : (place : ℕ) (told : List LineOutcome) → ArePlacesBelow place told → ArePlacesBelow (place + 1) told
below_next place told below = λ k d within. omega (arith, below k d within)

told_next : (lines : List Line) (name : List ℕ) (place : ℕ) (told : List LineOutcome) → AreToldBelow lines name place told → ((l : Line) (call : Call) → slice_get lines place ≡ Some l → l.command ≡ command.Federate name call → (t : LineOutcome) × Contains told t × (t.place ≡ place))
    → AreToldBelow lines name (place + 1) told
told_next lines name place told before here = λ at l call within found is.
    let Told : ℕ → Type 0 = λ (p : ℕ). (m : Line) (asked : Call) → slice_get lines p ≡ Some m → m.command ≡ command.Federate name asked → (t : LineOutcome) × Contains told t × (t.place ≡ p) in
    below_more Told place (λ p below m asked. before p m asked below) here at within l call found is

module _ {L B P H : Type 0} where
  -- a line that is not the federate's
  pub told_past : (lines : List Line) (place : ℕ) (life : Life L B P H) → ((l : Line) (call : Call) → slice_get lines place ≡ Some l → l.command ≡ command.Federate life.name call → ⊥) → IsToldTo lines place life → IsToldTo lines (place + 1) life
  told_past lines place life other h = (
    h.0,
    below_next place life.told.items h.1,
    elim h.2 [
      | inl lacks ↦ inl lacks
      | inr before ↦ inr (told_next lines life.name place life.told.items before (λ l call found is. absurd (other l call found is)))
    ],
  )

  -- one that it told, or for which memory lacked
  pub told_one : (lines : List Line) (place : ℕ) (old new : Life L B P H) (t : LineOutcome) → t.place ≡ place → new.name ≡ old.name → (new.told.items ≡ old.told.items ++ t ∷ []) ⊎ ((new.told.items ≡ old.told.items) × (new.lacks_memory ≡ true))
      → (old.lacks_memory ≡ true → new.lacks_memory ≡ true) → IsToldTo lines place old → IsToldTo lines (place + 1) new
  told_one lines place old new t here same (inl more) lacks h =
      let told = old.told.items ++ t ∷ [] in
      let below = subst (λ (p : ℕ). ArePlacesBelow p old.told.items) (sym here) h.1 in
      let rising = rising_more old.told.items t h.0 below in
      let all : ArePlacesBelow (place + 1) told = All-push (λ (u : LineOutcome). u.place < place + 1) old.told.items t (below_next place old.told.items h.1) (omega (arith, here)) in (
        subst ArePlacesRising (sym more) rising,
        subst (λ (ts : List LineOutcome). ArePlacesBelow (place + 1) ts) (sym more) all,
        elim h.2 [
          | inl lacking ↦ inl (lacks lacking)
          | inr before ↦
              let kept : AreToldBelow lines old.name place told = λ p l call within found is.
              let u = before p l call within found is in
              (u.0, Contains-append_left old.told.items (t ∷ []) u.0 u.1, u.2) in
              let next = told_next lines old.name place told kept (λ l call found is. (t, Contains-push old.told.items t, here)) in
              inr (subst (λ (n : List ℕ). AreToldBelow lines n (place + 1) new.told.items) (sym same) (subst (λ (ts : List LineOutcome). AreToldBelow lines old.name (place + 1) ts) (sym more) next))
        ],
      )
  told_one lines place old new t here same (inr none) lacks h = (
    subst ArePlacesRising (sym none.0) h.0,
    subst (λ (ts : List LineOutcome). ArePlacesBelow (place + 1) ts) (sym none.0) (below_next place old.told.items h.1),
    inl none.1,
  )

  -- none before the first line
  pub told_first : (lines : List Line) (life : Life L B P H) → life.told.items ≡ [] → IsToldTo lines 0 life
  told_first lines life none = (
    subst ArePlacesRising (sym none) tt,
    subst (λ (ts : List LineOutcome). ArePlacesBelow 0 ts) (sym none) (λ k d within. absurd (omega (arith, within))),
    inr (λ place l call within found is. absurd (omega (arith, within))),
  )
