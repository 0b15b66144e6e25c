-- What is told of a federate's lines is answered in turn, through what all leave behind.
use Rattle.std.proofs.Common.{◌≡◌, ℕ, zero, suc, ◌<◌, List, [], ◌∷◌, ◌++◌, length, get_or, true, false, Option, None, Some, ◌⊎◌, inl, inr, sym, ap, subst, ◌∙◌, arith}
use Rattle.std.specs.Prelude.{◌||◌, codes, slice_index_or}
use Rattle.std.specs.List.{All, Contains}
use Rattle.std.specs.Str.{bytes_eq}
use Rattle.std.proofs.lemmas.Bool.{both_ways, cases_Bool, cases_eq, or_cases}
use Rattle.std.proofs.lemmas.Bool.Decides.{not_from_Decides}
use Rattle.std.proofs.lemmas.List.Elements.{All-contains, All-push, Contains-append_left, Contains-append_right, Contains-push, Contains-get_or}
use Rattle.std.proofs.lemmas.Option.{slice_get_within}
use Rattle.std.proofs.lemmas.Slice.Eq.{bytes_eq-Decides}
use Rattle.hla_catalogue.specs.CatalogueValue.{CatalogueValue}
use Rattle.hla_commands.specs.declared.lines.Command.TheVariants as command
use Rattle.hla_commands.specs.declared.lines.Line.{Line}
use Rattle.hla_machine.specs.declared.step.Outcome.{Outcome}
use Rattle.hla_machine.specs.declared.step.Record.{Record}
use Rattle.hla_callers.specs.Callers.{Caller, Leaver}
use Rattle.hla_callers.specs.Close.{Agrees}
use Rattle.hla_players.specs.Deeds.{caller_of}
use Rattle.hla_outcomes.specs.Running.{with_line_noted, with_lines_noted}
use Rattle.hla_outcomes.specs.declared.outcomes.LineOutcome.{LineOutcome}
use Rattle.hla_run.specs.Recorded.{GathersCallers, GathersInTurn, HasJoined, IsCallerInTurn, IsCallerKnown, IsLifeRecorded, IsNameInTurn, IsOwnTelling, IsToldTo, LeavesBehind, LeavesPair, has_life}
use Rattle.hla_run.specs.declared.life.Life.{Life}
use Rattle.hla_run.proofs.RecordLemmas.{noted_cases, noted_first, noted_same, pair_behind}
use Rattle.hla_run.proofs.StrangerLemmas.{life_or}

-- ---- outcomes by place
first_or : (t u : LineOutcome) (ts : List LineOutcome) (k : ℕ) → k < length (t ∷ ts) → slice_index_or (t ∷ ts) k u ≡ u → (t ≡ u) ⊎ Contains ts u
first_or t u ts zero below is = inl is
first_or t u ts (suc k) below is = inr (k, omega arith, is)

none_more : (t : LineOutcome) (ts : List LineOutcome) (place : ℕ) → (t.place ≡ place → ⊥) → ((u : LineOutcome) → Contains ts u → u.place ≡ place → ⊥) → (u : LineOutcome) → Contains (t ∷ ts) u → u.place ≡ place → ⊥
none_more t ts place first others u there at = elim (first_or t u ts there.0 there.1 there.2) [
  | inl same ↦ first (ap (λ (x : LineOutcome). x.place) same ∙ at)
  | inr later ↦ others u later at
]

noted_all : (told : List LineOutcome) (outcomes : List (Option Outcome)) (place : ℕ) (o : Outcome) → slice_index_or (with_lines_noted outcomes told) place None ≡ Some o
    → Contains told (record { place = place; outcome = o }) ⊎ ((slice_index_or outcomes place None ≡ Some o) × ((t : LineOutcome) → Contains told t → t.place ≡ place → ⊥))
noted_all [] outcomes place o is = inr (is, λ t there at. absurd (omega (arith, there.1)))
noted_all (t ∷ ts) outcomes place o is = elim (noted_all ts (with_line_noted outcomes t) place o is) [
  | inl later ↦ inl (Contains-append_right (t ∷ []) ts (record { place = place; outcome = o }) later)
  | inr before ↦ elim (cases_eq t.place place) [
    | inl at ↦
        let noted : slice_index_or (with_line_noted outcomes t) t.place None ≡ Some o = subst (λ (n : ℕ). slice_index_or (with_line_noted outcomes t) n None ≡ Some o) (sym at) before.0 in
        inl (0, omega arith, noted_first t place o at (noted_same outcomes t.place t.outcome o noted))
    | inr other ↦ elim (noted_cases outcomes t.place place t.outcome o before.0) [
      | inl was ↦ inr (was, none_more t ts place other before.1)
      | inr now ↦ absurd (other now.0)
    ]
  ]
]

-- ---- what is left behind
module _ {L B P H : Type 0} where
  -- who has a name in more lives, and not the last
  life_before : (lives : List (Life L B P H)) (life : Life L B P H) (name : List ℕ) → bytes_eq life.name name ≡ false → has_life (lives ++ life ∷ []) name ≡ true → has_life lives name ≡ true
  life_before lives life name other has = elim (or_cases (has_life lives name) (bytes_eq life.name name || false) (sym (life_or lives life name) ∙ has)) [
    | inl before ↦ before
    | inr last ↦ elim (or_cases (bytes_eq life.name name) false last) [ inl same ↦ absurd (both_ways (bytes_eq life.name name) other same) | inr clash ↦ absurd (cc) ]
  ]

  -- the last life's own name
  -- what holds of all lives holds of those before the last, and of the last
  split_last : (Q : Life L B P H → Type 0) (lives : List (Life L B P H)) (life : Life L B P H) → All Q (lives ++ life ∷ []) → All Q lives × Q life
  split_last Q lives life all = (
    λ k d below. All-contains Q (lives ++ life ∷ []) (get_or lives k d) all (Contains-append_left lives (life ∷ []) (get_or lives k d) (Contains-get_or lives k d below)),
    All-contains Q (lives ++ life ∷ []) life all (Contains-push lives life),
  )

  own_caller : (c : CatalogueValue) (lines : List Line) (execution : List ℕ) (history : List Record) (life : Life L B P H) → execution ≡ codes "play" → life.lacks_memory ≡ false → Agrees history (caller_of life.player) → IsLifeRecorded c lines execution life
      → IsToldTo lines (length lines) life → HasJoined history execution life.name life.number → IsCallerInTurn c lines history life.name (caller_of life.player) life.told.items
  own_caller c lines execution history life named whole agrees recorded told joined = record {
    execution = execution;
    named = named;
    federate = life.number;
    joined = joined;
    agrees = agrees;
    rising = told.0;
    below = told.1;
    in_turn = elim recorded.2 [ inl lacks ↦ absurd (both_ways life.lacks_memory whole lacks) | inr own ↦ own ];
  }

  own_turn : (c : CatalogueValue) (lines : List Line) (history : List Record) (life : Life L B P H) (mid new : List (Option Outcome)) → new ≡ with_lines_noted mid life.told.items → life.lacks_memory ≡ false
      → IsCallerInTurn c lines history life.name (caller_of life.player) life.told.items → IsToldTo lines (length lines) life → IsNameInTurn c lines history new life.name
  own_turn c lines history life mid new noted whole own told = record {
    caller = caller_of life.player;
    told = life.told.items;
    own = own;
    tells = λ place l call o at is now.
        let here = subst (λ (os : List (Option Outcome)). slice_index_or os place None ≡ Some o) noted now in
        elim (noted_all life.told.items mid place o here) [
          | inl there ↦ there
          | inr none ↦ elim told.2 [
            | inl lacks ↦ absurd (both_ways life.lacks_memory whole lacks)
            | inr complete ↦ let one = complete place l call (slice_get_within lines place l at) at is in absurd (none.1 one.0 one.1 one.2)
          ]
        ];
  }

  -- another name
  other_turn : (c : CatalogueValue) (lines : List Line) (execution : List ℕ) (history : List Record) (life : Life L B P H) (mid new : List (Option Outcome)) (name : List ℕ) → new ≡ with_lines_noted mid life.told.items → bytes_eq life.name name ≡ false
      → IsLifeRecorded c lines execution life → IsNameInTurn c lines history mid name → IsNameInTurn c lines history new name
  other_turn c lines execution history life mid new name noted other recorded was = record {
    caller = was.caller;
    told = was.told;
    own = was.own;
    tells = λ place l call o at is now.
        let here = subst (λ (os : List (Option Outcome)). slice_index_or os place None ≡ Some o) noted now in
        elim (noted_all life.told.items mid place o here) [
          | inl there ↦
              let t : LineOutcome = record { place = place; outcome = o } in
              let own = All-contains (IsOwnTelling c lines (caller_of life.player).transcript execution life.number life.name) life.told.items t recorded.1 there in
              let clash : command.Federate life.name own.0 ≡ command.Federate name call = sym (own.1 l at) ∙ is in
              let same : life.name ≡ name = cc in
              absurd (not_from_Decides (bytes_eq life.name name) (bytes_eq-Decides life.name name) other same)
          | inr none ↦ was.tells place l call o at is none.0
        ];
  }

  pub turns_more : (lives : List (Life L B P H)) (life : Life L B P H) (some all : List Leaver) (mid new : List (Option Outcome)) → GathersInTurn lives some mid → new ≡ with_lines_noted mid life.told.items → life.lacks_memory ≡ false
      → LeavesBehind some (caller_of life.player) all → GathersInTurn (lives ++ life ∷ []) all new
  turns_more lives life some all mid new before noted whole behind = λ c lines execution history named recorded told joined lefts agree name has.
      let left = (behind history).0 lefts in
      let agreed = (behind history).1 agree in
      let records = split_last (IsLifeRecorded c lines execution) lives life recorded in
      let tells = split_last (IsToldTo lines (length lines)) lives life told in
      let joins = split_last (λ (x : Life L B P H). HasJoined history execution x.name x.number) lives life joined in
      elim (cases_Bool (bytes_eq life.name name)) [
        | inl same ↦
            let here = own_turn c lines history life mid new noted whole (own_caller c lines execution history life named whole agreed.1 records.1 tells.1 joins.1) tells.1 in
            subst (λ (n : List ℕ). IsNameInTurn c lines history new n) ((bytes_eq-Decides life.name name).0 same) here
        | inr other ↦
            let was = before c lines execution history named records.0 tells.0 joins.0 left.0 agreed.0 name (life_before lives life name other has) in
            other_turn c lines execution history life mid new name noted other records.1 was
      ]

  pub turns_of : (some all : List (Life L B P H)) (lefts : List Leaver) (new : List (Option Outcome)) → some ≡ all → GathersInTurn some lefts new → GathersInTurn all lefts new
  turns_of some all lefts new same h = subst (λ (ls : List (Life L B P H)). GathersInTurn ls lefts new) same h

  -- ---- whose records they are
  pub callers_more : (lives : List (Life L B P H)) (life : Life L B P H) (some all : List Leaver) → GathersCallers lives some → life.lacks_memory ≡ false → LeavesPair some (caller_of life.player) all → GathersCallers (lives ++ life ∷ []) all
  callers_more lives life some all before whole pair = λ c lines execution history named recorded told joined lefts agree.
      let behind = pair_behind some all (caller_of life.player) pair in
      let left = (behind history).0 lefts in
      let agreed = (behind history).1 agree in
      let records = split_last (IsLifeRecorded c lines execution) lives life recorded in
      let tells = split_last (IsToldTo lines (length lines)) lives life told in
      let joins = split_last (λ (x : Life L B P H). HasJoined history execution x.name x.number) lives life joined in
      let Known : Leaver → Type 0 = λ (l : Leaver). IsCallerKnown c lines history l.caller in
      let own : IsCallerKnown c lines history (caller_of life.player) = inl (life.name, life.told.items, own_caller c lines execution history life named whole agreed.1 records.1 tells.1 joins.1) in
      let first : Known pair.0 = subst (λ (x : Caller). IsCallerKnown c lines history x) (sym pair.3) own in
      let some_known : All Known some = before c lines execution history named records.0 tells.0 joins.0 left.0 agreed.0 in
      let second : Known pair.1 = inr pair.4 in
      subst (λ (ls : List Leaver). All Known ls) (sym pair.2) (All-push Known (some ++ pair.0 ∷ []) pair.1 (All-push Known some pair.0 some_known first) second)

  pub callers_of : (some all : List (Life L B P H)) (lefts : List Leaver) → some ≡ all → GathersCallers some lefts → GathersCallers all lefts
  callers_of some all lefts same h = subst (λ (ls : List (Life L B P H)). GathersCallers ls lefts) same h
