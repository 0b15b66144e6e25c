-- Records that replay tell each federate of each object in turn, also where an ambassador failed in a callback.
use Rattle.std.proofs.Common.{◌≡◌, ⊎_elim, inl, inr, ℕ, cond, Bool, true, false, List, [], ◌∷◌, ◌++◌, Option, Some, None, map, option_map, refl, sym, ap, subst, ◌∙◌}
use Rattle.std.specs.Str.{bytes_eq}
use Rattle.hla_base.specs.declared.fault.Fault.{Fault}
use Rattle.hla_callbacks.specs.declared.callback.Callback.{Callback}
use Rattle.hla_machine.specs.declared.step.Act.{Act}
use Rattle.hla_machine.specs.declared.step.Act.TheVariants as act
use Rattle.hla_machine.specs.declared.step.Answer.TheVariants as answer
use Rattle.hla_machine.specs.declared.step.Choice.{Choice}
use Rattle.hla_machine.specs.declared.step.Outcome.{Outcome}
use Rattle.hla_machine.specs.declared.step.Outcome.TheVariants as outcome
use Rattle.hla_machine.specs.declared.step.Record.{Record}
use Rattle.hla_machine.specs.declared.step.Step.{Step}
use Rattle.hla_machine.specs.declared.step.Step.TheVariants.{Join, Call, Carry, Announce, Tick}
use Rattle.hla_machine.specs.Central.{Central, new_central}
use Rattle.hla_machine.specs.Runs.{Happening, create_fault, destroy_fault}
use Rattle.hla_machine.specs.History.{GivesCallback}
use Rattle.hla_machine.specs.Discovered.{Discovers, IsDiscoveredAmong, HasDiscovered, IsDiscoveredInTurn}
use Rattle.hla_machine.specs.Projection.{Story, story_with, story_after, story_of}
use Rattle.hla_machine.specs.Histories.{AreDiscoveredInTurn}
use Rattle.hla_components.specs.CentralOf.{central}
use Rattle.hla_components.specs.Executions.{Federations, no_federations, central_executions, with_created, with_destroyed, ending_unless, next_act, after_record, AreNext}
use Rattle.hla_components.proofs.Discovered.Histories.{first_records, history_in_turn}
use Rattle.hla_history.specs.Closing.{Replays}
use Rattle.hla_history.specs.Heard.{given_outcome, given_record}

abbrev given_happening : Happening → Happening
given_happening h = record { step = h.step; outcome = given_outcome h.outcome; choice = h.choice }

abbrev given_story : Story → Story
given_story s = record { catalogue = s.catalogue; happenings = map given_happening s.happenings }

-- ---- whether the ambassador failed says nothing of what was given
gives_as_given : (step : Step) (out : Outcome) (f : ℕ) (k : Callback) → GivesCallback step out f k → GivesCallback step (given_outcome out) f k
gives_as_given step (outcome.Done a) f k g = g
gives_as_given step (outcome.Refused e) f k g = g
gives_as_given (Tick b) (outcome.Failed x) f k g = g
gives_as_given (Join name) (outcome.Failed x) f k g = g
gives_as_given (Call b s) (outcome.Failed x) f k g = g
gives_as_given (Carry a b) (outcome.Failed x) f k g = g
gives_as_given (Announce b) (outcome.Failed x) f k g = g

gave : (step : Step) (out : Outcome) (f : ℕ) (k : Callback) → GivesCallback step (given_outcome out) f k → GivesCallback step out f k
gave step (outcome.Done a) f k g = g
gave step (outcome.Refused e) f k g = g
gave (Tick b) (outcome.Failed x) f k g = g
gave (Join name) (outcome.Failed x) f k g = g
gave (Call b s) (outcome.Failed x) f k g = g
gave (Carry a b) (outcome.Failed x) f k g = g
gave (Announce b) (outcome.Failed x) f k g = g

discovers_as_given : (h : Happening) (f object : ℕ) → Discovers h f object → Discovers (given_happening h) f object
discovers_as_given h f object d = record { class = d.class; name = d.name; gives = gives_as_given h.step h.outcome f _ d.gives }

discovered : (h : Happening) (f object : ℕ) → Discovers (given_happening h) f object → Discovers h f object
discovered h f object d = record { class = d.class; name = d.name; gives = gave h.step h.outcome f _ d.gives }

discovered_among : (hs : List Happening) (f object : ℕ) → IsDiscoveredAmong (map given_happening hs) f object → IsDiscoveredAmong hs f object
discovered_among [] f object d = d
discovered_among (h ∷ hs) f object (inl d) = inl (discovered h f object d)
discovered_among (h ∷ hs) f object (inr d) = inr (discovered_among hs f object d)

map_appended : (xs ys : List Happening) → map given_happening (xs ++ ys) ≡ map given_happening xs ++ map given_happening ys
map_appended [] ys = refl
map_appended (x ∷ xs) ys = ap (λ (hs : List Happening). given_happening x ∷ hs) (map_appended xs ys)

in_turn : (c : Central) (hs : List Happening) → IsDiscoveredInTurn c (map given_happening hs) → IsDiscoveredInTurn c hs
in_turn c hs is = record {
  first = λ before h rest f k object whole gives speaks. ⊎_elim
      (λ (has : HasDiscovered c f object). inl has)
      (λ (among : IsDiscoveredAmong (map given_happening before) f object). inr (discovered_among before f object among))
      (is.first (map given_happening before) (given_happening h) (map given_happening rest) f k object (cut before (h ∷ rest) whole) (as_given h f k gives) speaks);
  once = λ before h between i rest f object whole one other.
      is.once (map given_happening before) (given_happening h) (map given_happening between) (given_happening i) (map given_happening rest) f object
      (cut before (h ∷ (between ++ (i ∷ rest))) whole ∙ ap (λ (ys : List Happening). map given_happening before ++ (given_happening h ∷ ys)) (map_appended between (i ∷ rest)))
      (discovers_as_given h f object one) (discovers_as_given i f object other);
  never_again = λ before h rest f object whole has one.
      is.never_again (map given_happening before) (given_happening h) (map given_happening rest) f object (cut before (h ∷ rest) whole) has (discovers_as_given h f object one);
}
  where
    cut : (before rest : List Happening) → hs ≡ before ++ rest → map given_happening hs ≡ map given_happening before ++ map given_happening rest
    cut before rest whole = ap (map given_happening) whole ∙ map_appended before rest

    as_given : (h : Happening) (f : ℕ) (k : Callback) → GivesCallback h.step h.outcome f k → GivesCallback (given_happening h).step (given_happening h).outcome f k
    as_given h f k gives = gives_as_given h.step h.outcome f k gives

-- ---- stories
-- no creation and no destruction fails in a callback
no_callback : (f : Option Fault) (x y : Federations) (k : Callback) → outcome.Done (answer.Ticked (Some k)) ≡ (ending_unless f x y).outcome → ⊥
no_callback None x y k h = let wrong : outcome.Done (answer.Ticked (Some k)) ≡ outcome.Done answer.Done = h in cc
no_callback (Some e) x y k h = let wrong : outcome.Done (answer.Ticked (Some k)) ≡ outcome.Refused e = h in cc

with_given : (x : Federations) (name : List ℕ) (a : Act) (out : Outcome) (ch : Choice) (o : Option Story) → given_outcome out ≡ (next_act x name a).outcome
    → story_with (option_map given_story o) a (given_outcome out) ch ≡ option_map given_story (story_with o a out ch)
with_given x name (act.Create None) (outcome.Done a) ch o is = refl
with_given x name (act.Create (Some catalogue)) (outcome.Done a) ch o is = refl
with_given x name (act.Create None) (outcome.Refused e) ch o is = refl
with_given x name (act.Create (Some catalogue)) (outcome.Refused e) ch o is = refl
with_given x name (act.Create catalogue) (outcome.Failed k) ch o is = absurd (no_callback (create_fault (central_executions x) name catalogue) x (with_created x name catalogue) k is)
with_given x name act.Destroy (outcome.Done a) ch o is = refl
with_given x name act.Destroy (outcome.Refused e) ch o is = refl
with_given x name act.Destroy (outcome.Failed k) ch o is = absurd (no_callback (destroy_fault (option_map central (x.execution name))) x (with_destroyed x name) k is)
with_given x name (act.Step step) out ch None is = refl
with_given x name (act.Step step) out ch (Some s) is = ap (λ (hs : List Happening). let t : Story = record { catalogue = s.catalogue; happenings = hs } in Some t) (sym (map_appended s.happenings (record { step = step; outcome = out; choice = ch } ∷ [])))

one_given : (x : Federations) (r : Record) (name : List ℕ) (o : Option Story) → given_outcome r.outcome ≡ (next_act x r.execution r.act).outcome
    → story_after name (option_map given_story o) (given_record r) ≡ option_map given_story (story_after name o r)
one_given x r name o is = either (bytes_eq r.execution name) (story_with (option_map given_story o) r.act (given_outcome r.outcome) r.choice) (story_with o r.act r.outcome r.choice) (with_given x r.execution r.act r.outcome r.choice o is)
  where
    either : (b : Bool) (p q : Option Story) → p ≡ option_map given_story q → cond b p (option_map given_story o) ≡ option_map given_story (cond b q o)
    either true p q e = e
    either false p q e = refl

stories_given : (x : Federations) (rs : List Record) (y : Federations) (name : List ℕ) (o : Option Story) → AreNext x (map given_record rs) y
    → story_of name (option_map given_story o) (map given_record rs) ≡ option_map given_story (story_of name o rs)
stories_given x [] y name o next = refl
stories_given x (r ∷ rs) y name o next =
    ap (λ (o : Option Story). story_of name o (map given_record rs)) (one_given x r name o next.0.outcome)
    ∙ stories_given (after_record x (given_record r)) rs y name (story_after name o r) next.1

records_appended : (xs ys : List Record) → map given_record (xs ++ ys) ≡ map given_record xs ++ map given_record ys
records_appended [] ys = refl
records_appended (x ∷ xs) ys = ap (λ (rs : List Record). given_record x ∷ rs) (records_appended xs ys)

-- a history that replays tells each federate of each object in turn
pub replayed_in_turn : (rs : List Record) → Replays rs → AreDiscoveredInTurn rs
replayed_in_turn rs is before rest name s whole told =
    let all = ap (map given_record) whole ∙ records_appended before rest in
    let first = first_records no_federations (map given_record before) (map given_record rest) is.0 (subst (λ (rs : List Record). AreNext no_federations rs is.0) all is.1) in
    let story = stories_given no_federations before first.0 name None first.1 ∙ ap (option_map given_story) told in
    in_turn (new_central s.catalogue) s.happenings (as_happenings (history_in_turn (map given_record rs) is.0 is.1 (map given_record before) (map given_record rest) name (given_story s) all story))
  where
    as_happenings : IsDiscoveredInTurn (new_central (given_story s).catalogue) (given_story s).happenings → IsDiscoveredInTurn (new_central s.catalogue) (map given_happening s.happenings)
    as_happenings t = t
