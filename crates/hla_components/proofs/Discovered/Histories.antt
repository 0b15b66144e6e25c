-- Each object is discovered first, and once, in each execution of a history
use Rattle.std.proofs.Common.{◌≡◌, ⊎_elim, ℕ, cond, true, false, refl, sym, ap, subst, ◌∙◌, List, [], ◌∷◌, ◌++◌, Option, Some, None, option_map}
use Rattle.std.proofs.lemmas.Bool.{cases_Bool}
use Rattle.std.proofs.lemmas.Slice.Eq.{bytes_eq-Decides}
use Rattle.std.specs.Str.{bytes_eq}
use Rattle.hla_base.specs.declared.fault.Fault.{Fault}
use Rattle.hla_catalogue.specs.CatalogueValue.{CatalogueValue}
use Rattle.hla_machine.specs.declared.step.Act.{Act}
use Rattle.hla_machine.specs.declared.step.Act.TheVariants as act
use Rattle.hla_machine.specs.declared.step.Outcome.{Outcome}
use Rattle.hla_machine.specs.declared.step.Choice.{Choice}
use Rattle.hla_machine.specs.declared.step.Step.{Step}
use Rattle.hla_machine.specs.declared.step.Record.{Record}
use Rattle.hla_machine.specs.Central.{Central, new_central}
use Rattle.hla_machine.specs.Runs.{Happening, create_fault, destroy_fault}
use Rattle.hla_machine.specs.Projection.{Story, story_with, story_after, story_of}
use Rattle.hla_machine.specs.Discovered.{IsDiscoveredInTurn}
use Rattle.hla_machine.specs.Histories.{AreDiscoveredInTurn}
use Rattle.hla_components.specs.Components.{Components, new_components}
use Rattle.hla_components.specs.CentralOf.{central}
use Rattle.hla_components.specs.Next.{next}
use Rattle.hla_components.specs.Headline.{happening, happenings, state_after}
use Rattle.hla_components.specs.Executions.{Federations, no_federations, central_executions, with_created, with_destroyed, ending_unless, step_in, next_act, after_record, IsNext, AreNext}
use Rattle.hla_components.proofs.Refinement.Runs.{central_start}
use Rattle.hla_components.proofs.Refinement.LedTo.{led_start, state_appended}
use Rattle.hla_components.proofs.Discovered.Runs.{list_discovers_in_turn, happenings_appended}

-- the story is what the components answered to some steps, which led to what is there
abbrev TellsOfSteps : Option Story → Option Components → Type 0
TellsOfSteps None None = Unit {0}
TellsOfSteps (Some s) (Some c) = (steps : List Step) × (s.happenings ≡ happenings (new_components s.catalogue) steps) × (c ≡ state_after (new_components s.catalogue) steps)
TellsOfSteps o x = ⊥

same_name : (n : List ℕ) → bytes_eq n n ≡ true
same_name n = (bytes_eq-Decides n n).1 refl

-- ---- an act in the execution
create_here : (x : Federations) (n : List ℕ) (catalogue : Option CatalogueValue) (f : Option Fault) (o : Option Story) → TellsOfSteps o (x.execution n)
    → (let e = ending_unless f x (with_created x n catalogue) in TellsOfSteps (story_with o (act.Create catalogue) e.outcome e.choice) (e.executions.execution n))
create_here x n None None o tells = tells
create_here x n None (Some e) o tells = tells
create_here x n (Some catalogue) None o tells = rw (same_name n) (([], refl, refl))
create_here x n (Some catalogue) (Some e) o tells = tells

step_here : (x : Federations) (n : List ℕ) (here : Option Components) (step : Step) (o : Option Story) → x.execution n ≡ here → TellsOfSteps o here
    → (let e = step_in x n here step in TellsOfSteps (story_with o (act.Step step) e.outcome e.choice) (e.executions.execution n))
step_here x n None step None is tells = rw is tt
step_here x n None step (Some s) is tells = absurd tells
step_here x n (Some c) step None is tells = absurd tells
step_here x n (Some c) step (Some s) is tells = rw (same_name n) ((
  tells.0 ++ step ∷ [],
  more c tells.2 tells.1,
  ap (λ (c : Components). (next c step).state) tells.2 ∙ sym (state_appended start tells.0 (step ∷ [])),
))
  where
    start : Components
    start = new_components s.catalogue

    more : (c : Components) → c ≡ state_after start tells.0 → s.happenings ≡ happenings start tells.0 → s.happenings ++ happening step (next c step) ∷ [] ≡ happenings start (tells.0 ++ step ∷ [])
    more c at told = ap (λ (hs : List Happening). hs ++ happening step (next c step) ∷ []) told ∙ ap (λ (c : Components). happenings start tells.0 ++ happening step (next c step) ∷ []) at ∙ sym (happenings_appended start tells.0 (step ∷ []))

destroy_here : (x : Federations) (n : List ℕ) (f : Option Fault) (o : Option Story) → TellsOfSteps o (x.execution n)
    → (let e = ending_unless f x (with_destroyed x n) in TellsOfSteps (story_with o act.Destroy e.outcome e.choice) (e.executions.execution n))
destroy_here x n None o tells = rw (same_name n) tt
destroy_here x n (Some e) o tells = tells

act_here : (x : Federations) (n : List ℕ) (a : Act) (o : Option Story) → TellsOfSteps o (x.execution n)
    → (let e = next_act x n a in TellsOfSteps (story_with o a e.outcome e.choice) (e.executions.execution n))
act_here x n (act.Create catalogue) o tells = create_here x n catalogue (create_fault (central_executions x) n catalogue) o tells
act_here x n act.Destroy o tells = destroy_here x n (destroy_fault (option_map central (x.execution n))) o tells
act_here x n (act.Step step) o tells = step_here x n (x.execution n) step o refl tells

-- ---- an act in another
unless_there : (x y : Federations) (f : Option Fault) (n : List ℕ) → y.execution n ≡ x.execution n → (ending_unless f x y).executions.execution n ≡ x.execution n
unless_there x y None n same = same
unless_there x y (Some e) n same = refl

created_there : (x : Federations) (m n : List ℕ) (catalogue : Option CatalogueValue) → bytes_eq m n ≡ false → (with_created x m catalogue).execution n ≡ x.execution n
created_there x m n None other = refl
created_there x m n (Some catalogue) other = rw other refl

step_there : (x : Federations) (m n : List ℕ) (here : Option Components) (step : Step) → bytes_eq m n ≡ false → (step_in x m here step).executions.execution n ≡ x.execution n
step_there x m n None step other = refl
step_there x m n (Some c) step other = rw other refl

act_there : (x : Federations) (m n : List ℕ) (a : Act) → bytes_eq m n ≡ false → (next_act x m a).executions.execution n ≡ x.execution n
act_there x m n (act.Create catalogue) other = unless_there x (with_created x m catalogue) (create_fault (central_executions x) m catalogue) n (created_there x m n catalogue other)
act_there x m n act.Destroy other = unless_there x (with_destroyed x m) (destroy_fault (option_map central (x.execution m))) n (rw other refl)
act_there x m n (act.Step step) other = step_there x m n (x.execution m) step other

-- ---- records
as_next : (x : Federations) (r : Record) (name : List ℕ) (o : Option Story) → TellsOfSteps o (x.execution name)
    → (let e = next_act x r.execution r.act in TellsOfSteps (cond (bytes_eq r.execution name) (story_with o r.act e.outcome e.choice) o) (e.executions.execution name))
as_next x r name o tells = ⊎_elim
    (λ (y : bytes_eq r.execution name ≡ true).
    let same : r.execution ≡ name = (bytes_eq-Decides r.execution name).0 y in
    let was : TellsOfSteps o (x.execution r.execution) = subst (λ (n : List ℕ). TellsOfSteps o (x.execution n)) (sym same) tells in
    let e = next_act x r.execution r.act in
    rw y (subst (λ (n : List ℕ). TellsOfSteps (story_with o r.act e.outcome e.choice) (e.executions.execution n)) same (act_here x r.execution r.act o was)))
    (λ (n : bytes_eq r.execution name ≡ false). rw n (subst (λ (e : Option Components). TellsOfSteps o e) (sym (act_there x r.execution name r.act n)) tells))
    (cases_Bool (bytes_eq r.execution name))

one_record : (x : Federations) (r : Record) (name : List ℕ) (o : Option Story) → IsNext x r → TellsOfSteps o (x.execution name) → TellsOfSteps (story_after name o r) ((after_record x r).execution name)
one_record x r name o is tells =
    let after = (after_record x r).execution name in
    let step = as_next x r name o tells in
    subst (λ (out : Outcome). TellsOfSteps (cond (bytes_eq r.execution name) (story_with o r.act out r.choice) o) after) (sym is.outcome)
    (subst (λ (ch : Choice). TellsOfSteps (cond (bytes_eq r.execution name) (story_with o r.act (next_act x r.execution r.act).outcome ch) o) after) (sym is.choice) step)

records_tell : (x : Federations) (rs : List Record) (y : Federations) (name : List ℕ) (o : Option Story) → AreNext x rs y → TellsOfSteps o (x.execution name) → TellsOfSteps (story_of name o rs) (y.execution name)
records_tell x [] y name o next tells = subst (λ (y : Federations). TellsOfSteps o (y.execution name)) next tells
records_tell x (r ∷ rs) y name o next tells = records_tell (after_record x r) rs y name (story_after name o r) next.1 (one_record x r name o next.0 tells)

-- where a beginning of the records leads
pub first_records : (x : Federations) (before rest : List Record) (y : Federations) → AreNext x (before ++ rest) y → (z : Federations) × AreNext x before z
first_records x [] rest y next = (x, refl)
first_records x (r ∷ rs) rest y next = let w = first_records (after_record x r) rs rest y next.1 in (w.0, (next.0, w.1))

told_in_turn : (s : Story) (e : Option Components) → TellsOfSteps (Some s) e → IsDiscoveredInTurn (new_central s.catalogue) s.happenings
told_in_turn s None tells = absurd tells
told_in_turn s (Some c) tells =
    let start = new_components s.catalogue in
    subst (λ (hs : List Happening). IsDiscoveredInTurn (new_central s.catalogue) hs) (sym tells.1)
    (subst (λ (c : Central). IsDiscoveredInTurn c (happenings start tells.0)) (central_start s.catalogue) (list_discovers_in_turn start tells.0 (led_start s.catalogue)))

pub history_in_turn : (records : List Record) (x : Federations) → AreNext no_federations records x → AreDiscoveredInTurn records
history_in_turn records x next before rest name s whole is =
    let first = first_records no_federations before rest x (subst (λ (rs : List Record). AreNext no_federations rs x) whole next) in
    told_in_turn s (first.0.execution name) (subst (λ (o : Option Story). TellsOfSteps o (first.0.execution name)) is (records_tell no_federations before first.0 name None first.1 tt))
