-- Records of the next-state function are a run of the machine.
use Rattle.std.proofs.Common.{◌≡◌, ℕ, ◌+◌, cond, Bool, true, false, List, [], ◌∷◌, Option, Some, None, option_map, refl, ap, subst, ◌∙◌}
use Rattle.std.proofs.Math.Path.{fun_ext}
use Rattle.std.specs.Str.{bytes_eq}
use Rattle.hla_base.specs.declared.fault.Fault.{Fault}
use Rattle.hla_catalogue.specs.CatalogueValue.{CatalogueValue}
use Rattle.hla_machine.specs.declared.step.Act.{Act}
use Rattle.hla_machine.specs.declared.step.Act.TheVariants as act
use Rattle.hla_machine.specs.declared.step.Step.{Step}
use Rattle.hla_machine.specs.declared.step.Record.{Record}
use Rattle.hla_machine.specs.Central.{Central, new_central}
use Rattle.hla_machine.specs.Runs as machine
use Rattle.hla_machine.specs.Runs.{create_fault, destroy_fault, EndsAs, AllowedIn, AllowedAct, after_act, after_step_in, AreRun}
use Rattle.hla_components.specs.Components.{Components, new_components}
use Rattle.hla_components.specs.CentralOf.{central}
use Rattle.hla_components.specs.Invariant.{Inv}
use Rattle.hla_components.specs.Next.{next}
use Rattle.hla_components.proofs.Refinement.Runs.{each_step, inv_start, central_start}
use Rattle.hla_components.specs.Executions.{Federations, no_federations, central_executions, set_federation, with_created, with_destroyed, Ending, ending_unless, step_in, next_act, after_record, AreNext}

-- what is there keeps what always holds
record AreAllKept (x : Federations) : Type 0 where
  pub each : (name : List ℕ) (s : Components) → x.execution name ≡ Some s → Inv s

either_kept : (b : Bool) (o p : Option Components) (s : Components) → ((t : Components) → o ≡ Some t → Inv t) → ((t : Components) → p ≡ Some t → Inv t) → cond b o p ≡ Some s → Inv s
either_kept true o p s here there e = here s e
either_kept false o p s here there e = there s e

-- setting an execution is setting the machine's
option_map_cond : (b : Bool) (o p : Option Components) → option_map central (cond b o p) ≡ cond b (option_map central o) (option_map central p)
option_map_cond true o p = refl
option_map_cond false o p = refl

module _ (x : Federations) (name : List ℕ) (kept : AreAllKept x) where
  set_kept : (creates present : ℕ) (o : Option Components) → ((t : Components) → o ≡ Some t → Inv t) → AreAllKept (record { creates = creates; present = present; execution = set_federation x name o })
  set_kept creates present o here = record { each = λ other s e. either_kept (bytes_eq name other) o (x.execution other) s here (kept.each other) e }

  set_central : (creates present : ℕ) (o : Option Components) (c : Option Central) → option_map central o ≡ c
      → central_executions (record { creates = creates; present = present; execution = set_federation x name o }) ≡ record { creates = creates; present = present; execution = machine.set_execution (central_executions x) name c }
  set_central creates present o c e =
      let f : (other : List ℕ) → option_map central (set_federation x name o other) ≡ machine.set_execution (central_executions x) name c other =
      λ other. option_map_cond (bytes_eq name other) o (x.execution other) ∙ ap (λ (d : Option Central). cond (bytes_eq name other) d (option_map central (x.execution other))) e in
      ap (λ (g : List ℕ → Option Central). let y : machine.Executions = record { creates = creates; present = present; execution = g } in y) (fun_ext f)

-- an act is the machine's, and keeps what always holds
record IsActStep (x : Federations) (name : List ℕ) (a : Act) (e : Ending) : Type 0 where
  pub allowed : AllowedAct (central_executions x) name a e.outcome e.choice
  pub follows : central_executions e.executions ≡ after_act (central_executions x) name a e.outcome e.choice
  pub kept : AreAllKept e.executions

created_central : (x : Federations) (name : List ℕ) (catalogue : Option CatalogueValue) → AreAllKept x → central_executions (with_created x name catalogue) ≡ machine.after_create (central_executions x) name catalogue
created_central x name None kept = refl
created_central x name (Some c) kept = set_central x name kept (x.creates + 1) (x.present + 1) (Some (new_components c)) (Some (new_central c)) (ap (λ (d : Central). Some d) (central_start c))

some_is : (s t : Components) → Inv s → Some s ≡ Some t → Inv t
some_is s t inv e = let same : s ≡ t = cc in subst Inv same inv

created_kept : (x : Federations) (name : List ℕ) (catalogue : Option CatalogueValue) → AreAllKept x → AreAllKept (with_created x name catalogue)
created_kept x name None kept = kept
created_kept x name (Some c) kept = set_kept x name kept _ _ (Some (new_components c)) (λ t e. some_is (new_components c) t (inv_start c) e)

create_step : (x : Federations) (name : List ℕ) (catalogue : Option CatalogueValue) (f : Option Fault) → create_fault (central_executions x) name catalogue ≡ f → AreAllKept x
    → IsActStep x name (act.Create catalogue) (ending_unless f x (with_created x name catalogue))
create_step x name catalogue None is kept = record { allowed = (rw is refl, refl); follows = created_central x name catalogue kept; kept = created_kept x name catalogue kept }
create_step x name catalogue (Some e) is kept = record { allowed = (rw is refl, refl); follows = refl; kept = kept }

destroy_step : (x : Federations) (name : List ℕ) (f : Option Fault) → destroy_fault (option_map central (x.execution name)) ≡ f → AreAllKept x → IsActStep x name act.Destroy (ending_unless f x (with_destroyed x name))
destroy_step x name None is kept = record {
  allowed = (rw is refl, refl);
  follows = set_central x name kept x.creates _ None None refl;
  kept = set_kept x name kept _ _ None (λ t e. absurd (cc));
}
destroy_step x name (Some e) is kept = record { allowed = (rw is refl, refl); follows = refl; kept = kept }

-- a step in what is there under the name
record IsStepIn (x : Federations) (name : List ℕ) (here : Option Components) (step : Step) : Type 0 where
  pub allowed : AllowedIn (option_map central here) step (step_in x name here step).outcome (step_in x name here step).choice
  pub follows : central_executions (step_in x name here step).executions ≡ after_step_in (central_executions x) name (option_map central here) step (step_in x name here step).outcome (step_in x name here step).choice
  pub kept : AreAllKept (step_in x name here step).executions

steps_in : (x : Federations) (name : List ℕ) (here : Option Components) (step : Step) → ((t : Components) → here ≡ Some t → Inv t) → AreAllKept x → IsStepIn x name here step
steps_in x name None step there kept = record { allowed = (refl, refl); follows = refl; kept = kept }
steps_in x name (Some s) step there kept =
    let one = each_step s step (there s refl) in
    record {
      allowed = one.machine.allowed;
      follows = set_central x name kept x.creates x.present (Some (next s step).state) _ (ap (λ (d : Central). Some d) one.machine.follows);
      kept = set_kept x name kept x.creates x.present (Some (next s step).state) (λ t e. some_is (next s step).state t one.kept e);
    }

act_step : (x : Federations) (name : List ℕ) (a : Act) → AreAllKept x → IsActStep x name a (next_act x name a)
act_step x name (act.Create catalogue) kept = create_step x name catalogue _ refl kept
act_step x name act.Destroy kept = destroy_step x name _ refl kept
act_step x name (act.Step step) kept =
    let one = steps_in x name (x.execution name) step (kept.each name) kept in
    record { allowed = one.allowed; follows = one.follows; kept = one.kept }

next_run : (rs : List Record) (x y : Federations) → AreAllKept x → AreNext x rs y → AreRun (central_executions x) rs (central_executions y)
next_run [] x y kept e = ap central_executions e
next_run (r ∷ rs) x y kept given =
    let one = act_step x r.execution r.act kept in
    let later = next_run rs (after_record x r) y one.kept given.1 in
    let allowed : AllowedAct (central_executions x) r.execution r.act r.outcome r.choice = rw (given.0.outcome, given.0.choice) one.allowed in
    let follows : central_executions (after_record x r) ≡ after_act (central_executions x) r.execution r.act r.outcome r.choice = rw (given.0.outcome, given.0.choice) one.follows in
    (allowed, subst (λ (z : machine.Executions). AreRun z rs (central_executions y)) follows later)

pub runs_from_none : (rs : List Record) (y : Federations) → AreNext no_federations rs y → AreRun machine.no_executions rs (central_executions y)
runs_from_none rs y given = next_run rs no_federations y (record { each = λ name s e. absurd (cc) }) given
