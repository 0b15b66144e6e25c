-- Records of all executions, cut to one of them, are a run of it
use Rattle.std.proofs.Common.{◌≡◌, ⊎_elim, ℕ, true, false, refl, sym, ap, subst, List, [], ◌∷◌, ◌++◌, Option, Some, None}
use Rattle.std.proofs.lemmas.Bool.{cases_Bool}
use Rattle.std.proofs.lemmas.Slice.Eq.{bytes_eq-Decides}
use Rattle.std.specs.Str.{bytes_eq}
use Rattle.hla_machine.specs.declared.step.Act.{Act}
use Rattle.hla_machine.specs.declared.step.Act.TheVariants as act
use Rattle.hla_machine.specs.declared.step.Step.{Step}
use Rattle.hla_machine.specs.declared.step.Outcome.{Outcome}
use Rattle.hla_machine.specs.declared.step.Outcome.TheVariants as outcome
use Rattle.hla_machine.specs.declared.step.Choice.{Choice}
use Rattle.hla_machine.specs.declared.step.Record.{Record}
use Rattle.hla_machine.specs.Central.{Central, new_central}
use Rattle.hla_machine.specs.Machine.{Allowed, after}
use Rattle.hla_machine.specs.Runs.{Happening, IsRun, Executions, no_executions, AllowedIn, AllowedAct, after_step_in, after_act, AreRun}
use Rattle.hla_machine.specs.Projection.{Story, story_with, story_after, story_of, TellsOf}

-- one happening more at the end
run_more : (c : Central) (hs : List Happening) (d : Central) (h : Happening) → IsRun c hs d → Allowed d h.step h.outcome h.choice → IsRun c (hs ++ h ∷ []) (after d h.step h.outcome h.choice)
run_more c [] d h run may = (subst (λ (c : Central). Allowed c h.step h.outcome h.choice) (sym run) may, ap (λ (c : Central). after c h.step h.outcome h.choice) run)
run_more c (g ∷ gs) d h run may = (run.0, run_more (after c g.step g.outcome g.choice) gs d h run.1 may)

same_name : (n : List ℕ) → bytes_eq n n ≡ true
same_name n = (bytes_eq-Decides n n).1 refl

-- ---- an act in the execution
step_here : (x : Executions) (n : List ℕ) (e : Option Central) (step : Step) (out : Outcome) (ch : Choice) (o : Option Story) → x.execution n ≡ e → AllowedIn e step out ch → TellsOf o e
    → TellsOf (story_with o (act.Step step) out ch) ((after_step_in x n e step out ch).execution n)
step_here x n None step out ch None is may tells = subst (λ (e : Option Central). TellsOf None e) (sym is) tells
step_here x n None step out ch (Some s) is may tells = absurd tells
step_here x n (Some c) step out ch None is may tells = absurd tells
step_here x n (Some c) step out ch (Some s) is may tells =
    let more = run_more (new_central s.catalogue) s.happenings c (record { step = step; outcome = out; choice = ch }) tells may in rw (same_name n) more

act_here : (x : Executions) (n : List ℕ) (a : Act) (out : Outcome) (ch : Choice) (o : Option Story) → AllowedAct x n a out ch → TellsOf o (x.execution n) → TellsOf (story_with o a out ch) ((after_act x n a out ch).execution n)
act_here x n (act.Create None) (outcome.Done a) ch o may tells = tells
act_here x n (act.Create (Some catalogue)) (outcome.Done a) ch o may tells = rw (same_name n) refl
act_here x n (act.Create None) (outcome.Refused e) ch o may tells = tells
act_here x n (act.Create (Some catalogue)) (outcome.Refused e) ch o may tells = tells
act_here x n (act.Create None) (outcome.Failed k) ch o may tells = tells
act_here x n (act.Create (Some catalogue)) (outcome.Failed k) ch o may tells = tells
act_here x n act.Destroy (outcome.Done a) ch o may tells = rw (same_name n) tt
act_here x n act.Destroy (outcome.Refused e) ch o may tells = tells
act_here x n act.Destroy (outcome.Failed k) ch o may tells = tells
act_here x n (act.Step step) out ch o may tells = step_here x n (x.execution n) step out ch o refl may tells

-- ---- an act in another
step_there : (x : Executions) (m n : List ℕ) (e : Option Central) (step : Step) (out : Outcome) (ch : Choice) → bytes_eq m n ≡ false → (after_step_in x m e step out ch).execution n ≡ x.execution n
step_there x m n None step out ch other = refl
step_there x m n (Some c) step out ch other = rw other refl

act_there : (x : Executions) (m n : List ℕ) (a : Act) (out : Outcome) (ch : Choice) → bytes_eq m n ≡ false → (after_act x m a out ch).execution n ≡ x.execution n
act_there x m n (act.Create None) (outcome.Done a) ch other = refl
act_there x m n (act.Create (Some catalogue)) (outcome.Done a) ch other = rw other refl
act_there x m n (act.Create catalogue) (outcome.Refused e) ch other = refl
act_there x m n (act.Create catalogue) (outcome.Failed k) ch other = refl
act_there x m n act.Destroy (outcome.Done a) ch other = rw other refl
act_there x m n act.Destroy (outcome.Refused e) ch other = refl
act_there x m n act.Destroy (outcome.Failed k) ch other = refl
act_there x m n (act.Step step) out ch other = step_there x m n (x.execution m) step out ch other

-- ---- records
one_record : (x : Executions) (r : Record) (name : List ℕ) (o : Option Story) → AllowedAct x r.execution r.act r.outcome r.choice → TellsOf o (x.execution name)
    → TellsOf (story_after name o r) ((after_act x r.execution r.act r.outcome r.choice).execution name)
one_record x r name o may tells = ⊎_elim
    (λ (y : bytes_eq r.execution name ≡ true).
    let same : r.execution ≡ name = (bytes_eq-Decides r.execution name).0 y in
    let was : TellsOf o (x.execution r.execution) = subst (λ (n : List ℕ). TellsOf o (x.execution n)) (sym same) tells in
    let here = act_here x r.execution r.act r.outcome r.choice o may was in
    rw y (subst (λ (n : List ℕ). TellsOf (story_with o r.act r.outcome r.choice) ((after_act x r.execution r.act r.outcome r.choice).execution n)) same here))
    (λ (n : bytes_eq r.execution name ≡ false). rw n (subst (λ (e : Option Central). TellsOf o e) (sym (act_there x r.execution name r.act r.outcome r.choice n)) tells))
    (cases_Bool (bytes_eq r.execution name))

cut_from : (x : Executions) (rs : List Record) (y : Executions) (name : List ℕ) (o : Option Story) → AreRun x rs y → TellsOf o (x.execution name) → TellsOf (story_of name o rs) (y.execution name)
cut_from x [] y name o run tells = subst (λ (y : Executions). TellsOf o (y.execution name)) run tells
cut_from x (r ∷ rs) y name o run tells = cut_from (after_act x r.execution r.act r.outcome r.choice) rs y name (story_after name o r) run.1 (one_record x r name o run.0 tells)

pub cut_to_one : (rs : List Record) (y : Executions) (name : List ℕ) → AreRun no_executions rs y → TellsOf (story_of name None rs) (y.execution name)
cut_to_one rs y name run = cut_from no_executions rs y name None run tt
