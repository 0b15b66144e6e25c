-- What tests of creations, destructions and steps tell
use Rattle.std.proofs.Common.{◌≡◌, ℕ, cond, Bool, true, false, List, Option, Some, None, refl, sym, ◌∙◌, ap, subst}
use Rattle.std.specs.Bool.{Decides}
use mathlib.Core.Bool.{false≢true}
use Rattle.hla_base.specs.declared.fault.Fault.{Fault}
use Rattle.hla_base.specs.declared.fault.Fault.TheVariants as fault
use Rattle.hla_catalogue.specs.CatalogueValue.{CatalogueValue}
use Rattle.hla_machine.specs.declared.step.Step.{Step}
use Rattle.hla_machine.specs.declared.step.Act.{Act}
use Rattle.hla_machine.specs.declared.step.Act.TheVariants as act
use Rattle.hla_machine.specs.declared.step.Answer.TheVariants as answer
use Rattle.hla_machine.specs.declared.step.Outcome.{Outcome}
use Rattle.hla_machine.specs.declared.step.Outcome.TheVariants as outcome
use Rattle.hla_machine.specs.declared.step.Choice.{Choice}
use Rattle.hla_machine.specs.declared.step.Choice.TheVariants as choice
use Rattle.hla_machine.specs.Central.{Central}
use Rattle.hla_machine.specs.Machine.{Allowed, after}
use Rattle.hla_machine.specs.Runs.{Executions, EndsAs, AllowedIn, create_fault, destroy_fault, after_act, after_create, after_destroy, after_step_in}
use Rattle.hla_checker.specs.declared.table.NamedExecution.{NamedExecution}
use Rattle.hla_verdicts.specs.declared.verdict.Verdict.{Verdict}
use Rattle.hla_verdicts.specs.declared.verdict.Verdict.TheVariants as verdict
use Rattle.hla_verdicts.specs.Verdicts.{Judged}
use Rattle.hla_verdicts.specs.Kept.{IsConsistent, JudgedStep, central_of}
use Rattle.hla_checker.specs.declared.table.ExecutionTable.{ExecutionTable}
use Rattle.hla_checker.specs.Table.{AreConsistent, JudgedAct, central_named, centrals_of, executions_of}
use Rattle.hla_checker.proofs.Executions.TablePlaces.{set_central}

-- ---- what is not so
pub ended_otherwise : (found fault : Option Fault) (out : Outcome) (R Q : Type 0) (b : Bool) → found ≡ fault → Decides b (EndsAs found out) → b ≡ false → Judged (EndsAs fault out × R) Q verdict.Wrong
ended_otherwise found fault out R Q b same tests is = λ allowed. false≢true (sym is ∙ tests.1 (subst (λ (f : Option Fault). EndsAs f out) (sym same) allowed.0))

pub chose_otherwise : (P Q : Type 0) (o : Choice) (b : Bool) → Decides b (o ≡ choice.None) → b ≡ false → Judged (P × (o ≡ choice.None)) Q verdict.Wrong
chose_otherwise P Q o b tests is = λ allowed. false≢true (sym is ∙ tests.1 allowed.1)

module _ (t : ExecutionTable) (name : List ℕ) (found : Option Fault) (out : Outcome) (o : Choice) (ended chose : Bool)
    (ends : Decides ended (EndsAs found out)) (ended_so : ended ≡ true) (chooses : Decides chose (o ≡ choice.None)) (chose_so : chose ≡ true) (kept : AreConsistent t.executions.items) where
  abbrev x : Executions
  x = executions_of t

  -- ---- creations
  pub creation_refused : (catalogue : Option CatalogueValue) (e : Fault) → found ≡ create_fault x name catalogue → found ≡ Some e → JudgedAct t name (act.Create catalogue) out o t verdict.Allowed
  creation_refused catalogue e same is =
      let so : out ≡ outcome.Refused e = subst (λ (f : Option Fault). EndsAs f out) is (ends.0 ended_so) in
      ((subst (λ (f : Option Fault). EndsAs f out) same (ends.0 ended_so), chooses.0 chose_so), (sym (ap (λ (t : Outcome). after_act x name (act.Create catalogue) t o) so), kept))

  pub creation_done : (catalogue : Option CatalogueValue) (y : ExecutionTable) → found ≡ create_fault x name catalogue → found ≡ None → executions_of y ≡ after_create x name catalogue → AreConsistent y.executions.items
      → JudgedAct t name (act.Create catalogue) out o y verdict.Allowed
  creation_done catalogue y same is after kept_then =
      let so : out ≡ outcome.Done answer.Done = subst (λ (f : Option Fault). EndsAs f out) is (ends.0 ended_so) in
      ((subst (λ (f : Option Fault). EndsAs f out) same (ends.0 ended_so), chooses.0 chose_so), (after ∙ sym (ap (λ (t : Outcome). after_act x name (act.Create catalogue) t o) so), kept_then))

  -- ---- destructions
  pub destruction_refused : (e : Fault) → found ≡ destroy_fault (x.execution name) → found ≡ Some e → JudgedAct t name act.Destroy out o t verdict.Allowed
  destruction_refused e same is =
      let so : out ≡ outcome.Refused e = subst (λ (f : Option Fault). EndsAs f out) is (ends.0 ended_so) in
      ((subst (λ (f : Option Fault). EndsAs f out) same (ends.0 ended_so), chooses.0 chose_so), (sym (ap (λ (t : Outcome). after_act x name act.Destroy t o) so), kept))

  pub destruction_done : (y : ExecutionTable) → found ≡ destroy_fault (x.execution name) → found ≡ None → executions_of y ≡ after_destroy x name → AreConsistent y.executions.items → JudgedAct t name act.Destroy out o y verdict.Allowed
  destruction_done y same is after kept_then =
      let so : out ≡ outcome.Done answer.Done = subst (λ (f : Option Fault). EndsAs f out) is (ends.0 ended_so) in
      ((subst (λ (f : Option Fault). EndsAs f out) same (ends.0 ended_so), chooses.0 chose_so), (after ∙ sym (ap (λ (t : Outcome). after_act x name act.Destroy t o) so), kept_then))

-- ---- steps
-- of an execution that is not there
step_nowhere_of : (x : Executions) (K : Type 0) (name : List ℕ) (there : Option Central) (step : Step) (out : Outcome) (o : Choice) (b : Bool) → there ≡ None
    → Decides b ((out ≡ outcome.Refused fault.FederationExecutionDoesNotExist) × (o ≡ choice.None)) → K
    → Judged (AllowedIn there step out o) ((x ≡ after_step_in x name there step out o) × K) (cond b verdict.Allowed verdict.Wrong)
step_nowhere_of x K name None step out o true is tests kept = (tests.0 refl, (refl, kept))
step_nowhere_of x K name None step out o false is tests kept = λ allowed. false≢true (tests.1 allowed)
step_nowhere_of x K name (Some c) step out o b is tests kept = cc

pub step_nowhere : (t : ExecutionTable) (name : List ℕ) (step : Step) (out : Outcome) (o : Choice) (b : Bool) (v : Verdict) → centrals_of t.executions.items name ≡ None
    → Decides b ((out ≡ outcome.Refused fault.FederationExecutionDoesNotExist) × (o ≡ choice.None)) → v ≡ cond b verdict.Allowed verdict.Wrong → AreConsistent t.executions.items
    → JudgedAct t name (act.Step step) out o t v
step_nowhere t name step out o b v is tests told kept =
    subst (λ (w : Verdict). JudgedAct t name (act.Step step) out o t w) (sym told)
    (step_nowhere_of (executions_of t) (AreConsistent t.executions.items) name (centrals_of t.executions.items name) step out o b is tests kept)

judged_like : (P P' Q Q' : Type 0) (v : Verdict) → (P → P') → (P' → P) → (Q → Q') → Judged P Q v → Judged P' Q' v
judged_like P P' Q Q' verdict.Allowed to back then is = (to is.0, then is.1)
judged_like P P' Q Q' verdict.Wrong to back then is = λ p. is (back p)

-- of one that is
pub step_there : (t s : ExecutionTable) (name : List ℕ) (old new : NamedExecution) (step : Step) (out : Outcome) (o : Choice) (v : Verdict)
    → s.creates ≡ t.creates → s.present ≡ t.present → centrals_of t.executions.items name ≡ Some (central_named old)
    → centrals_of s.executions.items ≡ set_central (centrals_of t.executions.items) name (Some (central_named new))
    → (IsConsistent new.execution → AreConsistent s.executions.items) → JudgedStep old.execution step out o new.execution v
    → JudgedAct t name (act.Step step) out o s v
unfolding central_named
step_there t s name old new step out o v creates present there set kept judged =
    let x : Executions = executions_of t in
    judged_like (Allowed (central_of old.execution) step out o) (AllowedIn (centrals_of t.executions.items name) step out o)
    ((central_of new.execution ≡ after (central_of old.execution) step out o) × IsConsistent new.execution)
    ((executions_of s ≡ after_step_in x name (centrals_of t.executions.items name) step out o) × AreConsistent s.executions.items) v
    (λ a. subst (λ (c : Option Central). AllowedIn c step out o) (sym there) a)
    (λ a. subst (λ (c : Option Central). AllowedIn c step out o) there a)
    (λ e. (
      (λ i. record { creates = creates i; present = present i; execution = (set ∙ ap (λ (c : Central). set_central (centrals_of t.executions.items) name (Some c)) e.0) i })
          ∙ sym (ap (λ (c : Option Central). after_step_in x name c step out o) there),
      kept e.1,
    ))
    judged

-- ---- a record is judged by its act
pub judged_as : (t s : ExecutionTable) (name : List ℕ) (a b : Act) (out : Outcome) (o : Choice) (v : Verdict) → b ≡ a → JudgedAct t name a out o s v → JudgedAct t name b out o s v
judged_as t s name a b out o v same is = subst (λ (d : Act). JudgedAct t name d out o s v) (sym same) is
