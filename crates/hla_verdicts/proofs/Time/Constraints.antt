-- What tests of a federate that becomes constrained, or ceases to be, tell
use Rattle.std.proofs.Common.{◌≡◌, ℕ, cond, not, ◌∙◌, ap, sym, subst, Bool, true, false, List, Option, Some, None, refl}
use mathlib.Core.Bool.{false≢true}
use Rattle.std.specs.Bool.{Decides}
use Rattle.hla_base.specs.declared.fault.Fault.{Fault}
use Rattle.hla_base.specs.declared.fault.Fault.TheVariants as fault
use Rattle.hla_base.specs.RowRefusals.{first_fault, unconstrain_tests}
use Rattle.hla_base.specs.declared.number.EventHandle.{EventHandle}
use Rattle.hla_callbacks.specs.declared.callback.Callback.TheVariants as callback
use Rattle.hla_machine.specs.Central.{Central}
use Rattle.hla_machine.specs.Callbacks.{after_constraint, with_central_row, with_demoted}
use Rattle.hla_machine.specs.Refusals.{refusal}
use Rattle.hla_machine.specs.Machine.{AreMoved, MayAnswer, MayCease, after_cease, central_seen}
use Rattle.hla_machine.specs.declared.service.Service.{Service}
use Rattle.hla_machine.specs.declared.service.Service.TheVariants as service
use Rattle.hla_machine.specs.declared.step.Step.TheVariants.{Call}
use Rattle.hla_machine.specs.declared.step.Answer.{Answer}
use Rattle.hla_machine.specs.declared.step.Answer.TheVariants as answer
use Rattle.hla_machine.specs.declared.step.Outcome.{Outcome}
use Rattle.hla_machine.specs.declared.step.Outcome.TheVariants as outcome
use Rattle.hla_machine.specs.declared.step.Choice.{Choice}
use Rattle.hla_machine.specs.declared.step.Choice.TheVariants as choice
use Rattle.hla_accounts.specs.declared.row_change.RowChange.TheVariants.{EnterConstraint, CeaseConstraint}
use Rattle.hla_accounts.specs.RowChanges.{changed_row}
use Rattle.hla_verdicts.specs.declared.verdict.Verdict.{Verdict}
use Rattle.hla_verdicts.specs.declared.verdict.Verdict.TheVariants as verdict
use Rattle.hla_verdicts.specs.Verdicts.{Judged}
use Rattle.hla_verdicts.specs.Accounted.{JudgedPick}
use Rattle.hla_verdicts.proofs.Steps.Outcomes.{JudgedCentral}

pub constrained_after : (c b d : Central) (f : ℕ) (es : List EventHandle) → b ≡ with_central_row c f (changed_row EnterConstraint (c.row f)) → d ≡ record b { bag = with_demoted b.bag f es } → d ≡ after_constraint c f (choice.Moved es)
constrained_after c b d f es row bag = bag ∙ ap (λ (x : Central). record x { bag = with_demoted x.bag f es }) row

pub constrained_as : (c d : Central) (f t : ℕ) (es fs : List EventHandle) (o : Choice) (v : Verdict) → o ≡ choice.Moved es → fs ≡ es → JudgedPick c f (callback.TimeConstrainedEnabled t) (choice.Moved fs) d v → JudgedPick c f (callback.TimeConstrainedEnabled t) o d v
constrained_as c d f t es fs o v is same judged = subst (λ (x : Choice). JudgedPick c f (callback.TimeConstrainedEnabled t) x d v) (ap choice.Moved same ∙ sym is) judged

-- ---- ceasing to be constrained
pub ceased_after : (c b d : Central) (f : ℕ) (es : List EventHandle) → b ≡ with_central_row c f (changed_row CeaseConstraint (c.row f)) → d ≡ record b { bag = with_demoted b.bag f es } → d ≡ after_cease c f (choice.Moved es)
ceased_after c b d f es row bag = bag ∙ ap (λ (x : Central). record x { bag = with_demoted x.bag f es }) row

abbrev pub JudgedCease : Central → ℕ → Answer → Choice → Central → Verdict → Type 0
JudgedCease c f a o d v = Judged (MayAnswer c f service.DisableTimeConstrained a o × AreMoved o) (d ≡ after_cease c f o) v

cease_done : (c : Central) (f : ℕ) (a : Answer) (o : Choice) → MayAnswer c f service.DisableTimeConstrained a o → a ≡ answer.Done
cease_done c f answer.Done o may = refl
cease_done c f a o may = absurd may

pub cease_not_done : (c d : Central) (f : ℕ) (a : Answer) (o : Choice) (b : Bool) → Decides b (a ≡ answer.Done) → b ≡ false → JudgedCease c f a o d verdict.Wrong
cease_not_done c d f a o b tests is = λ may. false≢true (sym is ∙ tests.1 (cease_done c f a o may.0))

pub cease_unmoved : (c d : Central) (f : ℕ) (a : Answer) (o : Choice) → (AreMoved o → ⊥) → JudgedCease c f a o d verdict.Wrong
cease_unmoved c d f a o none = λ may. none may.1

pub cease_as : (c d : Central) (f : ℕ) (a : Answer) (es fs : List EventHandle) (o : Choice) (v : Verdict) → a ≡ answer.Done → o ≡ choice.Moved es → fs ≡ es
    → Judged (MayCease c f (choice.Moved fs) × AreMoved (choice.Moved fs)) (d ≡ after_cease c f (choice.Moved fs)) v → JudgedCease c f a o d v
cease_as c d f a es fs o v done is same judged =
    subst (λ (x : Answer). JudgedCease c f x o d v) (sym done) (subst (λ (x : Choice). JudgedCease c f answer.Done x d v) (ap choice.Moved same ∙ sym is) judged)

-- ---- by how the call ended
pub unconstrain_refusal : (c : Central) (f : ℕ) → c.directory.joined f ≡ true → first_fault (unconstrain_tests (c.row f)) ≡ refusal (central_seen c) (Call f service.DisableTimeConstrained)
unconstrain_refusal c f is = sym (ap (λ (b : Bool). cond (not b) (Some fault.FederateNotExecutionMember) (first_fault (unconstrain_tests (c.row f)))) is)

ceased_by : (c d : Central) (f : ℕ) (a : Answer) (o : Choice) (v : Verdict) → refusal (central_seen c) (Call f service.DisableTimeConstrained) ≡ None → JudgedCease c f a o d v → JudgedCentral c (Call f service.DisableTimeConstrained) (outcome.Done a) o d v
ceased_by c d f a o verdict.Allowed none is = (((none, is.0.0), is.0.1), is.1)
ceased_by c d f a o verdict.Wrong none is = λ allowed. is (allowed.0.1, allowed.1)

pub ceased_told : (c d : Central) (f : ℕ) (found : Option Fault) (out : Outcome) (a : Answer) (o : Choice) (v : Verdict) → found ≡ refusal (central_seen c) (Call f service.DisableTimeConstrained) → found ≡ None → out ≡ outcome.Done a → JudgedCease c f a o d v
    → JudgedCentral c (Call f service.DisableTimeConstrained) out o d v
ceased_told c d f found out a o v is none ended judged = subst (λ (t : Outcome). JudgedCentral c (Call f service.DisableTimeConstrained) t o d v) (sym ended) (ceased_by c d f a o v (sym is ∙ none) judged)

-- ---- by the service
pub moving_called : (c d : Central) (f : ℕ) (x given : Service) (out : Outcome) (o : Choice) (v : Verdict) → given ≡ x → JudgedCentral c (Call f x) out o d v → JudgedCentral c (Call f given) out o d v
moving_called c d f x given out o v is judged = subst (λ (y : Service). JudgedCentral c (Call f y) out o d v) (sym is) judged
