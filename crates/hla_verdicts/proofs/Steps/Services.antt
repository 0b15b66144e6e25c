-- What tests of a call tell, whatever the service
use Rattle.std.proofs.Common.{◌≡◌, ℕ, Bool, true, false, Option, None, refl, sym, ◌∙◌, ap, subst}
use Rattle.std.specs.Bool.{Decides}
use mathlib.Core.Bool.{false≢true}
use Rattle.hla_base.specs.declared.fault.Fault.{Fault}
use Rattle.hla_base.specs.RowRefusals.{first_fault}
use Rattle.hla_machine.specs.declared.service.Service.{Service}
use Rattle.hla_machine.specs.declared.step.Step.TheVariants.{Call}
use Rattle.hla_machine.specs.declared.step.Answer.{Answer}
use Rattle.hla_machine.specs.declared.step.Answer.TheVariants as answer
use Rattle.hla_machine.specs.declared.step.Outcome.{Outcome}
use Rattle.hla_machine.specs.declared.step.Outcome.TheVariants as outcome
use Rattle.hla_machine.specs.declared.step.Choice.{Choice}
use Rattle.hla_machine.specs.declared.step.Choice.TheVariants as choice
use Rattle.hla_machine.specs.Central.{Central}
use Rattle.hla_machine.specs.Refusals.{call_tests, refusal}
use Rattle.hla_machine.specs.Machine.{IsChoice, IsServiceChoice, MayAnswer, after_call, central_seen}
use Rattle.hla_verdicts.specs.declared.verdict.Verdict.{Verdict}
use Rattle.hla_verdicts.specs.declared.verdict.Verdict.TheVariants as verdict
use Rattle.hla_verdicts.specs.Verdicts.{Judged}
use Rattle.hla_verdicts.proofs.Steps.Outcomes.{JudgedCentral}
use Rattle.hla_verdicts.proofs.Steps.Calls.{call_refusal}

-- what a test tells of the answer to a call that is not refused
abbrev pub JudgedDone : Central → ℕ → Service → Answer → Choice → Central → Verdict → Type 0
JudgedDone c f x a o d v = Judged (MayAnswer c f x a o × IsServiceChoice x o) (d ≡ after_call c f x o) v

done_by : (c d : Central) (f : ℕ) (x : Service) (a : Answer) (o : Choice) (v : Verdict) → refusal (central_seen c) (Call f x) ≡ None → JudgedDone c f x a o d v → JudgedCentral c (Call f x) (outcome.Done a) o d v
done_by c d f x a o verdict.Allowed none is = (((none, is.0.0), is.0.1), is.1)
done_by c d f x a o verdict.Wrong none is = λ allowed. is (allowed.0.1, allowed.1)

pub done_told : (c d : Central) (f : ℕ) (x : Service) (found : Option Fault) (out : Outcome) (a : Answer) (o : Choice) (v : Verdict) → found ≡ refusal (central_seen c) (Call f x) → found ≡ None → out ≡ outcome.Done a → JudgedDone c f x a o d v
    → JudgedCentral c (Call f x) out o d v
done_told c d f x found out a o v is none ended judged = subst (λ (t : Outcome). JudgedCentral c (Call f x) t o d v) (sym ended) (done_by c d f x a o v (sym is ∙ none) judged)

-- the refusal of a joined federate
pub joined_refusal : (c : Central) (f : ℕ) (x : Service) → c.directory.joined f ≡ true → first_fault (call_tests (central_seen c) f x) ≡ refusal (central_seen c) (Call f x)
joined_refusal c f x joined = sym (call_refusal (central_seen c) f x joined)

-- ---- services that choose nothing and have no answer
pub record IsPlainService (x : Service) : Type 0 where
  pub answers : (c : Central) (f : ℕ) (o : Choice) → MayAnswer c f x answer.Done o
  pub only : (c : Central) (f : ℕ) (a : Answer) (o : Choice) → MayAnswer c f x a o → a ≡ answer.Done
  pub plain : (o : Choice) → o ≡ choice.None → IsServiceChoice x o
  pub chooses : (o : Choice) → IsServiceChoice x o → o ≡ choice.None

module _ (c : Central) (f : ℕ) (x : Service) (of : IsPlainService x) where
  plain_chooses : (out : Outcome) (o : Choice) → IsChoice (Call f x) out o → o ≡ choice.None
  plain_chooses (outcome.Done a) o is = of.chooses o is
  plain_chooses (outcome.Refused e) o is = is
  plain_chooses (outcome.Failed k) o is = is

  pub plain_chose : (d : Central) (out : Outcome) (o : Choice) (b : Bool) → Decides b (o ≡ choice.None) → b ≡ false → JudgedCentral c (Call f x) out o d verdict.Wrong
  plain_chose d out o b tests is = λ allowed. false≢true (sym is ∙ tests.1 (plain_chooses out o allowed.1))

  pub plain_not_done : (d : Central) (out : Outcome) (a : Answer) (o : Choice) (b : Bool) → out ≡ outcome.Done a → Decides b (a ≡ answer.Done) → b ≡ false → JudgedCentral c (Call f x) out o d verdict.Wrong
  plain_not_done d out a o b ended tests is =
      subst (λ (t : Outcome). JudgedCentral c (Call f x) t o d verdict.Wrong) (sym ended) (λ allowed. false≢true (sym is ∙ tests.1 (of.only c f a o allowed.0.1)))

  pub plain_done : (d : Central) (out : Outcome) (a : Answer) (o : Choice) (found : Option Fault) → found ≡ refusal (central_seen c) (Call f x) → found ≡ None → out ≡ outcome.Done a → a ≡ answer.Done → o ≡ choice.None
      → d ≡ after_call c f x choice.None → JudgedCentral c (Call f x) out o d verdict.Allowed
  plain_done d out a o found is none ended done chosen follows =
      subst (λ (u : Choice). JudgedCentral c (Call f x) out u d verdict.Allowed) (sym chosen)
      (subst (λ (t : Outcome). JudgedCentral c (Call f x) t choice.None d verdict.Allowed) (sym (ended ∙ ap outcome.Done done))
      (((sym is ∙ none, of.answers c f choice.None), of.plain choice.None refl), follows))
