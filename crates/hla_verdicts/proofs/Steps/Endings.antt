-- What is told of a call that chooses nothing, whatever the service
use Rattle.std.proofs.Common.{◌≡◌, ℕ, cond, Bool, true, false, Option, None, refl, sym, ◌∙◌, subst}
use Rattle.std.specs.Bool.{Decides}
use mathlib.Core.Bool.{false≢true}
use Rattle.hla_base.specs.declared.fault.Fault.{Fault}
use Rattle.hla_machine.specs.declared.service.Service.{Service}
use Rattle.hla_machine.specs.declared.step.Step.TheVariants.{Call}
use Rattle.hla_machine.specs.declared.step.Answer.{Answer}
use Rattle.hla_machine.specs.declared.step.Answer.TheVariants as answer
use Rattle.hla_machine.specs.declared.step.Outcome.{Outcome}
use Rattle.hla_machine.specs.declared.step.Outcome.TheVariants as outcome
use Rattle.hla_machine.specs.declared.step.Choice.{Choice}
use Rattle.hla_machine.specs.declared.step.Choice.TheVariants as choice
use Rattle.hla_machine.specs.Central.{Central}
use Rattle.hla_machine.specs.Refusals.{refusal}
use Rattle.hla_machine.specs.Machine.{IsChoice, MayAnswer, after_call, central_seen}
use Rattle.hla_verdicts.specs.declared.verdict.Verdict.{Verdict}
use Rattle.hla_verdicts.specs.declared.verdict.Verdict.TheVariants as verdict
use Rattle.hla_verdicts.specs.Calls.{AnswersDone, ChoosesNothing, TestsLookUp}
use Rattle.hla_verdicts.proofs.Steps.Outcomes.{JudgedCentral}

module _ (c : Central) (f : ℕ) (x : Service) (plain : ChoosesNothing x) where
  ending_chooses : (out : Outcome) (o : Choice) → IsChoice (Call f x) out o → o ≡ choice.None
  ending_chooses (outcome.Done a) o is = (plain o).0 is
  ending_chooses (outcome.Refused e) o is = is
  ending_chooses (outcome.Failed k) o is = is

  pub ending_chose : (d : Central) (out : Outcome) (o : Choice) (b : Bool) → Decides b (o ≡ choice.None) → b ≡ false → JudgedCentral c (Call f x) out o d verdict.Wrong
  ending_chose d out o b tests is = λ allowed. false≢true (sym is ∙ tests.1 (ending_chooses out o allowed.1))

  pub ending_not_done : (d : Central) (out : Outcome) (a : Answer) (o : Choice) (b : Bool) → AnswersDone x → out ≡ outcome.Done a → Decides b (a ≡ answer.Done) → b ≡ false → JudgedCentral c (Call f x) out o d verdict.Wrong
  ending_not_done d out a o b only ended tests is =
      subst (λ (t : Outcome). JudgedCentral c (Call f x) t o d verdict.Wrong) (sym ended) (λ allowed. false≢true (sym is ∙ tests.1 (only c f a o allowed.0.1)))

  pub ending_done : (d : Central) (out : Outcome) (o : Choice) (found : Option Fault) → found ≡ refusal (central_seen c) (Call f x) → (found ≡ None) × (out ≡ outcome.Done answer.Done) × (o ≡ choice.None)
      → MayAnswer c f x answer.Done choice.None → d ≡ after_call c f x choice.None → JudgedCentral c (Call f x) out o d verdict.Allowed
  ending_done d out o found is ends may follows =
      subst (λ (u : Choice). JudgedCentral c (Call f x) out u d verdict.Allowed) (sym ends.2)
      (subst (λ (t : Outcome). JudgedCentral c (Call f x) t choice.None d verdict.Allowed) (sym ends.1)
      (((sym is ∙ ends.0, may), (plain choice.None).1 refl), follows))

-- ---- look-ups
module _ (c : Central) (f : ℕ) (x : Service) (P : Answer → Type 0) (of : TestsLookUp c f x P) where
  look_up_by : (a : Answer) (b : Bool) → refusal (central_seen c) (Call f x) ≡ None → Decides b (P a) → JudgedCentral c (Call f x) (outcome.Done a) choice.None c (cond b verdict.Allowed verdict.Wrong)
  look_up_by a true none tests = (((none, (of.answers a).0 (tests.0 refl)), (of.plain choice.None).1 refl), sym of.unchanged)
  look_up_by a false none tests = λ allowed. false≢true (tests.1 ((of.answers a).1 allowed.0.1))

  pub looked_up : (found : Option Fault) (out : Outcome) (a : Answer) (o : Choice) (b : Bool) (v : Verdict) → found ≡ refusal (central_seen c) (Call f x) → (found ≡ None) × (out ≡ outcome.Done a) × (o ≡ choice.None)
      → Decides b (P a) → v ≡ cond b verdict.Allowed verdict.Wrong → JudgedCentral c (Call f x) out o c v
  looked_up found out a o b v is ends tests told =
      subst (λ (w : Verdict). JudgedCentral c (Call f x) out o c w) (sym told)
      (subst (λ (u : Choice). JudgedCentral c (Call f x) out u c (cond b verdict.Allowed verdict.Wrong)) (sym ends.2)
      (subst (λ (t : Outcome). JudgedCentral c (Call f x) t choice.None c (cond b verdict.Allowed verdict.Wrong)) (sym ends.1) (look_up_by a b (sym is ∙ ends.0) tests)))
