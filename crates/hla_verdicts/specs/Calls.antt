-- What calls of directory services choose and answer, and what is told of them
use Rattle.std.specs.Prelude.{ℕ, ◌≡◌, Option}
use Rattle.hla_base.specs.declared.fault.Fault.{Fault}
use Rattle.hla_machine.specs.declared.service.Service.{Service}
use Rattle.hla_machine.specs.declared.step.Step.TheVariants.{Call}
use Rattle.hla_machine.specs.declared.step.Answer.{Answer}
use Rattle.hla_machine.specs.declared.step.Answer.TheVariants as answer
use Rattle.hla_machine.specs.declared.step.Outcome.{Outcome}
use Rattle.hla_machine.specs.declared.step.Choice.{Choice}
use Rattle.hla_machine.specs.declared.step.Choice.TheVariants as choice
use Rattle.hla_machine.specs.Central.{Central}
use Rattle.hla_machine.specs.Refusals.{refusal}
use Rattle.hla_machine.specs.Machine.{Allowed, IsHandle, IsServiceChoice, MayAnswer, after, after_call, central_seen}
use Rattle.hla_verdicts.specs.declared.verdict.Verdict.{Verdict}
use Rattle.hla_verdicts.specs.Verdicts.{Judged}

-- ---- services
-- a call of the service that is done chooses nothing
abbrev pub ChoosesNothing : Service → Type 0
ChoosesNothing x = (o : Choice) → (IsServiceChoice x o → o ≡ choice.None) × (o ≡ choice.None → IsServiceChoice x o)

-- a call of the service that is done says no more than that
abbrev pub AnswersDone : Service → Type 0
AnswersDone x = (c : Central) (f : ℕ) (a : Answer) (o : Choice) → MayAnswer c f x a o → a ≡ answer.Done

-- the answer is the number that was found
abbrev pub IsHandleIn : Option ℕ → Answer → Type 0
IsHandleIn found (answer.Handle number) = IsHandle found number
IsHandleIn found a = ⊥

-- a look-up, and the test of its answers
pub record TestsLookUp (c : Central) (f : ℕ) (x : Service) (P : Answer → Type 0) : Type 0 where
  pub plain : ChoosesNothing x
  pub answers : (a : Answer) → (P a → MayAnswer c f x a choice.None) × (MayAnswer c f x a choice.None → P a)
  pub unchanged : after_call c f x choice.None ≡ c

-- ---- what is told
-- of a call by f of x in this state, where it is refused with this fault if it is refused, and the second state is kept after it
abbrev pub ToldOf : Option Fault → Outcome → Choice → Verdict → Central → ℕ → Service → Type 0
ToldOf fault out o v c f x = fault ≡ refusal (central_seen c) (Call f x) → Judged (Allowed c (Call f x) out o) (c ≡ after c (Call f x) out o) v
