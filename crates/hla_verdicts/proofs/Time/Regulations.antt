-- What tests of a federate that asks to regulate tell
use Rattle.std.proofs.Common.{◌≡◌, ℕ, ◌+◌, Bool, false, refl, sym, ◌∙◌, subst}
use mathlib.Core.Bool.{false≢true}
use Rattle.std.specs.Bool.{Decides}
use Rattle.hla_machine.specs.Central.{Central}
use Rattle.hla_machine.specs.Machine.{IsEntry, MayAnswer, MayEnter, after_enter}
use Rattle.hla_machine.specs.declared.service.Service.TheVariants as service
use Rattle.hla_machine.specs.declared.step.Answer.{Answer}
use Rattle.hla_machine.specs.declared.step.Answer.TheVariants as answer
use Rattle.hla_machine.specs.declared.step.Choice.{Choice}
use Rattle.hla_machine.specs.declared.step.Choice.TheVariants as choice
use Rattle.hla_verdicts.specs.declared.verdict.Verdict.{Verdict}
use Rattle.hla_verdicts.specs.declared.verdict.Verdict.TheVariants as verdict
use Rattle.hla_verdicts.specs.Verdicts.{Judged}

abbrev pub JudgedAsking : Central → ℕ → ℕ → ℕ → Answer → Choice → Central → Verdict → Type 0
JudgedAsking c f t l a o d v = Judged (MayAnswer c f (service.EnableTimeRegulation t l) a o × IsEntry o) (d ≡ after_enter c f l o) v

asked_done : (c : Central) (f t l : ℕ) (a : Answer) (o : Choice) → MayAnswer c f (service.EnableTimeRegulation t l) a o → a ≡ answer.Done
asked_done c f t l answer.Done o may = refl
asked_done c f t l a o may = absurd may

pub asking_not_done : (c d : Central) (f t l : ℕ) (a : Answer) (o : Choice) (b : Bool) → Decides b (a ≡ answer.Done) → b ≡ false → JudgedAsking c f t l a o d verdict.Wrong
asking_not_done c d f t l a o b tests is = λ may. false≢true (sym is ∙ tests.1 (asked_done c f t l a o may.0))

pub asking_as : (c d : Central) (f t l e : ℕ) (a : Answer) (o : Choice) (v : Verdict) → a ≡ answer.Done → o ≡ choice.Entry e
    → Judged (MayEnter c f (t + l) (choice.Entry e)) (d ≡ after_enter c f l (choice.Entry e)) v → JudgedAsking c f t l a o d v
asking_as c d f t l e a o v done is judged =
    subst (λ (x : Answer). JudgedAsking c f t l x o d v) (sym done) (subst (λ (x : Choice). JudgedAsking c f t l answer.Done x d v) (sym is) (by v judged))
  where
    by : (u : Verdict) → Judged (MayEnter c f (t + l) (choice.Entry e)) (d ≡ after_enter c f l (choice.Entry e)) u → JudgedAsking c f t l answer.Done (choice.Entry e) d u
    by verdict.Allowed j = ((j.0, tt), j.1)
    by verdict.Wrong j = λ may. j may.0
