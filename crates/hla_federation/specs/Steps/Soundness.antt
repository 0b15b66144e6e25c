-- What a federation keeps, and how a list of steps may end
use Rattle.std.specs.Prelude.{ℕ, ◌≡◌, cond, Bool, true, false, List, [], ◌∷◌, Result, Ok, Err}
use Rattle.hla_base.specs.declared.fault.Fault.{Fault}
use Rattle.hla_base.specs.declared.fault.Fault.TheVariants as fault
use Rattle.hla_machine.specs.declared.step.Step.{Step}
use Rattle.hla_machine.specs.declared.step.Answer.{Answer}
use Rattle.hla_machine.specs.declared.step.Outcome.TheVariants as outcome
use Rattle.hla_components.specs.Components.{Components}
use Rattle.hla_components.specs.Next.{next}
use Rattle.hla_components.specs.Invariant.{Inv}
use Rattle.hla_components.specs.Headline.{IsLedTo}
use Rattle.hla_federation.specs.FederationValue.{FederationValue}
use Rattle.hla_federation.specs.Steps.Memory.{IsRefusedWith}
use Rattle.hla_federation.specs.Steps.State.{state_of, IsWhole}

-- the lists are whole, the components keep what each step relies on, and a list of steps leads to them from a new execution
pub record IsSound (v : FederationValue) : Type 0 where
  pub whole : IsWhole v
  pub kept : Inv (state_of v)
  pub led : IsLedTo (state_of v)

-- what a service relies on: that, and that its caller is joined
pub record MayCall (v : FederationValue) (f : ℕ) : Type 0 where
  pub sound : IsSound v
  pub joined : (state_of v).directory.joined f ≡ true

-- ---- several steps
-- one after another they were done or refused, with these answers, and led from one state to another
abbrev pub AreSteps : Components → List Step → List (Result Answer Fault) → Components → Type 0
AreSteps s [] [] t = s ≡ t
AreSteps s [] (r ∷ rs) t = ⊥
AreSteps s (step ∷ steps) [] t = ⊥
AreSteps s (step ∷ steps) (Ok a ∷ rs) t = ((next s step).outcome ≡ outcome.Done a) × AreSteps (next s step).state steps rs t
AreSteps s (step ∷ steps) (Err e ∷ rs) t = IsRefusedWith s step e × AreSteps s steps rs t

abbrev pub is_out_of_memory : Fault → Bool
is_out_of_memory fault.OutOfMemory = true
is_out_of_memory e = false

-- the steps but for those that were refused for want of memory, which have changed nothing
abbrev pub remembered_steps : List Step → List (Result Answer Fault) → List Step
remembered_steps [] rs = []
remembered_steps (step ∷ steps) [] = []
remembered_steps (step ∷ steps) (Ok a ∷ rs) = step ∷ remembered_steps steps rs
remembered_steps (step ∷ steps) (Err e ∷ rs) = cond (is_out_of_memory e) (remembered_steps steps rs) (step ∷ remembered_steps steps rs)
