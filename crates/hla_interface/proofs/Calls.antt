-- What each call does: an answer of another kind is the step's own
use Rattle.std.proofs.Common.{◌≡◌, ℕ, List, sym, subst}
use Rattle.std.specs.Prelude.{Result}
use Rattle.hla_base.specs.declared.fault.Fault.{Fault}
use Rattle.hla_machine.specs.declared.step.Act.{Act}
use Rattle.hla_machine.specs.declared.step.Answer.{Answer}
use Rattle.hla_callers.specs.Callers.{Caller, HasAnswered}

pub answered_as : (old new : Caller) (name : List ℕ) (a : Act) (given own : Result Answer Fault) → own ≡ given → HasAnswered old name a given new → HasAnswered old name a own new
answered_as old new name a given own same done = subst (λ (r : Result Answer Fault). HasAnswered old name a r new) (sym same) done
