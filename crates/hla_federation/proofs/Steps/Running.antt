-- One step after another is a run of the machine
use Rattle.std.proofs.Common.{◌≡◌, ⊎_elim, ℕ, ◌+◌, ◌<◌, take, get_or, OnOk, OnErr, Option, true, false, None, Some, List, [], ◌∷◌, ◌++◌, length, Result, Ok, Err, IfOk, IfErr, sym, ap, subst, ◌∙◌}
use Rattle.hla_base.specs.declared.fault.Fault.{Fault}
use Rattle.hla_base.specs.declared.fault.Fault.TheVariants as fault
use Rattle.hla_machine.specs.declared.step.Step.{Step}
use Rattle.hla_machine.specs.declared.step.Answer.{Answer}
use Rattle.std.proofs.lemmas.Bool.{cases_Bool}
use Rattle.std.proofs.lemmas.List.{take_more}
use Rattle.std.proofs.Math.Seq.{take-length}
use Rattle.hla_machine.specs.declared.step.Outcome.TheVariants as outcome
use Rattle.hla_machine.specs.Refusals.{refusal}
use Rattle.hla_machine.specs.Runs.{IsRun}
use Rattle.hla_machine.specs.Discovered.{IsDiscoveredInTurn}
use Rattle.hla_machine.specs.Lawful.{IsLawful}
use Rattle.hla_components.specs.CentralOf.{central}
use Rattle.hla_components.specs.Components.{Components}
use Rattle.hla_components.specs.Headline.{IsLedTo, happenings, state_after}
use Rattle.hla_components.specs.Invariant.{Inv}
use Rattle.hla_components.specs.Next.{Outcomes, next, components_seen, unless_refused}
use Rattle.hla_components.specs.Next as components
use Rattle.hla_federation.specs.Steps.Memory.{IsRefusedWith, takes_memory}
use Rattle.hla_federation.specs.Steps.Soundness.{AreSteps, remembered_steps, is_out_of_memory}
use Rattle.hla_components.proofs.Refinement.Runs.{is_run}
use Rattle.hla_components.proofs.Refinement.LedTo.{list_lawful}
use Rattle.hla_components.proofs.Discovered.Runs.{list_discovers_in_turn}

-- a step more at the end
pub steps_more : (s t u : Components) (steps : List Step) (rs : List (Result Answer Fault)) (step : Step) (r : Result Answer Fault) → AreSteps s steps rs t
    → AreSteps t (step ∷ []) (r ∷ []) u → AreSteps s (steps ++ step ∷ []) (rs ++ r ∷ []) u
steps_more s t u [] [] step r before more = subst (λ (x : Components). AreSteps x (step ∷ []) (r ∷ []) u) (sym before) more
steps_more s t u [] (q ∷ rs) step r before more = absurd before
steps_more s t u (p ∷ steps) [] step r before more = absurd before
steps_more s t u (p ∷ steps) (Ok a ∷ rs) step r before more = (before.0, steps_more (next s p).state t u steps rs step r before.1 more)
steps_more s t u (p ∷ steps) (Err e ∷ rs) step r before more = (before.0, steps_more s t u steps rs step r before.1 more)

-- as one step of the code ends
pub one_step : (s t : Components) (step : Step) (r : Result Answer Fault) → IfOk r (λ a. (next s step).outcome ≡ outcome.Done a) → OnOk r (t ≡ (next s step).state)
    → IfErr r (IsRefusedWith s step) → OnErr r (t ≡ s) → AreSteps s (step ∷ []) (r ∷ []) t
one_step s t step (Ok a) does state refused same = (does, sym state)
one_step s t step (Err e) does state refused same = (refused, sym same)

pub take_item : {X : Type 0} (xs : List X) (k : ℕ) (x : X) → k < length xs → x ≡ get_or xs k x → take (k + 1) xs ≡ take k xs ++ x ∷ []
take_item xs k x b read = take_more xs k x b ∙ ap (λ y. take k xs ++ y ∷ []) (sym read)

pub take_all : {X : Type 0} (xs : List X) (k : ℕ) → length xs ≡ k → take k xs ≡ xs
take_all xs k e = ap (λ (n : ℕ). take n xs) (sym e) ∙ take-length xs

-- what is refused by a test changes nothing
refused_state : (s : Components) (step : Step) (e : Fault) → refusal (components_seen s) step ≡ Some e → (next s step).state ≡ s
refused_state s step e is = ap (λ (o : Option Fault). (unless_refused o s (components.step_outcome s step)).state) is

named_fault : (s : Components) (step : Step) (e : Fault) → IsRefusedWith s step e → is_out_of_memory e ≡ false → refusal (components_seen s) step ≡ Some e
named_fault s step e refused other = ⊎_elim
    (λ (y : refusal (components_seen s) step ≡ Some e). y)
    (λ (m : (refusal (components_seen s) step ≡ None) × (e ≡ fault.OutOfMemory) × (takes_memory s step ≡ true)). let is : is_out_of_memory e ≡ true = ap is_out_of_memory m.1 in absurd (cc))
    refused

-- the steps lead where the next-state function leads by those that are remembered
pub end_state : (s t : Components) (steps : List Step) (rs : List (Result Answer Fault)) → AreSteps s steps rs t → state_after s (remembered_steps steps rs) ≡ t
end_state s t [] [] steps = steps
end_state s t [] (r ∷ rs) steps = absurd steps
end_state s t (p ∷ ps) [] steps = absurd steps
end_state s t (p ∷ ps) (Ok a ∷ rs) steps = end_state (next s p).state t ps rs steps.1
end_state s t (p ∷ ps) (Err e ∷ rs) steps =
    let rest = end_state s t ps rs steps.1 in
    ⊎_elim
    (λ (y : is_out_of_memory e ≡ true). rw y rest)
    (λ (n : is_out_of_memory e ≡ false). rw n (ap (λ (u : Components). state_after u (remembered_steps ps rs)) (refused_state s p e (named_fault s p e steps.0 n)) ∙ rest))
    (cases_Bool (is_out_of_memory e))

pub are_run : (s t : Components) (steps : List Step) (rs : List (Result Answer Fault)) → Inv s → AreSteps s steps rs t
    → IsRun (central s) (happenings s (remembered_steps steps rs)) (central t)
are_run s t steps rs inv are = subst (λ (u : Components). IsRun (central s) (happenings s (remembered_steps steps rs)) (central u)) (end_state s t steps rs are) (is_run s (remembered_steps steps rs) inv)

pub are_lawful : (s : Components) (steps : List Step) (rs : List (Result Answer Fault)) → IsLedTo s → IsLawful (central s) (happenings s (remembered_steps steps rs))
are_lawful s steps rs led = list_lawful s (remembered_steps steps rs) led

pub are_discovered_in_turn : (s : Components) (steps : List Step) (rs : List (Result Answer Fault)) → IsLedTo s → IsDiscoveredInTurn (central s) (happenings s (remembered_steps steps rs))
are_discovered_in_turn s steps rs led = list_discovers_in_turn s (remembered_steps steps rs) led
