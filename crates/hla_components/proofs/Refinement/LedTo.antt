-- What a list of steps leads to, and that what happens from there is lawful
use Rattle.std.proofs.Common.{◌≡◌, refl, sym, subst, ap, ◌∙◌, List, [], ◌∷◌, ◌++◌}
use Rattle.hla_catalogue.specs.CatalogueValue.{CatalogueValue}
use Rattle.hla_machine.specs.declared.step.Step.{Step}
use Rattle.hla_machine.specs.History.{HasHistory}
use Rattle.hla_machine.specs.Lawful.{IsLawful}
use Rattle.hla_machine.proofs.Histories.Lawful.{each_lawful}
use Rattle.hla_components.specs.Components.{Components, new_components}
use Rattle.hla_components.specs.CentralOf.{central}
use Rattle.hla_components.specs.Invariant.{Inv}
use Rattle.hla_components.specs.Next.{next}
use Rattle.hla_components.specs.Headline.{IsLedTo, happenings, state_after}
use Rattle.hla_components.proofs.Refinement.Runs.{is_run, start_run, each_inv}

-- lists of steps one after another
pub state_appended : (s : Components) (xs ys : List Step) → state_after s (xs ++ ys) ≡ state_after (state_after s xs) ys
state_appended s [] ys = refl
state_appended s (x ∷ xs) ys = state_appended (next s x).state xs ys

pub led_start : (catalogue : CatalogueValue) → IsLedTo (new_components catalogue)
led_start catalogue = record { catalogue = catalogue; steps = []; state = refl }

pub led_after : (s : Components) (steps : List Step) → IsLedTo s → IsLedTo (state_after s steps)
led_after s steps is = record {
  catalogue = is.catalogue;
  steps = is.steps ++ steps;
  state = ap (λ (t : Components). state_after t steps) is.state ∙ sym (state_appended (new_components is.catalogue) is.steps steps);
}

pub led_next : (s : Components) (step : Step) → IsLedTo s → IsLedTo (next s step).state
led_next s step is = led_after s (step ∷ []) is

pub led_inv : (s : Components) → IsLedTo s → Inv s
led_inv s is = subst Inv (sym is.state) (each_inv is.catalogue is.steps)

-- so the machine's state has a history
pub led_history : (s : Components) → IsLedTo s → HasHistory (central s)
led_history s is = subst (λ (t : Components). HasHistory (central t)) (sym is.state)
    (record { catalogue = is.catalogue; before = happenings (new_components is.catalogue) is.steps; run = start_run is.catalogue is.steps })

pub list_lawful : (s : Components) (steps : List Step) → IsLedTo s → IsLawful (central s) (happenings s steps)
list_lawful s steps is = each_lawful (central s) (happenings s steps) (central (state_after s steps)) (led_history s is) (is_run s steps (led_inv s is))
