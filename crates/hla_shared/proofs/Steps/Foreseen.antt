-- What an execution's contracts say of the components under the lock.
use Rattle.std.proofs.Common.{◌≡◌, ℕ, List, refl, sym, subst, ◌∙◌, ap, Option, Some}
use Rattle.hla_base.specs.declared.fault.Fault.{Fault}
use Rattle.hla_machine.specs.declared.step.Step.{Step}
use Rattle.hla_machine.specs.declared.step.Act.{Act}
use Rattle.hla_machine.specs.declared.step.Act.TheVariants as act
use Rattle.hla_machine.specs.declared.step.Answer.{Answer}
use Rattle.hla_machine.specs.declared.step.Outcome.{Outcome}
use Rattle.hla_machine.specs.declared.step.Outcome.TheVariants as outcome
use Rattle.hla_machine.specs.declared.step.Choice.{Choice}
use Rattle.hla_machine.specs.declared.step.Record.{Record}
use Rattle.hla_machine.specs.Refusals.{refusal}
use Rattle.hla_components.specs.Components.{Components}
use Rattle.hla_components.specs.Next.{next, components_seen, step_outcome, unless_refused}
use Rattle.hla_execution.specs.FederationValue.{FederationValue}
use Rattle.hla_execution.specs.StateOf.{state_of}
use Rattle.hla_history.specs.Hosting.{components_hosted, IsEndOfAct}

-- the record of a step that ends as foreseen
abbrev pub step_record_in : Components → ℕ → List ℕ → Step → Record
step_record_in s actor name step = record { actor = actor; execution = name; act = act.Step step; outcome = (next s step).outcome; choice = (next s step).choice }

pub foreseen_record : (f : FederationValue) (actor : ℕ) (name : List ℕ) (step : Step) (out : Outcome) (chosen : Choice)
    → out ≡ (next (state_of f) step).outcome → chosen ≡ (next (state_of f) step).choice
    → record { actor = actor; execution = name; act = act.Step step; outcome = out; choice = chosen } ≡ step_record_in (components_hosted f) actor name step
unfolding components_hosted
foreseen_record f actor name step out chosen ends chooses = λ i. record { actor = actor; execution = name; act = act.Step step; outcome = ends i; choice = chooses i }

pub does_step : (old new : FederationValue) (step : Step) → state_of new ≡ (next (state_of old) step).state → components_hosted new ≡ (next (components_hosted old) step).state
unfolding components_hosted
does_step old new step is = is

pub refused_stays : (old new : FederationValue) (step : Step) (e : Fault) → new ≡ old → refusal (components_seen (state_of old)) step ≡ Some e
    → components_hosted new ≡ (next (components_hosted old) step).state
unfolding components_hosted
refused_stays old new step e same is =
    ap (λ (f : FederationValue). state_of f) same
    ∙ sym (ap (λ (o : Option Fault). (unless_refused o (state_of old) (step_outcome (state_of old) step)).state) is)

-- the same under a name that was copied
pub foreseen_named : (f : FederationValue) (actor : ℕ) (n name : List ℕ) (step : Step) (out : Outcome) (chosen : Choice)
    → n ≡ name → out ≡ (next (state_of f) step).outcome → chosen ≡ (next (state_of f) step).choice
    → record { actor = actor; execution = n; act = act.Step step; outcome = out; choice = chosen } ≡ step_record_in (components_hosted f) actor name step
foreseen_named f actor n name step out chosen same ends chooses =
    foreseen_record f actor n step out chosen ends chooses ∙ ap (λ (k : List ℕ). step_record_in (components_hosted f) actor k step) same

-- how a step ends, done or refused
pub done_ends : (f : FederationValue) (step : Step) (a : Answer) → (next (state_of f) step).outcome ≡ outcome.Done a → outcome.Done a ≡ (next (components_hosted f) step).outcome
unfolding components_hosted
done_ends f step a is = sym is

pub refused_ends : (f : FederationValue) (step : Step) (e : Fault) → refusal (components_seen (state_of f)) step ≡ Some e → outcome.Refused e ≡ (next (components_hosted f) step).outcome
unfolding components_hosted
refused_ends f step e is = sym (ap (λ (o : Option Fault). (unless_refused o (state_of f) (step_outcome (state_of f) step)).outcome) is)

-- an act's step ends in one way
pub one_end : (c : Components) (a : Act) (out other : Outcome) → IsEndOfAct c a out → IsEndOfAct c a other → out ≡ other
one_end c (act.Create catalogue) out other e g = absurd e
one_end c act.Destroy out other e g = absurd e
one_end c (act.Step step) out other e g = e ∙ sym g

pub foreseen_end : (f : FederationValue) (actor : ℕ) (name : List ℕ) (step : Step) (made : Record) → made ≡ step_record_in (components_hosted f) actor name step → IsEndOfAct (components_hosted f) made.act made.outcome
foreseen_end f actor name step made is = subst (λ (r : Record). IsEndOfAct (components_hosted f) r.act r.outcome) (sym is) refl
