-- Worked examples of rounds: what two federates are given in them
use Rattle.std.specs.Prelude.{ℕ, ◌≡◌, Some, List, [], ◌∷◌, ◌++◌, codes}
use Rattle.hla_callbacks.specs.declared.callback.Callback.{Callback}
use Rattle.hla_callbacks.specs.declared.callback.Callback.TheVariants as callback
use Rattle.hla_machine.specs.declared.service.Service.{Service}
use Rattle.hla_machine.specs.declared.service.Service.TheVariants as service
use Rattle.hla_machine.specs.declared.step.Step.{Step}
use Rattle.hla_machine.specs.declared.step.Step.TheVariants.{Join, Call, Carry, Tick}
use Rattle.hla_machine.specs.declared.step.Answer.TheVariants as answer
use Rattle.hla_machine.specs.declared.step.Outcome.{Outcome}
use Rattle.hla_machine.specs.declared.step.Outcome.TheVariants as outcome
use Rattle.hla_machine.specs.Runs.{Happening}
use Rattle.hla_components.specs.Components.{new_components}
use Rattle.hla_components.specs.Headline.{happenings, state_after}
use Rattle.hla_components.specs.Examples.Words.{catalogue, A, B}
use Rattle.hla_progress.specs.Rounds.{rounds}

-- the callbacks of these happenings, each with the federate to which it is given
abbrev pub given_at : Step → Outcome → List (ℕ × Callback)
given_at (Tick f) (outcome.Done (answer.Ticked (Some k))) = (f, k) ∷ []
given_at step out = []

abbrev pub callbacks_of : List Happening → List (ℕ × Callback)
callbacks_of [] = []
callbacks_of (h ∷ hs) = given_at h.step h.outcome ++ callbacks_of hs

-- A and B regulate with the lookahead 0, are constrained, and know that of each other; then each makes its request
abbrev pub two_with_requests : Service → Service → List Step
two_with_requests a b =
    Join (codes "A") ∷ Join (codes "B")
    ∷ Call A (service.EnableTimeRegulation 0 0) ∷ Tick A ∷ Carry A B
    ∷ Call B (service.EnableTimeRegulation 0 0) ∷ Tick B ∷ Carry B A
    ∷ Call A service.EnableTimeConstrained ∷ Tick A
    ∷ Call B service.EnableTimeConstrained ∷ Tick B
    ∷ Call A a ∷ Call B b
    ∷ []

-- what they are given in so many rounds from there
abbrev pub given_in_rounds : Service → Service → ℕ → List (ℕ × Callback)
given_in_rounds a b k = callbacks_of (happenings (state_after (new_components catalogue) (two_with_requests a b)) (rounds k 2 1))

-- Next Event Requests of the lookahead 0, 3 away: each round but the first raises both bounds by one, and both are granted in the fourth
abbrev pub GrantedInTheFourthRound : Type 0
GrantedInTheFourthRound =
    (given_in_rounds (service.NextEventRequest 3) (service.NextEventRequest 3) 3 ≡ [])
    × (given_in_rounds (service.NextEventRequest 3) (service.NextEventRequest 3) 4 ≡ (A, callback.TimeAdvanceGrant 3) ∷ (B, callback.TimeAdvanceGrant 3) ∷ [])

-- two available ones hold each other for ever
abbrev pub NeverGranted : Type 0
NeverGranted = (k : ℕ) → given_in_rounds (service.NextEventRequestAvailable 3) (service.NextEventRequestAvailable 3) k ≡ []

-- one Next Event Request with a Time Advance Request: it is granted in the first round, and the other in the second, however far away
abbrev pub GrantedInTheSecondRound : Type 0
GrantedInTheSecondRound =
    (given_in_rounds (service.NextEventRequest 1000) (service.TimeAdvanceRequest 1000) 1 ≡ (A, callback.TimeAdvanceGrant 1000) ∷ [])
    × (given_in_rounds (service.NextEventRequest 1000) (service.TimeAdvanceRequest 1000) 2 ≡ (A, callback.TimeAdvanceGrant 1000) ∷ (B, callback.TimeAdvanceGrant 1000) ∷ [])
