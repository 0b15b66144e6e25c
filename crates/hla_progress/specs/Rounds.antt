-- Rounds of announcing, carrying and ticking, and what their records hold
use Rattle.std.specs.Prelude.{ℕ, zero, suc, ◌+◌, ◌≡◌, ◌⊎◌, cond, eqb, Bool, true, false, List, [], ◌∷◌, ◌++◌, replicate}
use Rattle.hla_base.specs.Tables.{one_if}
use Rattle.hla_callbacks.specs.declared.callback.Callback.{Callback}
use Rattle.hla_machine.specs.declared.step.Step.{Step}
use Rattle.hla_machine.specs.declared.step.Step.TheVariants.{Join, Call, Carry, Announce, Tick}
use Rattle.hla_machine.specs.History.{GivesCallback}
use Rattle.hla_machine.specs.Runs.{Happening}

-- each of the federates 1 to n announces
unfoldable pub announcements : ℕ → List Step
announcements zero = []
announcements (suc n) = announcements n ++ Announce (suc n) ∷ []

-- the wire from g to each other of the federates 1 to n is carried so many times
unfoldable pub carries_from : ℕ → ℕ → ℕ → List Step
carries_from g times zero = []
carries_from g times (suc n) = carries_from g times n ++ cond (eqb g (suc n)) [] (replicate times (Carry g (suc n)))

-- and from each of the federates 1 to g
unfoldable pub carries_to : ℕ → ℕ → ℕ → List Step
carries_to n times zero = []
carries_to n times (suc g) = carries_to n times g ++ carries_from (suc g) times n

-- each of the federates 1 to n ticks
unfoldable pub ticks : ℕ → List Step
ticks zero = []
ticks (suc n) = ticks n ++ Tick (suc n) ∷ []

-- everyone announces, every wire is carried m + 1 times, everyone ticks: m is to be as long as the longest wire
abbrev pub round : ℕ → ℕ → List Step
round n m = announcements n ++ (carries_to n (m + 1) n ++ ticks n)

-- so many rounds
abbrev pub rounds : ℕ → ℕ → ℕ → List Step
rounds zero n m = []
rounds (suc k) n m = round n m ++ rounds k n m

-- a step of which rounds are made
abbrev pub IsOfRounds : Step → Type 0
IsOfRounds (Join name) = ⊥
IsOfRounds (Call f service) = ⊥
IsOfRounds (Carry from to) = Unit {0}
IsOfRounds (Announce f) = Unit {0}
IsOfRounds (Tick f) = Unit {0}

abbrev pub is_tick_of : ℕ → Step → Bool
is_tick_of f (Join name) = false
is_tick_of f (Call g service) = false
is_tick_of f (Carry from to) = false
is_tick_of f (Announce g) = false
is_tick_of f (Tick g) = eqb f g

-- how often f ticks
abbrev pub ticks_of : ℕ → List Step → ℕ
ticks_of f [] = 0
ticks_of f (step ∷ steps) = one_if (is_tick_of f step) + ticks_of f steps

-- f is given a callback of the kind P
abbrev pub IsGiven : Happening → ℕ → (Callback → Type 0) → Type 0
IsGiven h f P = (k : Callback) × GivesCallback h.step h.outcome f k × P k

-- at one of the happenings f is given a callback of the kind P, and each tick of f before it gives some callback
abbrev pub IsGivenAtLast : List Happening → ℕ → (Callback → Type 0) → Type 0
IsGivenAtLast [] f P = ⊥
IsGivenAtLast (h ∷ hs) f P = IsGiven h f P ⊎ ((is_tick_of f h.step ≡ true → IsGiven h f (λ _. Unit {0})) × IsGivenAtLast hs f P)

-- at one of the happenings f is given a callback of the kind P
abbrev pub IsGivenIn : List Happening → ℕ → (Callback → Type 0) → Type 0
IsGivenIn [] f P = ⊥
IsGivenIn (h ∷ hs) f P = IsGiven h f P ⊎ IsGivenIn hs f P
