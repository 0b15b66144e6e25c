-- How a caller waits for the lock, by what steps are in vain.
use Rattle.std.specs.Prelude.{ℕ, ◌+◌, ◌-◌, ◌^◌, ◌≡◌, min, Bool, true, false, None, cond, eqb}
use Rattle.hla_machine.specs.declared.step.Answer.TheVariants as answer
use Rattle.hla_machine.specs.declared.step.Carried.TheVariants as carried
use Rattle.hla_machine.specs.declared.step.Outcome.{Outcome}
use Rattle.hla_machine.specs.declared.step.Outcome.TheVariants as outcome
use Rattle.hla_callers.specs.declared.patience.Patience.{Patience}

-- a tick gave nothing, a federate had nothing to announce, or nothing was on a wire
abbrev pub is_vain : Outcome → Bool
is_vain (outcome.Done (answer.Ticked None)) = true
is_vain (outcome.Done (answer.Announced None)) = true
is_vain (outcome.Done (answer.Carried carried.Nothing)) = true
is_vain _ = false

-- how many steps have been in vain once another has ended so, as far as 64 bits count
abbrev pub vain_steps_then : ℕ → Outcome → ℕ
vain_steps_then n out = cond (is_vain out) (min (n + 1) (2 ^ 64 - 1)) n

-- how often the lock was found taken, once a caller that knew so many steps in vain learns of so many
abbrev pub finds_after : ℕ → ℕ → ℕ → ℕ
finds_after known learned finds = cond (eqb known learned) finds 0

-- a caller learns how many steps have been in vain
abbrev pub Learns : Patience → ℕ → Patience → Type 0
Learns old n new = (new.finds ≡ finds_after old.vain_steps n old.finds) × (new.vain_steps ≡ n)
