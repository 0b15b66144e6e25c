-- When a federate is asked to take a message back
use Rattle.std.specs.Prelude.{ℕ, ◌≡◌, ◌⊎◌, List, [], ◌∷◌}
use Rattle.hla_base.specs.declared.number.EventHandle.{EventHandle}
use Rattle.hla_callbacks.specs.declared.callback.Callback.TheVariants as callback
use Rattle.hla_machine.specs.declared.service.Service.TheVariants as service
use Rattle.hla_machine.specs.declared.step.Step.TheVariants.{Call}
use Rattle.hla_machine.specs.declared.step.Answer.TheVariants as answer
use Rattle.hla_machine.specs.declared.step.Outcome.TheVariants as outcome
use Rattle.hla_machine.specs.Runs.{Happening}
use Rattle.hla_machine.specs.History.{GivesCallback, Hears}

-- at one of these happenings the sender of e retracts it
abbrev pub IsRetractedAmong : List Happening → EventHandle → Type 0
IsRetractedAmong [] e = ⊥
IsRetractedAmong (h ∷ hs) e = ((h.step ≡ Call e.sender (service.Retract e)) × (h.outcome ≡ outcome.Done answer.Done)) ⊎ IsRetractedAmong hs e

-- at one of them f is given the message that e names
abbrev pub IsHeardAmong : List Happening → ℕ → EventHandle → Type 0
IsHeardAmong [] f e = ⊥
IsHeardAmong (h ∷ hs) f e = Hears h f e ⊎ IsHeardAmong hs f e

-- at none of them f is asked to take e back
abbrev pub IsUnasked : List Happening → ℕ → EventHandle → Type 0
IsUnasked [] f e = Unit {0}
IsUnasked (h ∷ hs) f e = (GivesCallback h.step h.outcome f (callback.RequestRetraction e) → ⊥) × IsUnasked hs f e

-- what f may be asked to take back: its sender has retracted it, f was given it, and f was never asked so before
pub record IsAskedBack (earlier : List Happening) (f : ℕ) (e : EventHandle) : Type 0 where
  pub retracted : IsRetractedAmong earlier e
  pub heard : IsHeardAmong earlier f e
  pub unasked : IsUnasked earlier f e
