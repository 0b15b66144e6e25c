-- The services that request an advance, and which of them a grant answers
use Rattle.std.specs.Prelude.{ℕ, ◌≡◌, ◌≤◌, ◌⊎◌, true, false, List, [], ◌∷◌, ◌++◌}
use Rattle.hla_base.specs.declared.number.EventHandle.{EventHandle}
use Rattle.hla_base.specs.declared.row.AdvanceKind.{AdvanceKind}
use Rattle.hla_base.specs.declared.row.AdvanceKind.TheVariants as kind
use Rattle.hla_base.specs.declared.row.AdvanceRequest.{AdvanceRequest}
use Rattle.hla_base.specs.Rows.{is_next, is_flush}
use Rattle.hla_machine.specs.declared.service.Service.{Service}
use Rattle.hla_machine.specs.declared.service.Service.TheVariants as service
use Rattle.hla_machine.specs.declared.step.Step.TheVariants.{Call}
use Rattle.hla_machine.specs.declared.step.Answer.TheVariants as answer
use Rattle.hla_machine.specs.declared.step.Outcome.TheVariants as outcome
use Rattle.hla_machine.specs.Runs.{Happening}
use Rattle.hla_machine.specs.History.{Picks, IsGranted}

abbrev pub request_service : AdvanceKind → ℕ → Service
request_service kind.TimeAdvance time = service.TimeAdvanceRequest time
request_service kind.TimeAdvanceAvailable time = service.TimeAdvanceRequestAvailable time
request_service kind.NextEvent time = service.NextEventRequest time
request_service kind.NextEventAvailable time = service.NextEventRequestAvailable time
request_service kind.FlushQueue time = service.FlushQueueRequest time

-- among these happenings f picks up an event with stamp s in time-stamp order
abbrev pub IsPickedAmong : List Happening → ℕ → ℕ → Type 0
IsPickedAmong [] f s = ⊥
IsPickedAmong (h ∷ hs) f s = ((e : EventHandle) × Picks h f e s) ⊎ IsPickedAmong hs f s

-- f requests this advance, which is done
abbrev pub IsRequested : Happening → ℕ → AdvanceKind → ℕ → Type 0
IsRequested h f kind time = (h.step ≡ Call f (request_service kind time)) × (h.outcome ≡ outcome.Done answer.Done)

-- at none of them f is granted a time, or requests an advance that is done: its last request stands
abbrev pub IsUnanswered : List Happening → ℕ → Type 0
IsUnanswered [] f = Unit {0}
IsUnanswered (h ∷ hs) f = ((t : ℕ) → IsGranted h f t → ⊥) × ((kind : AdvanceKind) (time : ℕ) → IsRequested h f kind time → ⊥) × IsUnanswered hs f

-- the time of a grant is at most the time that was asked for, and but for a flush that time itself, or in a next-event request the stamp
-- of an event that was picked up since
abbrev pub IsTimeGranted : AdvanceRequest → List Happening → ℕ → ℕ → Type 0
IsTimeGranted q since f t = (t ≤ q.asked) × (is_flush q.kind ≡ false → (t ≡ q.asked) ⊎ ((is_next q.kind ≡ true) × IsPickedAmong since f t))

-- of the happenings before a grant of t to f one is the request that it answers, the last that was done, and f was granted nothing since
pub record IsAskedFor (earlier : List Happening) (f t : ℕ) : Type 0 where
  pub request : AdvanceRequest
  pub before : List Happening
  pub call : Happening
  pub since : List Happening
  pub whole : earlier ≡ before ++ (call ∷ since)
  pub requested : IsRequested call f request.kind request.asked
  pub unanswered : IsUnanswered since f
  pub time : IsTimeGranted request since f t
