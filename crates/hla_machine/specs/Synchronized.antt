-- What a run says of synchronization points: when one closes, and what each federate is told (HLA 1.3, federation management)
use Rattle.std.specs.Prelude.{ℕ, ◌≡◌, cond, eqb, not, ◌&&◌, true, false, Some, List, [], ◌∷◌, ◌++◌, filter, map}
use Rattle.hla_base.specs.declared.notice.Notice.{Notice}
use Rattle.hla_base.specs.declared.notice.NoticeKind.TheVariants as kind
use Rattle.hla_synchronization.specs.Points.{Point, is_open, notice}
use Rattle.hla_callbacks.specs.declared.callback.Callback.{Callback}
use Rattle.hla_callbacks.specs.declared.callback.Callback.TheVariants as callback
use Rattle.hla_machine.specs.declared.service.Service.TheVariants as service
use Rattle.hla_machine.specs.declared.step.Step.{Step}
use Rattle.hla_machine.specs.declared.step.Step.TheVariants.{Call, Tick}
use Rattle.hla_machine.specs.declared.step.Answer.TheVariants as answer
use Rattle.hla_machine.specs.declared.step.Outcome.{Outcome}
use Rattle.hla_machine.specs.declared.step.Outcome.TheVariants as outcome
use Rattle.hla_machine.specs.Central.{Central}
use Rattle.hla_machine.specs.Runs.{Happening}
use Rattle.hla_machine.specs.History.{GivesCallback, next_state, central_after}

-- ---- who has achieved a point
-- a point of that label is open
abbrev pub IsPointOpen : Central → List ℕ → Type 0
IsPointOpen c label = is_open label c.directory.points ≡ true

-- it is open when each of these happens, so it is one point
abbrev pub StaysOpen : Central → List Happening → List ℕ → Type 0
StaysOpen c [] label = Unit {0}
StaysOpen c (h ∷ hs) label = IsPointOpen c label × StaysOpen (next_state c h) hs label

-- it closes at h
abbrev pub Closes : Central → Happening → List ℕ → Type 0
Closes c h label = IsPointOpen c label × (is_open label (next_state c h).directory.points ≡ false)

-- f's call Synchronization Point Achieved of that label is done
abbrev pub Achieves : Happening → ℕ → List ℕ → Type 0
Achieves h f label = (h.step ≡ Call f (service.SynchronizationPointAchieved label)) × (h.outcome ≡ outcome.Done answer.Done)

-- among the happenings from c, f is told of the point and after that achieves it, and it is the same point up to the last of them
pub record HasAchieved (c : Central) (happenings : List Happening) (f : ℕ) (label : List ℕ) : Type 0 where
  pub before : List Happening
  pub announcement : Happening
  pub between : List Happening
  pub achievement : Happening
  pub rest : List Happening
  pub whole : happenings ≡ before ++ (announcement ∷ (between ++ (achievement ∷ rest)))
  pub told : GivesCallback announcement.step announcement.outcome f (callback.AnnounceSynchronizationPoint label)
  pub achieves : Achieves achievement f label
  pub same : StaysOpen (central_after c before) (announcement ∷ (between ++ (achievement ∷ rest))) label

-- some federate that is joined in the state now has not achieved the point among the happenings that led there from c
pub record WaitsForSome (c : Central) (happenings : List Happening) (now : Central) (label : List ℕ) : Type 0 where
  pub federate : ℕ
  pub member : now.directory.joined federate ≡ true
  pub lacks : HasAchieved c happenings federate label → ⊥

-- f is joined after each of these
abbrev pub StaysJoined : Central → List Happening → ℕ → Type 0
StaysJoined c [] f = Unit {0}
StaysJoined c (h ∷ hs) f = ((next_state c h).directory.joined f ≡ true) × StaysJoined (next_state c h) hs f

-- among the happenings from c, the point closes, when each federate that is then joined has achieved it, and f is joined from then on
pub record IsSynchronizedAmong (c : Central) (happenings : List Happening) (f : ℕ) (label : List ℕ) : Type 0 where
  pub before : List Happening
  pub closing : Happening
  pub rest : List Happening
  pub whole : happenings ≡ before ++ (closing ∷ rest)
  pub closes : Closes (central_after c before) closing label
  pub all : (g : ℕ) → (next_state (central_after c before) closing).directory.joined g ≡ true → HasAchieved c (before ++ (closing ∷ [])) g label
  pub member : StaysJoined (central_after c before) (closing ∷ rest) f

-- ---- what becomes due to a federate, and what it is told
-- the labels of the open points, in order of opening
abbrev pub labels_open : Central → List (List ℕ)
labels_open c = map (λ (p : Point). p.label) c.directory.points

-- that its registration succeeded, or failed since a point of that label was open
abbrev pub registration_due : Central → Step → Outcome → ℕ → List Notice
registration_due c (Call g (service.RegisterFederationSynchronizationPoint label)) (outcome.Done a) f =
    cond (eqb g f) (notice (cond (is_open label c.directory.points) kind.RegistrationFailed kind.RegistrationSucceeded) label ∷ []) []
registration_due c step out f = []

-- the points that open, and for one who joins all that are open
abbrev pub opening_at : Central → Happening → ℕ → List (List ℕ)
opening_at c h f = filter (λ label. not (c.directory.joined f && is_open label c.directory.points)) (labels_open (next_state c h))

-- the points that close
abbrev pub closing_at : Central → Happening → List (List ℕ)
closing_at c h = filter (λ label. not (is_open label (next_state c h).directory.points)) (labels_open c)

-- what becomes due to f, which is joined after it: the answer to its registration, the announcement of each point that opens (or is open when
-- it joins), and of each point that closes that the federation is synchronized
abbrev pub due_at : Central → Happening → ℕ → List Notice
due_at c h f = registration_due c h.step h.outcome f ++ (map (notice kind.Announced) (opening_at c h f) ++ map (notice kind.Synchronized) (closing_at c h))

abbrev pub due_over : Central → List Happening → ℕ → List Notice
due_over c [] f = []
due_over c (h ∷ hs) f = due_at c h f ++ due_over (next_state c h) hs f

-- what a callback tells of synchronization points
abbrev pub notices_told : Callback → List Notice
notices_told (callback.SynchronizationPointRegistrationSucceeded label) = notice kind.RegistrationSucceeded label ∷ []
notices_told (callback.SynchronizationPointRegistrationFailed label) = notice kind.RegistrationFailed label ∷ []
notices_told (callback.AnnounceSynchronizationPoint label) = notice kind.Announced label ∷ []
notices_told (callback.FederationSynchronized label) = notice kind.Synchronized label ∷ []
notices_told k = []

abbrev pub notices_given : Step → Outcome → ℕ → List Notice
notices_given (Tick g) (outcome.Done (answer.Ticked (Some k))) f = cond (eqb g f) (notices_told k) []
notices_given (Tick g) (outcome.Failed k) f = cond (eqb g f) (notices_told k) []
notices_given step out f = []

abbrev pub told_over : List Happening → ℕ → List Notice
told_over [] f = []
told_over (h ∷ hs) f = notices_given h.step h.outcome f ++ told_over hs f
