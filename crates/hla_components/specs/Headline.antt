-- What the components do is what the central machine may do
use Rattle.std.specs.Prelude.{ℕ, ◌≡◌, ◌≢◌, ◌<◌, ◌≤◌, ◌⊎◌, true, Some, List, [], ◌∷◌}
use Rattle.std.specs.List.{All}
use Rattle.hla_base.specs.declared.content.Discovery.{Discovery}
use Rattle.hla_base.specs.declared.number.EventHandle.{EventHandle}
use Rattle.hla_base.specs.declared.row.AdvanceRequest.{AdvanceRequest}
use Rattle.hla_base.specs.Rows.{is_constrained, reach}
use Rattle.hla_catalogue.specs.CatalogueValue.{CatalogueValue}
use Rattle.hla_callbacks.specs.declared.callback.Callback.{Callback}
use Rattle.hla_machine.specs.declared.service.Service.{Service}
use Rattle.hla_machine.specs.declared.step.Step.{Step}
use Rattle.hla_machine.specs.declared.step.Step.TheVariants.{Call}
use Rattle.hla_machine.specs.declared.step.Answer.TheVariants as answer
use Rattle.hla_machine.specs.declared.step.Outcome.TheVariants as outcome
use Rattle.hla_machine.specs.History.{GivesCallback, SpeaksOf, Hears, HearsPlain, Picks, IsGranted, IsInNoFlush, IsInStrict, IsInOneAdvance, IsBefore, WaitsInOrder, IsPickedOrMoved}
use Rattle.hla_machine.specs.Discovered.{Discovers, IsDiscoveredAmong, IsDiscoveredInTurn}
use Rattle.hla_machine.specs.Machine.{MayEnd, after}
use Rattle.hla_machine.specs.Laws.{IsSafe, IsAhead}
use Rattle.hla_machine.specs.Lawful.{IsLawful}
use Rattle.hla_machine.specs.Runs.{Happening, IsMachineStep, IsRun}
use Rattle.hla_components.specs.Components.{Components, new_components}
use Rattle.hla_components.specs.Next.{Outcomes, next}
use Rattle.hla_components.specs.CentralOf.{central}
use Rattle.hla_components.specs.Invariant.{Kept, Inv, CountsEnablings}

abbrev pub happening : Step → Outcomes → Happening
happening step o = record { step = step; outcome = o.outcome; choice = o.choice }

-- one step keeps what always holds, and is one of the machine
pub record IsStep (s : Components) (step : Step) (o : Outcomes) : Type 0 where
  pub kept : Inv o.state
  pub machine : IsMachineStep (central s) (happening step o) (central o.state)

-- the same without the laws of the machine alone, and without what is chosen
pub record IsKeptStep (s : Components) (step : Step) (o : Outcomes) : Type 0 where
  pub kept : Kept o.state
  pub allowed : MayEnd (central s) step o.outcome o.choice
  pub follows : central o.state ≡ after (central s) step o.outcome o.choice

-- what the components answer to a list of steps
abbrev pub happenings : Components → List Step → List Happening
happenings s [] = []
happenings s (step ∷ steps) = let o = next s step in happening step o ∷ happenings o.state steps

abbrev pub state_after : Components → List Step → Components
state_after s [] = s
state_after s (step ∷ steps) = state_after (next s step).state steps

-- whatever the steps, the answers are a run of the machine
abbrev pub EachListIsARun : Type 0
EachListIsARun = (catalogue : CatalogueValue) (steps : List Step) →
    IsRun (central (new_components catalogue)) (happenings (new_components catalogue) steps) (central (state_after (new_components catalogue) steps))

-- a list of steps leads from a new execution to s
pub record IsLedTo (s : Components) : Type 0 where
  pub catalogue : CatalogueValue
  pub steps : List Step
  pub state : s ≡ state_after (new_components catalogue) steps

-- whatever the steps, from whatever other steps led to, what the components answer keeps all laws of the machine
abbrev pub EachListIsLawful : Type 0
EachListIsLawful = (s : Components) (steps : List Step) → IsLedTo s → IsLawful (central s) (happenings s steps)

-- so whatever the steps, each constrained federate is safe
abbrev pub EachFederationIsSafe : Type 0
EachFederationIsSafe = (catalogue : CatalogueValue) (steps : List Step) → IsSafe (central (state_after (new_components catalogue) steps))

-- the invariant holds after each list of steps
abbrev pub EachListKeepsTheInvariant : Type 0
EachListKeepsTheInvariant = (catalogue : CatalogueValue) (steps : List Step) → Inv (state_after (new_components catalogue) steps)

-- at the step after a list of steps nothing is given to a federate in its past
abbrev pub NothingIsGivenInThePast : Type 0
NothingIsGivenInThePast = (catalogue : CatalogueValue) (steps : List Step) (step : Step) (f : ℕ) →
    let now = state_after (new_components catalogue) steps in
    IsAhead (central now) (happening step (next now step)) f

-- after a list of steps f picks up an event outside a flush, then others happen, and f picks up another: its stamp is no less
abbrev pub PicksNeverFall : Type 0
PicksNeverFall = (catalogue : CatalogueValue) (before : List Step) (step : Step) (between : List Step) (later : Step) (f : ℕ) (e x : EventHandle) (s t : ℕ) →
    let now = state_after (new_components catalogue) before in
    let then = state_after (next now step).state between in
    IsInNoFlush (now.row f) → Picks (happening step (next now step)) f e s → Picks (happening later (next then later)) f x t → s ≤ t

-- likewise within one strict request: its key (stamp, sender, serial) is above the other's
abbrev pub PicksRise : Type 0
PicksRise = (catalogue : CatalogueValue) (before : List Step) (step : Step) (between : List Step) (later : Step) (f : ℕ) (e x : EventHandle) (s t : ℕ) →
    let now = state_after (new_components catalogue) before in
    let then = state_after (next now step).state between in
    IsInStrict (now.row f) → IsInOneAdvance (central (next now step).state) (happenings (next now step).state between) f →
    Picks (happening step (next now step)) f e s → Picks (happening later (next then later)) f x t → IsBefore e s x t

-- after a call that answers an event handle, each receiver of that event waits for it in time-stamp order, with its stamp
abbrev pub EachReceiverWaits : Type 0
EachReceiverWaits = (catalogue : CatalogueValue) (before : List Step) (f : ℕ) (service : Service) (e : EventHandle) (g : ℕ) →
    let o = next (state_after (new_components catalogue) before) (Call f service) in
    o.outcome ≡ outcome.Done (answer.Sent (Some e)) → (o.state.sent e.sender e.serial).receivers g ≡ true →
    WaitsInOrder (central o.state) g e (o.state.sent e.sender e.serial).stamp

-- when a constrained federate is granted t, each event that was ever sent to it in time-stamp order, with a stamp
-- below t (for a strict request at most t), is retracted, or the federate has picked it up, or it was moved to receive order
abbrev pub ComponentsGrantAfterAllBefore : Type 0
ComponentsGrantAfterAllBefore = (catalogue : CatalogueValue) (before between : List Step) (step : Step) (f t : ℕ) (q : AdvanceRequest) (e : EventHandle) (s : ℕ) →
    let sent = state_after (new_components catalogue) before in
    let now = state_after sent between in
    IsGranted (happening step (next now step)) f t → is_constrained (now.row f) ≡ true → (now.row f).advance ≡ Some q →
    WaitsInOrder (central sent) f e s → s < reach q.kind t → ((now.sent e.sender e.serial).retracted ≡ true) ⊎ IsPickedOrMoved (central sent) (happenings sent between) f e s

-- ---- who is given what, in whatever order
-- a federate is given messages of others alone
abbrev pub EachHearsOthers : Type 0
EachHearsOthers = (catalogue : CatalogueValue) (before : List Step) (step : Step) (f : ℕ) (e : EventHandle) →
    let now = state_after (new_components catalogue) before in
    Hears (happening step (next now step)) f e → e.sender ≢ f

-- and each at most once
abbrev pub EachHearsOnce : Type 0
EachHearsOnce = (catalogue : CatalogueValue) (before : List Step) (step : Step) (between : List Step) (later : Step) (f : ℕ) (e : EventHandle) →
    let now = state_after (new_components catalogue) before in
    let then = state_after (next now step).state between in
    Hears (happening step (next now step)) f e → Hears (happening later (next then later)) f e → ⊥

-- nothing is given to a federate that is not joined
abbrev pub OnlyTheJoinedAreGiven : Type 0
OnlyTheJoinedAreGiven = (catalogue : CatalogueValue) (before : List Step) (step : Step) (f : ℕ) (k : Callback) →
    let now = state_after (new_components catalogue) before in
    GivesCallback step (next now step).outcome f k → now.directory.joined f ≡ true

-- what one federate sent in receive order is given in the order in which it was sent
abbrev pub EachHearsInOrder : Type 0
EachHearsInOrder = (catalogue : CatalogueValue) (before : List Step) (step : Step) (between : List Step) (later : Step) (f : ℕ) (e x : EventHandle) →
    let now = state_after (new_components catalogue) before in
    let then = state_after (next now step).state between in
    HearsPlain (happening step (next now step)) f e → HearsPlain (happening later (next then later)) f x → e.sender ≡ x.sender → e.serial < x.serial

-- the number and the name of an object are never given twice
abbrev pub EachRegistrationDiffers : Type 0
EachRegistrationDiffers = (catalogue : CatalogueValue) (before : List Step) (step : Step) (between : List Step) (later : Step) (a b : ℕ) (n p : List ℕ) →
    let now = state_after (new_components catalogue) before in
    let then = state_after (next now step).state between in
    (next now step).outcome ≡ outcome.Done (answer.Registered a n) → (next then later).outcome ≡ outcome.Done (answer.Registered b p) → (a ≢ b) × (n ≢ p)

-- when a federate is given an update or the removal of an object, no discovery of that object waits for it any more
abbrev pub EachDiscoversBefore : Type 0
EachDiscoversBefore = (catalogue : CatalogueValue) (before : List Step) (step : Step) (f : ℕ) (k : Callback) (object : ℕ) →
    let now = state_after (new_components catalogue) before in
    GivesCallback step (next now step).outcome f k → SpeaksOf k object → (g : ℕ) → All (λ (d : Discovery). d.object ≢ object) ((central now).discoveries g f)

-- whatever the steps, from whatever other steps led to, each object is discovered first, and once
abbrev pub EachListDiscoversInTurn : Type 0
EachListDiscoversInTurn = (s : Components) (steps : List Step) → IsLedTo s → IsDiscoveredInTurn (central s) (happenings s steps)

-- when a federate is given an update or the removal of an object, it was given the discovery of that object before
abbrev pub EachDiscoversFirst : Type 0
EachDiscoversFirst = (catalogue : CatalogueValue) (before : List Step) (step : Step) (f : ℕ) (k : Callback) (object : ℕ) →
    let now = state_after (new_components catalogue) before in
    GivesCallback step (next now step).outcome f k → SpeaksOf k object → IsDiscoveredAmong (happenings (new_components catalogue) before) f object

-- and it is given that once
abbrev pub EachDiscoversOnce : Type 0
EachDiscoversOnce = (catalogue : CatalogueValue) (before : List Step) (step : Step) (between : List Step) (later : Step) (f object : ℕ) →
    let now = state_after (new_components catalogue) before in
    let then = state_after (next now step).state between in
    Discovers (happening step (next now step)) f object → Discovers (happening later (next then later)) f object → ⊥

-- ---- epochs
-- the epoch of each joined federate is how often it has enabled time regulation
abbrev pub EachEpochCounts : Type 0
EachEpochCounts = (catalogue : CatalogueValue) (steps : List Step) → CountsEnablings (state_after (new_components catalogue) steps)
