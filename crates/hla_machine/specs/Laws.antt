-- What every run of the machine keeps, whatever the components are
use Rattle.std.specs.Prelude.{ℕ, ◌≡◌, ◌≢◌, ◌≤◌, ◌<◌, ◌⊎◌, true, false, Some, List, [], ◌∷◌, ◌++◌}
use Rattle.std.specs.List.{All}
use Rattle.hla_base.specs.declared.content.Discovery.{Discovery}
use Rattle.hla_base.specs.declared.number.EventHandle.{EventHandle}
use Rattle.hla_base.specs.declared.row.AdvanceRequest.{AdvanceRequest}
use Rattle.hla_base.specs.Rows.{is_constrained, reach}
use Rattle.hla_catalogue.specs.CatalogueValue.{CatalogueValue}
use Rattle.hla_machine.specs.Central.{Central, new_central, BelowAllTso, BelowBound}
use Rattle.hla_callbacks.specs.declared.callback.Callback.{Callback}
use Rattle.hla_callbacks.specs.declared.callback.Callback.TheVariants as callback
use Rattle.hla_machine.specs.declared.service.Service.{Service}
use Rattle.hla_machine.specs.declared.step.Step.TheVariants.{Call}
use Rattle.hla_machine.specs.declared.step.Answer.TheVariants as answer
use Rattle.hla_machine.specs.declared.step.Outcome.TheVariants as outcome
use Rattle.hla_machine.specs.declared.step.Choice.{Choice}
use Rattle.hla_machine.specs.Machine.{Allowed, after}
use Rattle.hla_machine.specs.Runs.{Happening, IsRun}
use Rattle.hla_machine.specs.History.{GivesCallback, SpeaksOf, Hears, HearsPlain, Picks, IsGranted, Happens, HappenAfter, IsInNoFlush, IsInStrict, IsInOneAdvance, IsBefore, next_state, HappensLater, WaitsInOrder, IsPickedOrMoved, GoesInItsOrder}
use Rattle.hla_machine.specs.Advancing.{IsAskedFor}
use Rattle.hla_machine.specs.AskedBack.{IsAskedBack}
use Rattle.hla_machine.specs.Discovered.{IsRegisteredFor}
use Rattle.hla_machine.specs.Synchronized.{IsPointOpen, Closes, HasAchieved, WaitsForSome, StaysJoined, IsSynchronizedAmong, due_over, told_over}

-- a constrained federate is safe: its time is at most its bar, the bar is at most its bound, and nothing that is
-- to be given in time-stamp order lies in its past
pub record IsSafe (c : Central) : Type 0 where
  pub barred : (f : ℕ) → is_constrained (c.row f) ≡ true → (c.row f).time ≤ (c.row f).bar
  pub bounded : (f : ℕ) → is_constrained (c.row f) ≡ true → BelowBound c f (c.row f).bar
  pub ahead : (f : ℕ) → is_constrained (c.row f) ≡ true → BelowAllTso c f (c.row f).time

abbrev pub EachRunIsSafe : Type 0
EachRunIsSafe = (catalogue : CatalogueValue) (happenings : List Happening) (c : Central) → IsRun (new_central catalogue) happenings c → IsSafe c

-- nothing is given to a federate in its past: no pick and no grant is below its time, and its time never falls
pub record IsAhead (c : Central) (h : Happening) (f : ℕ) : Type 0 where
  pub picks : (e : EventHandle) (s : ℕ) → Picks h f e s → (c.row f).time ≤ s
  pub grants : (t : ℕ) → IsGranted h f t → (c.row f).time ≤ t
  pub time : c.directory.joined f ≡ true → (next_state c h).directory.joined f ≡ true → (c.row f).time ≤ ((next_state c h).row f).time

abbrev pub NothingIsInThePast : Type 0
NothingIsInThePast = (c : Central) (h : Happening) (f : ℕ) → Happens c h → IsAhead c h f

-- the stamp of a pick outside flushes is at most that of each later pick
abbrev pub StampsNeverFall : Type 0
StampsNeverFall = (c : Central) (h : Happening) (between : List Happening) (d : Central) (i : Happening) (f : ℕ) (e x : EventHandle) (s t : ℕ) →
    HappenAfter c h between d i → IsInNoFlush (c.row f) → Picks h f e s → Picks i f x t → s ≤ t

-- within one strict request the keys of the picks rise
abbrev pub KeysRise : Type 0
KeysRise = (c : Central) (h : Happening) (between : List Happening) (d : Central) (i : Happening) (f : ℕ) (e x : EventHandle) (s t : ℕ) →
    HappenAfter c h between d i → IsInStrict (c.row f) → IsInOneAdvance (next_state c h) between f → Picks h f e s → Picks i f x t → IsBefore e s x t

-- when a constrained federate is granted t, each event that was ever sent to it in time-stamp order, with a stamp
-- below t (for a strict request at most t), is retracted, or the federate has picked it up, or it was moved to receive order
abbrev pub GrantedAfterAllBefore : Type 0
GrantedAfterAllBefore = (c : Central) (between : List Happening) (d : Central) (h : Happening) (f t : ℕ) (q : AdvanceRequest) (e : EventHandle) (s : ℕ) →
    HappensLater c between d h → IsGranted h f t → is_constrained (d.row f) ≡ true → (d.row f).advance ≡ Some q →
    WaitsInOrder c f e s → s < reach q.kind t → ((d.sent e.sender e.serial).retracted ≡ true) ⊎ IsPickedOrMoved c between f e s

-- after a call that answers an event handle, each receiver of that event waits for it in time-stamp order, with its stamp
abbrev pub ReceiversWait : Type 0
ReceiversWait = (c : Central) (f : ℕ) (service : Service) (e : EventHandle) (o : Choice) (g : ℕ) →
    let out = outcome.Done (answer.Sent (Some e)) in
    let d = after c (Call f service) out o in
    Allowed c (Call f service) out o → (d.sent e.sender e.serial).receivers g ≡ true → WaitsInOrder d g e (d.sent e.sender e.serial).stamp

-- what a call sends goes in the order that it has now; so, with what is said of sending, it goes in time-stamp order exactly where that
-- order is `timestamp`, its sender regulates, and there is a stamp
abbrev pub EachGoesInItsOrder : Type 0
EachGoesInItsOrder = (c : Central) (f : ℕ) (service : Service) → GoesInItsOrder c.directory f service

-- a federate is given a message of another's alone
abbrev pub NobodyHearsItself : Type 0
NobodyHearsItself = (c : Central) (h : Happening) (f : ℕ) (e : EventHandle) → Happens c h → Hears h f e → e.sender ≢ f

-- a federate is given a message at most once
abbrev pub EachMessageOnce : Type 0
EachMessageOnce = (c : Central) (h : Happening) (between : List Happening) (d : Central) (i : Happening) (f : ℕ) (e : EventHandle) →
    HappenAfter c h between d i → Hears h f e → Hears i f e → ⊥

-- a federate that is given anything is joined
abbrev pub GivenToTheJoined : Type 0
GivenToTheJoined = (c : Central) (h : Happening) (f : ℕ) (k : Callback) → Happens c h → GivesCallback h.step h.outcome f k → c.directory.joined f ≡ true

-- what one federate sent in receive order is given in the order in which it was sent
abbrev pub SendersOrder : Type 0
SendersOrder = (c : Central) (h : Happening) (between : List Happening) (d : Central) (i : Happening) (f : ℕ) (e x : EventHandle) →
    HappenAfter c h between d i → HearsPlain h f e → HearsPlain i f x → e.sender ≡ x.sender → e.serial < x.serial

-- of one sender's messages with one stamp, those that are given in time-stamp order are given in the order in which they were sent
abbrev pub EqualStampsKeepOrder : Type 0
EqualStampsKeepOrder = (c : Central) (h : Happening) (between : List Happening) (d : Central) (i : Happening) (f : ℕ) (e x : EventHandle) (s : ℕ) →
    HappenAfter c h between d i → Picks h f e s → Picks i f x s → e.sender ≡ x.sender → e.serial < x.serial

-- a grant answers the last request of its federate that was done, and the federate was granted nothing since
abbrev pub EachGrantIsAskedFor : Type 0
EachGrantIsAskedFor = (catalogue : CatalogueValue) (earlier : List Happening) (now : Central) (h : Happening) (f t : ℕ) →
    IsRun (new_central catalogue) earlier now → Allowed now h.step h.outcome h.choice → IsGranted h f t → IsAskedFor earlier f t

-- what a federate is asked to take back its sender has retracted, and the federate was given it before, and never asked so before
abbrev pub OnlyRetractedAreAskedBack : Type 0
OnlyRetractedAreAskedBack = (catalogue : CatalogueValue) (earlier : List Happening) (now : Central) (h : Happening) (f : ℕ) (e : EventHandle) →
    IsRun (new_central catalogue) earlier now → Allowed now h.step h.outcome h.choice → GivesCallback h.step h.outcome f (callback.RequestRetraction e) → IsAskedBack earlier f e

-- two registrations give different numbers and different names
abbrev pub RegistrationsDiffer : Type 0
RegistrationsDiffer = (c : Central) (h : Happening) (between : List Happening) (d : Central) (i : Happening) (a b : ℕ) (n p : List ℕ) →
    HappenAfter c h between d i → h.outcome ≡ outcome.Done (answer.Registered a n) → i.outcome ≡ outcome.Done (answer.Registered b p) → (a ≢ b) × (n ≢ p)

-- when a federate is given an update or the removal of an object, no discovery of that object waits for it any more
abbrev pub DiscoveredBefore : Type 0
DiscoveredBefore = (c : Central) (h : Happening) (f : ℕ) (k : Callback) (object : ℕ) → Happens c h → GivesCallback h.step h.outcome f k → SpeaksOf k object →
    (g : ℕ) → All (λ (d : Discovery). d.object ≢ object) (c.discoveries g f)

-- an object that a federate discovers was registered by another under the name that is told, and of the class that is told or one derived
-- from it
abbrev pub EachDiscoveryIsRegistered : Type 0
EachDiscoveryIsRegistered = (catalogue : CatalogueValue) (earlier : List Happening) (now : Central) (h : Happening) (f object class : ℕ) (name : List ℕ) →
    IsRun (new_central catalogue) earlier now → Allowed now h.step h.outcome h.choice → GivesCallback h.step h.outcome f (callback.DiscoverObjectInstance object class name) →
    IsRegisteredFor catalogue earlier f object class name

-- when a point closes, each federate that is joined after that has achieved it: it was told of this point, and after that its call Synchronization
-- Point Achieved was done
abbrev pub ClosesAfterAll : Type 0
ClosesAfterAll = (catalogue : CatalogueValue) (happenings : List Happening) (c : Central) (h : Happening) (label : List ℕ) (g : ℕ) →
    IsRun (new_central catalogue) happenings c → Allowed c h.step h.outcome h.choice → Closes c h label → (next_state c h).directory.joined g ≡ true →
    HasAchieved (new_central catalogue) (happenings ++ (h ∷ [])) g label

-- an open point waits for some joined federate that has not achieved it: it closes as soon as all who are joined have
abbrev pub EachOpenPointWaits : Type 0
EachOpenPointWaits = (catalogue : CatalogueValue) (happenings : List Happening) (c : Central) (label : List ℕ) →
    IsRun (new_central catalogue) happenings c → IsPointOpen c label → WaitsForSome (new_central catalogue) happenings c label

-- when a federate is told that the federation is synchronized, the point had closed, so each that was then joined had achieved it; and the
-- federate is joined since then
abbrev pub SynchronizedAfterAll : Type 0
SynchronizedAfterAll = (catalogue : CatalogueValue) (happenings : List Happening) (c : Central) (h : Happening) (f : ℕ) (label : List ℕ) →
    IsRun (new_central catalogue) happenings c → Allowed c h.step h.outcome h.choice → GivesCallback h.step h.outcome f (callback.FederationSynchronized label) →
    IsSynchronizedAmong (new_central catalogue) happenings f label

-- nothing of synchronization points waits for who is not joined: so what is told to a federate became due since it joined
abbrev pub NothingWaitsForStrangers : Type 0
NothingWaitsForStrangers = (catalogue : CatalogueValue) (happenings : List Happening) (c : Central) (f : ℕ) → IsRun (new_central catalogue) happenings c → c.directory.joined f ≡ false → c.notices f ≡ []

-- what waits for a federate and becomes due to it while it is joined is what it is told of synchronization points, and what then waits for it:
-- so each is told once, in the order in which it became due, and nothing else is
abbrev pub EachIsToldInTurn : Type 0
EachIsToldInTurn = (catalogue : CatalogueValue) (happenings : List Happening) (c : Central) (between : List Happening) (d : Central) (f : ℕ) →
    IsRun (new_central catalogue) happenings c → IsRun c between d → StaysJoined c between f → c.notices f ++ due_over c between f ≡ told_over between f ++ d.notices f
