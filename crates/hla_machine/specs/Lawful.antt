-- What every run keeps, of the happenings of one run: each law a field
use Rattle.std.specs.Prelude.{ℕ, ◌≡◌, ◌≢◌, ◌≤◌, ◌<◌, ◌⊎◌, true, false, Some, None, List, [], ◌∷◌, ◌++◌}
use Rattle.std.specs.List.{All}
use Rattle.hla_base.specs.declared.content.Discovery.{Discovery}
use Rattle.hla_base.specs.declared.number.EventHandle.{EventHandle}
use Rattle.hla_base.specs.declared.row.AdvanceRequest.{AdvanceRequest}
use Rattle.hla_base.specs.Rows.{is_constrained, reach}
use Rattle.hla_callbacks.specs.declared.callback.Callback.{Callback}
use Rattle.hla_callbacks.specs.declared.callback.Callback.TheVariants as callback
use Rattle.hla_catalogue.specs.CatalogueValue.{CatalogueValue}
use Rattle.hla_machine.specs.declared.service.Service.{Service}
use Rattle.hla_machine.specs.declared.step.Step.TheVariants.{Call, Tick}
use Rattle.hla_machine.specs.declared.step.Answer.{Answer}
use Rattle.hla_machine.specs.declared.step.Answer.TheVariants as answer
use Rattle.hla_machine.specs.declared.step.Outcome.TheVariants as outcome
use Rattle.hla_machine.specs.Central.{Central, Copy, new_central}
use Rattle.hla_machine.specs.Callbacks.{IsCopy, IsInTurn, MayTickInVain}
use Rattle.hla_machine.specs.Runs.{Happening, IsRun}
use Rattle.hla_machine.specs.History.{GivesCallback, SpeaksOf, Hears, HearsPlain, Picks, IsGranted, IsInNoFlush, IsInStrict, IsInOneAdvance, IsBefore, next_state, WaitsInOrder, IsPickedOrMoved, messages_of, stamp_given, AreSentTo, GoesInItsOrder, Names, TellsCopy, IsOnItsWay, IsSettled, HasHistory, central_after, Occurs, OccurAfter, OccursLater}
use Rattle.hla_machine.specs.Advancing.{IsAskedFor}
use Rattle.hla_machine.specs.AskedBack.{IsAskedBack}
use Rattle.hla_machine.specs.Discovered.{IsRegisteredFor}
use Rattle.hla_machine.specs.Synchronized.{IsPointOpen, Closes, HasAchieved, WaitsForSome, StaysJoined, IsSynchronizedAmong, due_over, told_over}
use Rattle.hla_machine.specs.Laws.{IsSafe, IsAhead}

pub record IsLawful (c : Central) (happenings : List Happening) : Type 0 where
  -- ---- who is given what
  -- a federate is given messages of others alone
  pub others : (now : Central) (h : Happening) (f : ℕ) (e : EventHandle) → Occurs c happenings now h → Hears h f e → e.sender ≢ f
  -- each message is given to a federate at most once
  pub once : (now : Central) (h : Happening) (between : List Happening) (then : Central) (i : Happening) (f : ℕ) (e : EventHandle) →
      OccurAfter c happenings now h between then i → Hears h f e → Hears i f e → ⊥
  -- nothing is given to a federate that is not joined
  pub joined : (now : Central) (h : Happening) (f : ℕ) (k : Callback) → Occurs c happenings now h → GivesCallback h.step h.outcome f k → now.directory.joined f ≡ true
  -- what one federate sent in receive order is given in the order in which it was sent
  pub in_order : (now : Central) (h : Happening) (between : List Happening) (then : Central) (i : Happening) (f : ℕ) (e x : EventHandle) →
      OccurAfter c happenings now h between then i → HearsPlain h f e → HearsPlain i f x → e.sender ≡ x.sender → e.serial < x.serial
  -- each message of a call that is done is sent to each federate that receives it, with what it says to that one, and to no other: in
  -- time-stamp order just where its order says so, its sender regulates and there is a stamp, which it then has
  pub sent : (now : Central) (h : Happening) (f : ℕ) (service : Service) (a : Answer) → Occurs c happenings now h → h.step ≡ Call f service → h.outcome ≡ outcome.Done a →
      AreSentTo now.directory (now.row f) (stamp_given service) (next_state now h).bag f (now.serial f) (messages_of now.directory f service)
  -- and that order is the one that its attributes of that object, or its class for that sender, have now
  pub ordered : (now : Central) (h : Happening) (f : ℕ) (service : Service) → Occurs c happenings now h → h.step ≡ Call f service → GoesInItsOrder now.directory f service
  -- what was sent to a federate stays on its way, until the federate is given it, or it is retracted, or the federate resigns
  pub reaches : (now : Central) (between : List Happening) (then : Central) (h : Happening) (f : ℕ) (e : EventHandle) →
      OccursLater c happenings now between then h → IsOnItsWay now f e → IsOnItsWay then f e ⊎ IsSettled now between f e
  -- what a federate is given was on its way to it
  pub from : (now : Central) (h : Happening) (f : ℕ) (e : EventHandle) → Occurs c happenings now h → Hears h f e → IsOnItsWay now f e
  -- and is told what the copy said that was on its way to it, whenever that was looked at
  pub tells : (now : Central) (between : List Happening) (then : Central) (h : Happening) (f : ℕ) (e : EventHandle) (k : Copy) (x : Callback) →
      OccursLater c happenings now between then h → IsCopy now f e k → GivesCallback h.step h.outcome f x → Names x e → TellsCopy x k
  -- what a federate is asked to take back its sender has retracted, and the federate was given it before, and never asked so before, whatever
  -- run led from a new execution to a state
  pub asked_back : (now : Central) (h : Happening) (f : ℕ) (e : EventHandle) (catalogue : CatalogueValue) (earlier : List Happening) → Occurs c happenings now h → IsRun (new_central catalogue) earlier now →
      GivesCallback h.step h.outcome f (callback.RequestRetraction e) → IsAskedBack earlier f e
  -- what waits of synchronization points, and each request to take a message back that waits, goes ahead of messages, of the enabling of roles,
  -- and of grants
  pub in_turn : (now : Central) (h : Happening) (f : ℕ) (k : Callback) → Occurs c happenings now h → GivesCallback h.step h.outcome f k → IsInTurn now f k
  -- a tick gives nothing only where none of these waits, and where the federate does not wait to regulate, nor unconstrained for a grant, nor
  -- in a flush
  pub in_vain : (now : Central) (h : Happening) (f : ℕ) → Occurs c happenings now h → h.step ≡ Tick f → h.outcome ≡ outcome.Done (answer.Ticked None) → MayTickInVain now f
  -- ---- objects
  -- two registrations give different numbers and different names
  pub differ : (now : Central) (h : Happening) (between : List Happening) (then : Central) (i : Happening) (a b : ℕ) (n p : List ℕ) →
      OccurAfter c happenings now h between then i → h.outcome ≡ outcome.Done (answer.Registered a n) → i.outcome ≡ outcome.Done (answer.Registered b p) → (a ≢ b) × (n ≢ p)
  -- nothing is said of an object while its discovery waits
  pub discovered : (now : Central) (h : Happening) (f : ℕ) (k : Callback) (object : ℕ) → Occurs c happenings now h → GivesCallback h.step h.outcome f k → SpeaksOf k object →
      (g : ℕ) → All (λ (d : Discovery). d.object ≢ object) (now.discoveries g f)
  -- an object that a federate discovers was registered by another under the name that is told, and of the class that is told or one derived
  -- from it, whatever run led from a new execution to a state
  pub registered : (now : Central) (h : Happening) (f object class : ℕ) (name : List ℕ) (catalogue : CatalogueValue) (earlier : List Happening) → Occurs c happenings now h → IsRun (new_central catalogue) earlier now →
      GivesCallback h.step h.outcome f (callback.DiscoverObjectInstance object class name) → IsRegisteredFor catalogue earlier f object class name
  -- ---- synchronization points, whatever run led from a new execution to a state
  -- when a point closes, each federate that is joined after that was told of this point and has achieved it since
  pub closed : (now : Central) (h : Happening) (label : List ℕ) (g : ℕ) (catalogue : CatalogueValue) (earlier : List Happening) → Occurs c happenings now h → IsRun (new_central catalogue) earlier now →
      Closes now h label → (next_state now h).directory.joined g ≡ true → HasAchieved (new_central catalogue) (earlier ++ (h ∷ [])) g label
  -- while a point is open, some joined federate has not achieved it
  pub awaited : (before rest : List Happening) (label : List ℕ) (catalogue : CatalogueValue) (earlier : List Happening) → happenings ≡ before ++ rest → IsRun (new_central catalogue) earlier (central_after c before) →
      IsPointOpen (central_after c before) label → WaitsForSome (new_central catalogue) earlier (central_after c before) label
  -- when a federate is told that the federation is synchronized, the point had closed, and the federate is joined since
  pub synchronized : (now : Central) (h : Happening) (f : ℕ) (label : List ℕ) (catalogue : CatalogueValue) (earlier : List Happening) → Occurs c happenings now h → IsRun (new_central catalogue) earlier now →
      GivesCallback h.step h.outcome f (callback.FederationSynchronized label) → IsSynchronizedAmong (new_central catalogue) earlier f label
  -- nothing of them waits for who is not joined
  pub strangers : (before rest : List Happening) (f : ℕ) → happenings ≡ before ++ rest → (central_after c before).directory.joined f ≡ false → (central_after c before).notices f ≡ []
  -- while a federate is joined, what becomes due to it is told to it, once and in that order
  pub told : (before between rest : List Happening) (f : ℕ) → happenings ≡ before ++ (between ++ rest) → let now = central_after c before in StaysJoined now between f →
      now.notices f ++ due_over now between f ≡ told_over between f ++ (central_after now between).notices f
  -- ---- time
  -- in each state each constrained federate has its time, its bar and its bound in order, and nothing before its time waits
  pub safe : (before rest : List Happening) → happenings ≡ before ++ rest → IsSafe (central_after c before)
  -- nothing is given to a federate in its past, and its time never falls
  pub ahead : (now : Central) (h : Happening) (f : ℕ) → Occurs c happenings now h → IsAhead now h f
  -- the stamp of a pick outside flushes is at most that of each later pick
  pub stamps : (now : Central) (h : Happening) (between : List Happening) (then : Central) (i : Happening) (f : ℕ) (e x : EventHandle) (s t : ℕ) →
      OccurAfter c happenings now h between then i → IsInNoFlush (now.row f) → Picks h f e s → Picks i f x t → s ≤ t
  -- within one strict request the keys of the picks rise
  pub keys : (now : Central) (h : Happening) (between : List Happening) (then : Central) (i : Happening) (f : ℕ) (e x : EventHandle) (s t : ℕ) →
      OccurAfter c happenings now h between then i → IsInStrict (now.row f) → IsInOneAdvance (next_state now h) between f → Picks h f e s → Picks i f x t → IsBefore e s x t
  -- of one sender's messages with one stamp, those that are given in time-stamp order are given in the order in which they were sent
  pub equal_stamps : (now : Central) (h : Happening) (between : List Happening) (then : Central) (i : Happening) (f : ℕ) (e x : EventHandle) (s : ℕ) →
      OccurAfter c happenings now h between then i → Picks h f e s → Picks i f x s → e.sender ≡ x.sender → e.serial < x.serial
  -- a grant answers the last request of its federate that was done, and the federate was granted nothing since, whatever run led from a new
  -- execution to a state
  pub asked_for : (now : Central) (h : Happening) (f t : ℕ) (catalogue : CatalogueValue) (earlier : List Happening) → Occurs c happenings now h → IsRun (new_central catalogue) earlier now →
      IsGranted h f t → IsAskedFor earlier f t
  -- after a call that answers an event handle, each receiver of that event waits for it in time-stamp order, with its stamp
  pub waits : (now : Central) (h : Happening) (f : ℕ) (service : Service) (e : EventHandle) (g : ℕ) → Occurs c happenings now h → h.step ≡ Call f service → h.outcome ≡ outcome.Done (answer.Sent (Some e)) →
      ((next_state now h).sent e.sender e.serial).receivers g ≡ true → WaitsInOrder (next_state now h) g e ((next_state now h).sent e.sender e.serial).stamp
  -- when a constrained federate is granted t, each event that was sent to it in time-stamp order, with a stamp below t
  -- (for a strict request at most t), is retracted, or the federate has picked it up, or it was moved to receive order
  pub granted : (now : Central) (between : List Happening) (then : Central) (h : Happening) (f t : ℕ) (q : AdvanceRequest) (e : EventHandle) (s : ℕ) →
      OccursLater c happenings now between then h → IsGranted h f t → is_constrained (then.row f) ≡ true → (then.row f).advance ≡ Some q →
      WaitsInOrder now f e s → s < reach q.kind t → ((then.sent e.sender e.serial).retracted ≡ true) ⊎ IsPickedOrMoved now between f e s

-- the happenings of each run from a state with a history are so
abbrev pub EachRunIsLawful : Type 0
EachRunIsLawful = (c : Central) (happenings : List Happening) (d : Central) → HasHistory c → IsRun c happenings d → IsLawful c happenings
