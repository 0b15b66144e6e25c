-- What a federate is given over a run
use Rattle.std.specs.Prelude.{ℕ, ◌+◌, ◌≡◌, ◌≢◌, ◌<◌, ◌⊎◌, Bool, true, false, Option, None, Some, unwrap_or, List, [], ◌∷◌, ◌++◌, filter}
use Rattle.std.specs.List.{All, list_any}
use Rattle.std.specs.Option.{option_map_or}
use Rattle.hla_base.specs.declared.content.HandleValuePair.{HandleValuePair}
use Rattle.hla_base.specs.declared.content.Content.TheVariants as content
use Rattle.hla_base.specs.declared.number.EventHandle.{EventHandle}
use Rattle.hla_base.specs.declared.row.AdvanceRequest.{AdvanceRequest}
use Rattle.hla_base.specs.declared.row.TimeRow.{TimeRow}
use Rattle.hla_base.specs.Rows.{is_enabled, is_flush, is_strict, is_advancing}
use Rattle.hla_catalogue.specs.CatalogueValue.{CatalogueValue}
use Rattle.hla_catalogue.specs.declared.declared.Order.{Order}
use Rattle.hla_catalogue.specs.declared.declared.Order.TheVariants.{Receive, Timestamp}
use Rattle.hla_catalogue.specs.Lookup.{attribute_order, interaction_order, deletion_privilege}
use Rattle.hla_callbacks.specs.declared.callback.Callback.{Callback}
use Rattle.hla_callbacks.specs.declared.callback.Callback.TheVariants as callback
use Rattle.hla_callbacks.specs.declared.callback.Delivery.{Delivery}
use Rattle.hla_callbacks.specs.declared.callback.Delivery.TheVariants as delivery
use Rattle.hla_machine.specs.declared.service.Service.{Service}
use Rattle.hla_machine.specs.declared.service.Service.TheVariants as service
use Rattle.hla_machine.specs.declared.service.ResignAction.TheVariants.{DeleteObjects}
use Rattle.hla_machine.specs.declared.step.Step.{Step}
use Rattle.hla_machine.specs.declared.step.Step.TheVariants.{Tick}
use Rattle.hla_machine.specs.declared.step.Answer.TheVariants as answer
use Rattle.hla_machine.specs.declared.step.Outcome.{Outcome}
use Rattle.hla_machine.specs.declared.step.Outcome.TheVariants as outcome
use Rattle.hla_machine.specs.Directory.{Directory, Outgoing, AnUpdate, by_handle, is_of_order, is_receiver, content_for, objects_of, update_sent, interaction_sent, deletion_sent, deletions_sent}
use Rattle.hla_machine.specs.Central.{Central, Copy, Ro, Tso, new_central, demoted_copy}
use Rattle.hla_machine.specs.Callbacks.{IsCopy}
use Rattle.hla_machine.specs.Machine.{Allowed, after}
use Rattle.hla_machine.specs.Runs.{Happening, IsRun}

-- the step gives f the callback k
abbrev pub GivesCallback : Step → Outcome → ℕ → Callback → Type 0
GivesCallback (Tick g) (outcome.Done (answer.Ticked (Some x))) f k = (g ≡ f) × (x ≡ k)
GivesCallback (Tick g) (outcome.Failed x) f k = (g ≡ f) × (x ≡ k)
GivesCallback step out f k = ⊥

-- the callback brings event e in time-stamp order, with stamp s
abbrev pub Brings : Callback → EventHandle → ℕ → Type 0
Brings (callback.ReflectAttributeValues object values event d) e s = (event ≡ e) × (d ≡ delivery.TimeStamp s)
Brings (callback.ReceiveInteraction class values event d) e s = (event ≡ e) × (d ≡ delivery.TimeStamp s)
Brings (callback.RemoveObjectInstance object event d) e s = (event ≡ e) × (d ≡ delivery.TimeStamp s)
Brings k e s = ⊥

-- f picks up event e in time-stamp order, with stamp s
pub record Picks (h : Happening) (f : ℕ) (e : EventHandle) (s : ℕ) : Type 0 where
  pub given : Callback
  pub gives : GivesCallback h.step h.outcome f given
  pub brings : Brings given e s

-- the callback gives the message that e names, in whatever order
abbrev pub Names : Callback → EventHandle → Type 0
Names (callback.ReflectAttributeValues object values event d) e = event ≡ e
Names (callback.ReceiveInteraction class values event d) e = event ≡ e
Names (callback.RemoveObjectInstance object event d) e = event ≡ e
Names k e = ⊥

-- the same of a message that was sent in receive order
abbrev pub NamesPlain : Callback → EventHandle → Type 0
NamesPlain (callback.ReflectAttributeValues object values event d) e = (event ≡ e) × (d ≡ delivery.Receive)
NamesPlain (callback.ReceiveInteraction class values event d) e = (event ≡ e) × (d ≡ delivery.Receive)
NamesPlain (callback.RemoveObjectInstance object event d) e = (event ≡ e) × (d ≡ delivery.Receive)
NamesPlain k e = ⊥

-- the callback says something of an object that its receiver is to know
abbrev pub SpeaksOf : Callback → ℕ → Type 0
SpeaksOf (callback.ReflectAttributeValues object values event d) h = object ≡ h
SpeaksOf (callback.RemoveObjectInstance object event d) h = object ≡ h
SpeaksOf k h = ⊥

-- f is given the message that e names
pub record Hears (h : Happening) (f : ℕ) (e : EventHandle) : Type 0 where
  pub given : Callback
  pub gives : GivesCallback h.step h.outcome f given
  pub names : Names given e

-- f is given the message that e names, which was sent in receive order
pub record HearsPlain (h : Happening) (f : ℕ) (e : EventHandle) : Type 0 where
  pub given : Callback
  pub gives : GivesCallback h.step h.outcome f given
  pub names : NamesPlain given e

-- f is granted t
abbrev pub IsGranted : Happening → ℕ → ℕ → Type 0
IsGranted h f t = GivesCallback h.step h.outcome f (callback.TimeAdvanceGrant t)

-- the state after a happening
abbrev pub next_state : Central → Happening → Central
next_state c h = after c h.step h.outcome h.choice

-- a run leads to c, where the machine allows h
pub record Happens (c : Central) (h : Happening) : Type 0 where
  pub catalogue : CatalogueValue
  pub before : List Happening
  pub run : IsRun (new_central catalogue) before c
  pub allowed : Allowed c h.step h.outcome h.choice

-- a run leads to c, where h happens, and then another leads to d, where i happens
pub record HappenAfter (c : Central) (h : Happening) (between : List Happening) (d : Central) (i : Happening) : Type 0 where
  pub first : Happens c h
  pub run : IsRun (next_state c h) between d
  pub allowed : Allowed d i.step i.outcome i.choice

-- no flush is under way
abbrev pub IsInNoFlush : TimeRow → Type 0
IsInNoFlush r = (q : AdvanceRequest) → r.advance ≡ Some q → is_flush q.kind ≡ false

-- a strict request is under way
abbrev pub IsInStrict : TimeRow → Type 0
IsInStrict r = (q : AdvanceRequest) → r.advance ≡ Some q → is_strict q.kind ≡ true

-- f is within one advance in each state of the run from c
abbrev pub IsInOneAdvance : Central → List Happening → ℕ → Type 0
IsInOneAdvance c [] f = is_advancing (c.row f) ≡ true
IsInOneAdvance c (h ∷ hs) f = (is_advancing (c.row f) ≡ true) × IsInOneAdvance (next_state c h) hs f

-- the key (stamp, sender, serial) of event e with stamp s is before that of x with stamp t
abbrev pub IsBefore : EventHandle → ℕ → EventHandle → ℕ → Type 0
IsBefore e s x t = (s < t) ⊎ ((s ≡ t) × ((e.sender < x.sender) ⊎ ((e.sender ≡ x.sender) × (e.serial < x.serial))))

-- event e, with stamp s, was sent to f in time-stamp order, and waits so or is under way; it does from its sending on
abbrev pub WaitsInOrder : Central → ℕ → EventHandle → ℕ → Type 0
WaitsInOrder c f e s = (k : Copy) × IsCopy c f e k × (k.order ≡ Tso) × (k.stamp ≡ s)

-- between the states c and d the event is moved to receive order
abbrev pub IsMoved : Central → Central → ℕ → EventHandle → ℕ → Type 0
IsMoved c d f e s = (k : Copy) × IsCopy c f e k × (k.order ≡ Tso) × (k.stamp ≡ s) × IsCopy d f e (demoted_copy k)

-- at some step of the run from c, f picks up the event in time-stamp order, or it is moved to receive order
abbrev pub IsPickedOrMoved : Central → List Happening → ℕ → EventHandle → ℕ → Type 0
IsPickedOrMoved c [] f e s = ⊥
IsPickedOrMoved c (h ∷ hs) f e s = Picks h f e s ⊎ (IsMoved c (next_state c h) f e s ⊎ IsPickedOrMoved (next_state c h) hs f e s)

-- ---- to whom messages go
-- the messages of a call, in the order of their serials
abbrev pub messages_of : Directory → ℕ → Service → List Outgoing
messages_of d f (service.UpdateAttributeValues object values stamp) = update_sent d object values
messages_of d f (service.SendInteraction class values stamp) = interaction_sent d f class values
messages_of d f (service.DeleteObjectInstance object stamp) = deletion_sent d object
messages_of d f (service.Resign DeleteObjects) = deletions_sent (objects_of d f)
messages_of d f s = []

-- the stamp that a call gives its messages, if it gives one
abbrev pub stamp_given : Service → Option ℕ
stamp_given (service.UpdateAttributeValues object values stamp) = stamp
stamp_given (service.SendInteraction class values stamp) = stamp
stamp_given (service.DeleteObjectInstance object stamp) = stamp
stamp_given s = None

-- a copy goes in time-stamp order, with the stamp that was given, where its order is that, its sender regulates and there is a
-- stamp; and else in receive order
abbrev pub GoesAs : Order → Bool → Option ℕ → Copy → Type 0
GoesAs Timestamp true (Some s) k = (k.order ≡ Tso) × (k.stamp ≡ s)
GoesAs order regulates stamp k = k.order ≡ Ro

-- f's message with serial m lies in the bag for each federate that receives it, with what it says to that one and in its order,
-- and for no other
pub record IsSentTo (d : Directory) (r : TimeRow) (stamp : Option ℕ) (bag : ℕ → ℕ → ℕ → Option Copy) (f m : ℕ) (out : Outgoing) : Type 0 where
  pub receivers : (g : ℕ) → is_receiver d f out.body g ≡ true → (k : Copy) × (bag f m g ≡ Some k) × (content_for d out.body g ≡ Some k.content) × GoesAs out.order (is_enabled r.regulating) stamp k
  pub others : (g : ℕ) → is_receiver d f out.body g ≡ false → bag f m g ≡ None

-- so does each of f's messages from serial m on
abbrev pub AreSentTo : Directory → TimeRow → Option ℕ → (ℕ → ℕ → ℕ → Option Copy) → ℕ → ℕ → List Outgoing → Type 0
AreSentTo d r stamp bag f m [] = Unit {0}
AreSentTo d r stamp bag f m (out ∷ outs) = IsSentTo d r stamp bag f m out × AreSentTo d r stamp bag f (m + 1) outs

-- ---- in which order messages go
-- the values of an update whose attributes, of just this object, go in that order now
abbrev pub values_in : Directory → ℕ → Order → List HandleValuePair → List HandleValuePair
values_in d object order values = filter (λ (v : HandleValuePair). is_of_order order (unwrap_or (d.attribute_orders object v.handle) (attribute_order d.catalogue v.handle))) values

-- a message has all the values that go in its order now, and those alone; and there is one of each order in which some go
pub record IsCutByOrder (d : Directory) (object : ℕ) (values : List HandleValuePair) (outs : List Outgoing) : Type 0 where
  pub just : All (λ (out : Outgoing). out.body ≡ AnUpdate object (values_in d object out.order (by_handle values))) outs
  pub each : (order : Order) → values_in d object order (by_handle values) ≢ [] → list_any (λ (out : Outgoing). is_of_order order out.order) outs ≡ true

-- what a call sends goes in the order that it has now: the values of an update in those of their attributes of this object, an interaction
-- in its sender's for just its class, a deletion in that of the object's right to delete; where a federate resigns, in receive order
abbrev pub GoesInItsOrder : Directory → ℕ → Service → Type 0
GoesInItsOrder d f (service.UpdateAttributeValues object values stamp) = IsCutByOrder d object values (messages_of d f (service.UpdateAttributeValues object values stamp))
GoesInItsOrder d f (service.SendInteraction class values stamp) = All (λ (out : Outgoing). out.order ≡ unwrap_or (d.interaction_orders f class) (interaction_order d.catalogue class)) (messages_of d f (service.SendInteraction class values stamp))
GoesInItsOrder d f (service.DeleteObjectInstance object stamp) =
    let privilege = deletion_privilege d.catalogue (d.object object).class in
    All (λ (out : Outgoing). out.order ≡ option_map_or (λ a. unwrap_or (d.attribute_orders object a) (attribute_order d.catalogue a)) privilege Receive) (messages_of d f (service.DeleteObjectInstance object stamp))
GoesInItsOrder d f s = All (λ (out : Outgoing). out.order ≡ Receive) (messages_of d f s)

-- ---- what a callback tells
-- a copy is given so: in receive order where it was sent so, in time-stamp order only where it was sent so, and with its stamp
abbrev pub IsGivenAs : Delivery → Copy → Type 0
IsGivenAs delivery.Receive k = k.order ≡ Ro
IsGivenAs (delivery.Demoted s) k = (k.order ≢ Ro) × (k.stamp ≡ s)
IsGivenAs (delivery.TimeStamp s) k = (k.order ≡ Tso) × (k.stamp ≡ s)

-- the callback tells what the copy says
abbrev pub TellsCopy : Callback → Copy → Type 0
TellsCopy (callback.ReflectAttributeValues object values event d) k = (k.content ≡ content.Reflection object values) × IsGivenAs d k
TellsCopy (callback.ReceiveInteraction class values event d) k = (k.content ≡ content.Interaction class values) × IsGivenAs d k
TellsCopy (callback.RemoveObjectInstance object event d) k = (k.content ≡ content.Removal object) × IsGivenAs d k
TellsCopy x k = ⊥

-- the message that e names was sent to f, and is under way or waits for it; it does from its sending on
abbrev pub IsOnItsWay : Central → ℕ → EventHandle → Type 0
IsOnItsWay c f e = (k : Copy) × IsCopy c f e k

-- at some step of the run from c, f is given the message, or the message is retracted, or f resigns
abbrev pub IsSettled : Central → List Happening → ℕ → EventHandle → Type 0
IsSettled c [] f e = ⊥
IsSettled c (h ∷ hs) f e = Hears h f e ⊎ (((c.sent e.sender e.serial).retracted ≡ true) ⊎ (((next_state c h).directory.joined f ≡ false) ⊎ IsSettled (next_state c h) hs f e))

-- a run leads to c, another from c to d, where the machine allows h
pub record HappensLater (c : Central) (between : List Happening) (d : Central) (h : Happening) : Type 0 where
  pub catalogue : CatalogueValue
  pub before : List Happening
  pub start : IsRun (new_central catalogue) before c
  pub run : IsRun c between d
  pub allowed : Allowed d h.step h.outcome h.choice

-- ---- one list of happenings
-- a run leads from a new execution to c
pub record HasHistory (c : Central) : Type 0 where
  pub catalogue : CatalogueValue
  pub before : List Happening
  pub run : IsRun (new_central catalogue) before c

-- the state after happenings from c
abbrev pub central_after : Central → List Happening → Central
central_after c [] = c
central_after c (h ∷ hs) = central_after (next_state c h) hs

-- among the happenings from c is h, in the state now
pub record Occurs (c : Central) (happenings : List Happening) (now : Central) (h : Happening) : Type 0 where
  pub before : List Happening
  pub rest : List Happening
  pub whole : happenings ≡ before ++ (h ∷ rest)
  pub state : now ≡ central_after c before

-- among them is h, in the state now, then comes what is between, and then i, in the state then
pub record OccurAfter (c : Central) (happenings : List Happening) (now : Central) (h : Happening) (between : List Happening) (then : Central) (i : Happening) : Type 0 where
  pub before : List Happening
  pub rest : List Happening
  pub whole : happenings ≡ before ++ (h ∷ (between ++ (i ∷ rest)))
  pub state : now ≡ central_after c before
  pub later : then ≡ central_after (next_state now h) between

-- among them is what is between, from the state now on, and then h, in the state then
pub record OccursLater (c : Central) (happenings : List Happening) (now : Central) (between : List Happening) (then : Central) (h : Happening) : Type 0 where
  pub before : List Happening
  pub rest : List Happening
  pub whole : happenings ≡ before ++ (between ++ (h ∷ rest))
  pub state : now ≡ central_after c before
  pub later : then ≡ central_after now between
