-- What a federate may pick up at a tick, and the state after it (HLA 1.3, time management)
use Rattle.std.specs.Prelude.{ℕ, ◌-◌, ◌≡◌, ◌≢◌, ◌≤◌, ◌<◌, ◌⊎◌, min, cond, eqb, ◌&&◌, Bool, true, false, Option, Some, None, IfSome, option_map, List, [], ◌∷◌, drop, All}
use Rattle.std.specs.List.{list_any}
use Rattle.hla_base.specs.declared.number.EventHandle.{EventHandle}
use Rattle.hla_base.specs.declared.content.Content.{Content}
use Rattle.hla_base.specs.declared.content.Content.TheVariants as content
use Rattle.hla_base.specs.declared.content.Discovery.{Discovery}
use Rattle.hla_base.specs.declared.notice.Notice.{Notice}
use Rattle.hla_base.specs.declared.notice.NoticeKind.TheVariants as kind
use Rattle.hla_base.specs.declared.row.AdvanceRequest.{AdvanceRequest}
use Rattle.hla_base.specs.declared.row.TimeRow.{TimeRow}
use Rattle.hla_base.specs.Tables.{upd, upd2}
use Rattle.hla_base.specs.Rows.{is_strict, is_next, is_flush, is_constrained, is_pending, is_advancing, least_of, row_after_regulation_enabled, row_after_constraint_enabled, row_after_pick, grant_time, row_after_grant, reach}
use Rattle.hla_callbacks.specs.declared.callback.Callback.{Callback}
use Rattle.hla_callbacks.specs.declared.callback.Callback.TheVariants as callback
use Rattle.hla_callbacks.specs.declared.callback.Delivery.{Delivery}
use Rattle.hla_callbacks.specs.declared.callback.Delivery.TheVariants as delivery
use Rattle.hla_machine.specs.declared.step.Choice.{Choice}
use Rattle.hla_machine.specs.declared.step.Choice.TheVariants as choice
use Rattle.hla_synchronization.specs.Points.{notice, points_after_notice}
use Rattle.hla_machine.specs.Directory.{with_points}
use Rattle.hla_machine.specs.Central.{Central, Copy, Ro, Tso, Demoted, BelowAllTso, BelowBound, Reached, KeyLe, at_key, at3, demoted_copy}

-- ---- messages
-- the discovery of what a message speaks of was given before
abbrev pub IsDiscovered : Central → ℕ → Content → Type 0
IsDiscovered c f (content.Interaction class values) = Unit {0}
IsDiscovered c f (content.Reflection object values) = (g : ℕ) → All (λ (d : Discovery). d.object ≢ object) (c.discoveries g f)
IsDiscovered c f (content.Removal object) = (g : ℕ) → All (λ (d : Discovery). d.object ≢ object) (c.discoveries g f)

-- a federate may be given a message in receive order where it is unconstrained, or advancing, or has asynchronous delivery
abbrev pub MayReceive : TimeRow → Type 0
MayReceive r = (is_constrained r ≡ false) ⊎ ((is_advancing r ≡ true) ⊎ (r.asynchronous ≡ true))

abbrev pub IsCopy : Central → ℕ → EventHandle → Copy → Type 0
IsCopy c f e k = c.bag e.sender e.serial f ≡ Some k

-- messages that one federate sent in receive order are given in the order of their serials
abbrev pub IsFirstRo : Central → ℕ → EventHandle → Type 0
IsFirstRo c f e = (n : ℕ) (k : Copy) → n < e.serial → c.bag e.sender n f ≡ Some k → k.order ≢ Ro

-- of one sender's messages with one stamp, those that are given in time-stamp order are given in the order of their serials; one that was
-- retracted counts while its retraction is under way
abbrev pub IsFirstOfStamp : Central → ℕ → EventHandle → ℕ → Type 0
IsFirstOfStamp c f e s = (n : ℕ) (k : Copy) → n < e.serial → c.bag e.sender n f ≡ Some k → k.order ≡ Tso → k.stamp ≢ s

-- a next-event request takes only stamps equal to its first pick
abbrev pub IsAtFirstPick : TimeRow → AdvanceRequest → ℕ → Type 0
IsAtFirstPick r q s = is_next q.kind ≡ true → IfSome r.first_pick (λ p. s ≡ p)

-- of equal stamps a strict request takes the least key
abbrev pub IsLeastKey : Central → ℕ → AdvanceRequest → EventHandle → ℕ → Type 0
IsLeastKey c f q e s =
    is_strict q.kind ≡ true → (h n : ℕ) (k : Copy) → c.bag h n f ≡ Some k → (c.sent h n).retracted ≡ false → k.order ≡ Tso → k.stamp ≡ s → KeyLe e.sender e.serial h n

-- what an advance picks up in time-stamp order: at most the asked time, nothing before it waits or can still come
pub record MayPick (c : Central) (f : ℕ) (q : AdvanceRequest) (e : EventHandle) (s : ℕ) : Type 0 where
  pub unretracted : (c.sent e.sender e.serial).retracted ≡ false
  pub asked : s ≤ q.asked
  pub bound : BelowBound c f (reach q.kind s)
  pub first : BelowAllTso c f s
  pub at_first_pick : IsAtFirstPick (c.row f) q s
  pub least_key : IsLeastKey c f q e s

-- a flush picks up all that is not in the federate's past
abbrev pub MayPickIn : Central → ℕ → AdvanceRequest → EventHandle → ℕ → Type 0
MayPickIn c f q e s = (is_flush q.kind ≡ true → (c.row f).time ≤ s) × (is_flush q.kind ≡ false → MayPick c f q e s)

abbrev pub WhileAdvancing : TimeRow → (AdvanceRequest → Type 0) → Type 0
WhileAdvancing r P = (q : AdvanceRequest) × (r.advance ≡ Some q) × P q

abbrev pub MayDeliver : Central → ℕ → Content → EventHandle → Delivery → Type 0
MayDeliver c f x e delivery.Receive =
    MayReceive (c.row f) × IsDiscovered c f x × IsCopy c f e (record { order = Ro; stamp = 0; content = x }) × IsFirstRo c f e
MayDeliver c f x e (delivery.Demoted s) =
    MayReceive (c.row f) × IsDiscovered c f x × IsCopy c f e (record { order = Demoted; stamp = s; content = x })
MayDeliver c f x e (delivery.TimeStamp s) =
    (is_constrained (c.row f) ≡ true) × IsDiscovered c f x × IsCopy c f e (record { order = Tso; stamp = s; content = x })
    × WhileAdvancing (c.row f) (λ q. MayPickIn c f q e s) × IsFirstOfStamp c f e s

-- ---- grants
-- a flush is granted a time that nothing picked up or waiting is below, and at least the least of what it asked for, the federate's bar,
-- and what it picked up
abbrev pub MayGrantFlush : Central → ℕ → AdvanceRequest → ℕ → Type 0
MayGrantFlush c f q t =
    ((c.row f).time ≤ t) × (t ≤ q.asked) × IfSome (c.row f).flushed (λ s. t ≤ s) × BelowBound c f t × BelowAllTso c f t
    × (least_of (min q.asked (c.row f).bar) (c.row f).flushed ≤ t)

-- by whether the federate is constrained and whether it flushes: unconstrained, it is granted what it asked for; constrained,
-- a flush as above, and any other advance its time once nothing before the reach of that waits or can still come
abbrev pub MayGrantAs : Bool → Bool → Central → ℕ → AdvanceRequest → ℕ → Type 0
MayGrantAs false flush c f q t = t ≡ q.asked
MayGrantAs true true c f q t = MayGrantFlush c f q t
MayGrantAs true false c f q t = (t ≡ grant_time (c.row f) q) × Reached c f q.kind t

abbrev pub MayGrant : Central → ℕ → ℕ → AdvanceRequest → Type 0
MayGrant c f t q = MayGrantAs (is_constrained (c.row f)) (is_flush q.kind) c f q t

-- ---- demotion
abbrev pub is_handle : EventHandle → EventHandle → Bool
is_handle a b = eqb a.sender b.sender && eqb a.serial b.serial

abbrev pub is_among : List EventHandle → ℕ → ℕ → Bool
is_among events g m = list_any (λ e. is_handle (record { sender = g; serial = m }) e) events

-- f's copies of these events are demoted
unfoldable pub with_demoted : (ℕ → ℕ → ℕ → Option Copy) → ℕ → List EventHandle → ℕ → ℕ → ℕ → Option Copy
with_demoted bag f events = λ g m k. cond (eqb f k && is_among events g m) (option_map demoted_copy (bag g m k)) (bag g m k)

-- each of these is a copy for f in time-stamp order, and P holds of its stamp
abbrev pub AreTso : Central → ℕ → (ℕ → Type 0) → List EventHandle → Type 0
AreTso c f P events = All (λ (e : EventHandle). (k : Copy) × IsCopy c f e k × (k.order ≡ Tso) × P k.stamp) events

-- all unretracted copies in time-stamp order below the time are among them, and none at or above it
abbrev pub AreBelow : Central → ℕ → ℕ → List EventHandle → Type 0
AreBelow c f t events =
    AreTso c f (λ s. s < t) events
    × ((g m : ℕ) (k : Copy) → c.bag g m f ≡ Some k → (c.sent g m).retracted ≡ false → k.order ≡ Tso → k.stamp < t → is_among events g m ≡ true)

abbrev pub MayConstrain : Central → ℕ → ℕ → Choice → Type 0
MayConstrain c f t (choice.Moved events) =
    (t ≡ (c.row f).time) × (is_pending (c.row f).constrained ≡ true) × (is_pending (c.row f).regulating ≡ false) × BelowBound c f t × AreBelow c f t events
MayConstrain c f t choice = ⊥

-- ---- a tick
abbrev pub IsNextDiscovery : List Discovery → Discovery → Type 0
IsNextDiscovery [] d = ⊥
IsNextDiscovery (x ∷ xs) d = x ≡ d

abbrev pub IsNextNotice : List Notice → Notice → Type 0
IsNextNotice [] n = ⊥
IsNextNotice (x ∷ xs) n = x ≡ n

abbrev pub MayPickUp : Central → ℕ → Callback → Choice → Type 0
MayPickUp c f (callback.DiscoverObjectInstance object class name) o =
    IsNextDiscovery (c.discoveries (c.directory.object object).owner f) (record { object = object; class = class; name = name })
MayPickUp c f (callback.ReflectAttributeValues object values event d) o = MayDeliver c f (content.Reflection object values) event d
MayPickUp c f (callback.ReceiveInteraction class values event d) o = MayDeliver c f (content.Interaction class values) event d
MayPickUp c f (callback.RemoveObjectInstance object event d) o = MayDeliver c f (content.Removal object) event d
MayPickUp c f (callback.TimeRegulationEnabled time) o = (is_pending (c.row f).regulating ≡ true) × (time ≡ (c.row f).regulation_time)
MayPickUp c f (callback.TimeConstrainedEnabled time) o = MayConstrain c f time o
MayPickUp c f (callback.TimeAdvanceGrant time) o = WhileAdvancing (c.row f) (MayGrant c f time)
MayPickUp c f (callback.RequestRetraction event) o = 1 ≤ c.due event.sender event.serial f
MayPickUp c f (callback.SynchronizationPointRegistrationSucceeded label) o = IsNextNotice (c.notices f) (notice kind.RegistrationSucceeded label)
MayPickUp c f (callback.SynchronizationPointRegistrationFailed label) o = IsNextNotice (c.notices f) (notice kind.RegistrationFailed label)
MayPickUp c f (callback.AnnounceSynchronizationPoint label) o = IsNextNotice (c.notices f) (notice kind.Announced label)
MayPickUp c f (callback.FederationSynchronized label) o = IsNextNotice (c.notices f) (notice kind.Synchronized label)

-- ---- in turn
-- f is to be told nothing of synchronization points, and to be asked to take no message back
pub record NothingIsDue (c : Central) (f : ℕ) : Type 0 where
  pub told : c.notices f ≡ []
  pub asked : (g m : ℕ) → c.due g m f ≡ 0

-- what is due so goes ahead of messages, of the enabling of roles, and of grants
abbrev pub IsInTurn : Central → ℕ → Callback → Type 0
IsInTurn c f (callback.ReflectAttributeValues object values event d) = NothingIsDue c f
IsInTurn c f (callback.ReceiveInteraction class values event d) = NothingIsDue c f
IsInTurn c f (callback.RemoveObjectInstance object event d) = NothingIsDue c f
IsInTurn c f (callback.TimeRegulationEnabled time) = NothingIsDue c f
IsInTurn c f (callback.TimeConstrainedEnabled time) = NothingIsDue c f
IsInTurn c f (callback.TimeAdvanceGrant time) = NothingIsDue c f
IsInTurn c f k = Unit {0}

abbrev pub MayBeGiven : Central → ℕ → Callback → Choice → Type 0
MayBeGiven c f k o = MayPickUp c f k o × IsInTurn c f k

-- a tick gives nothing only where nothing is due, and where the federate does not wait to regulate, nor unconstrained for a grant, nor in a
-- flush: what it may wait for then depends on others
pub record MayTickInVain (c : Central) (f : ℕ) : Type 0 where
  pub due : NothingIsDue c f
  pub roles : is_pending (c.row f).regulating ≡ false
  pub advance : (q : AdvanceRequest) → (c.row f).advance ≡ Some q → (is_constrained (c.row f) ≡ true) × (is_flush q.kind ≡ false)

abbrev pub MayTick : Central → ℕ → Option Callback → Choice → Type 0
MayTick c f None o = MayTickInVain c f
MayTick c f (Some k) o = MayBeGiven c f k o

-- ---- the state after it
abbrev pub with_central_row : Central → ℕ → TimeRow → Central
with_central_row c f r = record c { row = upd c.row f r }

abbrev pub row_after : TimeRow → Option AdvanceRequest → (AdvanceRequest → TimeRow) → TimeRow
row_after r None step = r
row_after r (Some q) step = step q

-- the copy leaves the bag
abbrev pub after_delivery : Central → ℕ → EventHandle → Delivery → Central
after_delivery c f e delivery.Receive = record c { bag = at_key c.bag e.sender e.serial f None }
after_delivery c f e (delivery.Demoted s) = record c { bag = at_key c.bag e.sender e.serial f None }
after_delivery c f e (delivery.TimeStamp s) = record c {
  row = upd c.row f (row_after (c.row f) (c.row f).advance (λ q. row_after_pick (c.row f) q s));
  bag = at_key c.bag e.sender e.serial f None;
}

abbrev pub after_constraint : Central → ℕ → Choice → Central
after_constraint c f (choice.Moved events) = record c { row = upd c.row f (row_after_constraint_enabled (c.row f)); bag = with_demoted c.bag f events }
after_constraint c f choice = c

-- the first of what was to be told is told
abbrev pub after_notice : Central → ℕ → Notice → Central
after_notice c f n = record c {
  directory = with_points c.directory (points_after_notice f n c.directory.points);
  notices = upd c.notices f (drop 1 (c.notices f));
}

abbrev pub after_pick : Central → ℕ → Callback → Choice → Central
after_pick c f (callback.DiscoverObjectInstance object class name) o = let g = (c.directory.object object).owner in
    record c { discoveries = upd2 c.discoveries g f (drop 1 (c.discoveries g f)) }
after_pick c f (callback.ReflectAttributeValues object values event d) o = after_delivery c f event d
after_pick c f (callback.ReceiveInteraction class values event d) o = after_delivery c f event d
after_pick c f (callback.RemoveObjectInstance object event d) o = after_delivery c f event d
after_pick c f (callback.TimeRegulationEnabled time) o = with_central_row c f (row_after_regulation_enabled (c.row f))
after_pick c f (callback.TimeConstrainedEnabled time) o = after_constraint c f o
after_pick c f (callback.TimeAdvanceGrant time) o = with_central_row c f (row_after (c.row f) (c.row f).advance (λ q. row_after_grant (c.row f) q time))
after_pick c f (callback.RequestRetraction event) o = record c { due = at3 c.due event.sender event.serial f (c.due event.sender event.serial f - 1) }
after_pick c f (callback.SynchronizationPointRegistrationSucceeded label) o = after_notice c f (notice kind.RegistrationSucceeded label)
after_pick c f (callback.SynchronizationPointRegistrationFailed label) o = after_notice c f (notice kind.RegistrationFailed label)
after_pick c f (callback.AnnounceSynchronizationPoint label) o = after_notice c f (notice kind.Announced label)
after_pick c f (callback.FederationSynchronized label) o = after_notice c f (notice kind.Synchronized label)
