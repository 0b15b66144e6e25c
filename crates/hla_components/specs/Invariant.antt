-- What the components and wires keep at every moment
use Rattle.std.specs.Prelude.{ℕ, ◌+◌, ◌≡◌, ◌≢◌, ◌≤◌, ◌<◌, max, cond, eqb, ltb, ◌&&◌, Bool, true, false, None, Some, is_some, List, [], ◌∷◌, ◌++◌}
use Rattle.hla_base.specs.declared.content.Content.{Content}
use Rattle.hla_base.specs.declared.content.Content.TheVariants as content
use Rattle.hla_base.specs.declared.content.Event.{Event}
use Rattle.hla_base.specs.declared.content.Discovery.{Discovery}
use Rattle.hla_base.specs.declared.row.AdvanceRequest.{AdvanceRequest}
use Rattle.hla_base.specs.declared.row.TimeRow.{TimeRow}
use Rattle.hla_null_message.specs.declared.message.Message.{Message}
use Rattle.hla_null_message.specs.declared.message.Message.TheVariants as message
use Rattle.hla_base.specs.Tables.{is_other, least}
use Rattle.hla_base.specs.Rows.{is_regulator, is_constrained, is_pending, RowNumbers}
use Rattle.hla_machine.specs.Directory.{Directory, served_object}
use Rattle.hla_machine.specs.CentralInvariant.{CentralInv}
use Rattle.hla_component_rules.specs.declared.control.Control.{Control}
use Rattle.hla_component_rules.specs.declared.control.Control.TheVariants.{ToDiscover, ToRetract, ToTell}
use Rattle.hla_component_rules.specs.Queues.{is_before, occurrences}
use Rattle.hla_null_message.specs.Wires.{events, discoveries}
use Rattle.hla_retraction.specs.SentEvents.{SentEvent}
use Rattle.hla_components.specs.Components.{Components}
use Rattle.hla_component_rules.specs.Promising.{promise_of}
use Rattle.hla_components.specs.CentralOf.{central}

-- P holds of each
abbrev pub EachOf : {X : Type 0} → (X → Type 0) → List X → Type 0
EachOf P [] = Unit {0}
EachOf P (x ∷ xs) = P x × EachOf P xs

-- ---- queues
-- each stamp is at least v
abbrev pub Above : ℕ → List Event → Type 0
Above v [] = Unit {0}
Above v (x ∷ xs) = (v ≤ x.stamp) × Above v xs

-- in order of stamp, and each of them sent in time-stamp order
abbrev pub IsTsoQueue : List Event → Type 0
IsTsoQueue [] = Unit {0}
IsTsoQueue (x ∷ xs) = (x.ordered ≡ true) × Above x.stamp xs × IsTsoQueue xs

-- no key is before that of x
abbrev pub KeyAbove : Event → List Event → Type 0
KeyAbove x [] = Unit {0}
KeyAbove x (y ∷ ys) = (is_before y x ≡ false) × KeyAbove x ys

-- in the order of keys
abbrev pub IsInKeyOrder : List Event → Type 0
IsInKeyOrder [] = Unit {0}
IsInKeyOrder (x ∷ xs) = KeyAbove x xs × IsInKeyOrder xs

-- what g sent in receive order among these has a serial above m
abbrev pub AfterSerial : ℕ → ℕ → List Event → Type 0
AfterSerial g m es = EachOf (λ (e : Event). e.sender ≡ g → e.ordered ≡ false → m < e.serial) es

-- what g sent in receive order stands in the order of serials
abbrev pub IsInSerialOrder : ℕ → List Event → Type 0
IsInSerialOrder g [] = Unit {0}
IsInSerialOrder g (e ∷ es) = (e.sender ≡ g → e.ordered ≡ false → AfterSerial g e.serial es) × IsInSerialOrder g es

-- what g sent among these has a serial above m
abbrev pub AboveSerial : ℕ → ℕ → List Event → Type 0
AboveSerial g m es = EachOf (λ (e : Event). e.sender ≡ g → m < e.serial) es

-- what g sent among these, in time-stamp order or in receive order, stands in the order of serials
abbrev pub HasRisingSerials : ℕ → List Event → Type 0
HasRisingSerials g [] = Unit {0}
HasRisingSerials g (e ∷ es) = (e.sender ≡ g → AboveSerial g e.serial es) × HasRisingSerials g es

-- what g sent among es has a serial below those of what it sent among others
abbrev pub AreEarlier : ℕ → List Event → List Event → Type 0
AreEarlier g others es = EachOf (λ (e : Event). e.sender ≡ g → AboveSerial g e.serial others) es

-- how often a copy is on its way to f
abbrev pub places_in : (ℕ → ℕ → List Message) → (ℕ → List Event) → (ℕ → List Event) → ℕ → ℕ → ℕ → ℕ
places_in wire tso ro g m f = occurrences g m (events (wire g f)) + (occurrences g m (tso f) + occurrences g m (ro f))

-- Each copy is at most once on its way, with a serial that was given out, and those in receive order in the order of serials. On a
-- wire all serials rise, and what waits in key order has a serial below those that its sender still has on the wire
pub record CopyInv (serial : ℕ → ℕ) (wire : ℕ → ℕ → List Message) (tso ro : ℕ → List Event) : Type 0 where
  pub once : (g m f : ℕ) → places_in wire tso ro g m f ≤ 1
  pub unused : (g m f : ℕ) → serial g ≤ m → places_in wire tso ro g m f ≡ 0
  pub serials : (g f : ℕ) → IsInSerialOrder g (ro f ++ events (wire g f))
  pub rising : (g f : ℕ) → HasRisingSerials g (events (wire g f))
  pub earlier : (g f : ℕ) → AreEarlier g (events (wire g f)) (tso f)

-- ---- wires
-- is there a wire from g to f
abbrev pub is_wire : Directory → ℕ → ℕ → Bool
is_wire d g f = ltb g d.next_federate && is_other d.joined g f

abbrev pub IsWired : Directory → (ℕ → ℕ → List Message) → Type 0
IsWired d wire = (g f : ℕ) → is_wire d g f ≡ false → wire g f ≡ []

-- A wire from g to a component that knows the bound v in the epoch k. Each event in time-stamp order is at or above that bound
-- and every null of the epoch before it. Where g regulates, all of them are at most what it announced last
abbrev pub Carries : Bool → ℕ → ℕ → ℕ → (ℕ → ℕ) → ℕ → List Message → ℕ → Type 0
Carries regulates last_announced k g t x [] v = regulates ≡ true → v ≤ last_announced
Carries regulates last_announced k g t x (message.Event e ∷ ms) v = (e.ordered ≡ true → v ≤ e.stamp) × (e.sender ≡ g) × Carries regulates last_announced k g t x ms v
Carries regulates last_announced k g t x (message.Null j w ∷ ms) v = (j ≤ k) × Carries regulates last_announced k g t x ms (cond (eqb j k) (max v w) v)
-- a retraction stands behind its event, and its stamp t m is above the bound and those nulls
Carries regulates last_announced k g t x (message.Retraction m ∷ ms) v = (v < t m) × (m < x) × (occurrences g m (events ms) ≡ 0) × Carries regulates last_announced k g t x ms v
Carries regulates last_announced k g t x (message.Discovery d ∷ ms) v = Carries regulates last_announced k g t x ms v

-- ---- rows
pub record RowInv (r : TimeRow) : Type 0 where
  pub idle : is_pending r.regulating ≡ true → r.advance ≡ None
  pub resting : is_pending r.constrained ≡ true → r.advance ≡ None
  pub asks : (q : AdvanceRequest) → r.advance ≡ Some q → r.time ≤ q.asked
  pub flushes : (q : AdvanceRequest) (t : ℕ) → r.advance ≡ Some q → r.flushed ≡ Some t → r.time ≤ t
  pub barred : is_constrained r ≡ true → r.time ≤ r.bar
  pub steady : is_constrained r ≡ true → is_pending r.regulating ≡ true → r.regulation_time ≡ r.time

abbrev pub stamps : Components → ℕ → ℕ → ℕ
stamps s g m = (s.sent g m).stamp

pub record TimeInv (next : ℕ) (joined : ℕ → Bool) (row : ℕ → TimeRow) (serial : ℕ → ℕ) (tso : ℕ → List Event) (wire : ℕ → ℕ → List Message) (bound known_epoch : ℕ → ℕ → ℕ) (last_announced epoch : ℕ → ℕ) (sent : ℕ → ℕ → SentEvent) : Type 0 where
  pub queues : (f : ℕ) → IsTsoQueue (tso f)
  pub ordered : (f : ℕ) → IsInKeyOrder (tso f)
  -- nothing waits in the past of a constrained federate
  pub ahead : (f : ℕ) → is_constrained (row f) ≡ true → Above (row f).time (tso f)
  pub wires : (g f : ℕ) → Carries (is_regulator (row g) && is_other joined g f) (last_announced g) (known_epoch f g) g (λ m. (sent g m).stamp) (serial g) (wire g f) (bound f g)
  pub epochs : (g f : ℕ) → is_other joined g f ≡ true → known_epoch f g ≡ epoch g
  pub regulators : (g : ℕ) → is_regulator (row g) ≡ true → joined g ≡ true
  -- what a regulator announced last is no more than it may promise now
  pub promised : (g : ℕ) → is_regulator (row g) ≡ true → last_announced g ≤ promise_of (row g) (tso g) (least next (bound g))
  pub bars : (f : ℕ) → is_constrained (row f) ≡ true → (row f).bar ≤ least next (bound f)
  pub rows : (f : ℕ) → RowInv (row f)

abbrev pub IsTimed : Components → Type 0
IsTimed s = TimeInv s.directory.next_federate s.directory.joined s.row s.serial s.tso s.wire s.bound s.known_epoch s.last_announced s.epoch s.sent

-- ---- objects
pub record DirectoryInv (d : Directory) : Type 0 where
  pub members : (f : ℕ) → d.joined f ≡ true → f < d.next_federate
  pub owners : (h : ℕ) → (d.object h).exists ≡ true → ((d.object h).owner < d.next_federate) × (h < d.next_object)
  -- a joined federate knows each object that fits its subscriptions
  pub served : (f h : ℕ) → d.joined f ≡ true → (d.object h).exists ≡ true → (d.object h).owner ≢ f → is_some (served_object d f (d.object h).class) ≡ true → d.known h f ≡ true
  pub declared : (f class : ℕ) → d.next_federate ≤ f → d.subscribed f class ≡ None

-- h is an object of g that f knows
pub record IsKnownOf (d : Directory) (g f h : ℕ) : Type 0 where
  pub owner : (d.object h).owner ≡ g
  pub known : d.known h f ≡ true
  pub registered : h < d.next_object

-- what g says to f is of an object of g that f knows
abbrev pub IsTold : Directory → ℕ → ℕ → Content → Type 0
IsTold d g f (content.Interaction class values) = Unit {0}
IsTold d g f (content.Reflection object values) = IsKnownOf d g f object
IsTold d g f (content.Removal object) = IsKnownOf d g f object

-- the object of a message is not to be discovered among these
abbrev pub IsBehind : Content → List Discovery → Type 0
IsBehind (content.Interaction class values) ds = Unit {0}
IsBehind (content.Reflection object values) ds = EachOf (λ (d : Discovery). d.object ≢ object) ds
IsBehind (content.Removal object) ds = EachOf (λ (d : Discovery). d.object ≢ object) ds

abbrev pub Tells : Directory → ℕ → ℕ → List Message → Type 0
Tells d g f [] = Unit {0}
Tells d g f (message.Event e ∷ ms) = IsTold d g f e.content × IsBehind e.content (discoveries ms) × Tells d g f ms
Tells d g f (message.Null k v ∷ ms) = Tells d g f ms
Tells d g f (message.Retraction m ∷ ms) = Tells d g f ms
Tells d g f (message.Discovery x ∷ ms) = IsKnownOf d g f x.object × Tells d g f ms

abbrev pub IsWaiting : Directory → (ℕ → ℕ → List Message) → ℕ → Event → Type 0
IsWaiting d wire f e = IsTold d e.sender f e.content × IsBehind e.content (discoveries (wire e.sender f))

abbrev pub IsControl : Directory → ℕ → Control → Type 0
IsControl d f (ToDiscover from x) = IsKnownOf d from f x.object
IsControl d f (ToRetract e) = Unit {0}
IsControl d f (ToTell n) = Unit {0}

-- discoveries come before what is said of their objects
pub record ObjectInv (d : Directory) (wire : ℕ → ℕ → List Message) (tso ro : ℕ → List Event) (controls : ℕ → List Control) : Type 0 where
  pub tells : (g f : ℕ) → Tells d g f (wire g f)
  pub ordered : (f : ℕ) → EachOf (IsWaiting d wire f) (tso f)
  pub plain : (f : ℕ) → EachOf (IsWaiting d wire f) (ro f)
  pub due : (f : ℕ) → EachOf (IsControl d f) (controls f)

-- ---- epochs
-- the epoch of each joined federate is how often it has enabled time regulation
abbrev pub CountsEnablings : Components → Type 0
CountsEnablings s = (f : ℕ) → s.directory.joined f ≡ true → s.epoch f ≡ (s.row f).enablings

pub record EpochInv (s : Components) : Type 0 where
  pub counted : CountsEnablings s
  -- who has never joined is in the epoch 0
  pub unheard : (f : ℕ) → s.directory.next_federate ≤ f → s.epoch f ≡ 0

-- ---- all of it
pub record Kept (s : Components) : Type 0 where
  pub directory : DirectoryInv s.directory
  pub wired : IsWired s.directory s.wire
  pub time : IsTimed s
  pub copies : CopyInv s.serial s.wire s.tso s.ro
  pub objects : ObjectInv s.directory s.wire s.tso s.ro s.controls

pub record Inv (s : Components) : Type 0 where
  pub kept : Kept s
  pub laws : CentralInv (central s)
  -- no number of a row is beyond its limit
  pub numbers : (f : ℕ) → RowNumbers (s.row f)
  -- no epoch is beyond the limit of enablings
  pub epochs : EpochInv s
