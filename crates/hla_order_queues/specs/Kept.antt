-- How a queue in time-stamp order keeps its events: in blocks, of which none is empty, with their stamps by name
use Rattle.std.specs.Prelude.{◌≡◌, ℕ, ◌<◌, ◌^◌, ◌/◌, eqb, ltb, ◌&&◌, ◌||◌, Bool, true, false, Some, None, List, [], ◌∷◌, ◌++◌, length, slice_get, nat_eq, Option, option_map}
use Rattle.std.specs.List.{AllByRecursion}
use Rattle.std.specs.Map.{lookup, set_value, remove_entry, values_of}
use Rattle.std.specs.BTreeMap.{is_at}
use Rattle.std.specs.declared.cmp.Ordering.{Ordering}
use Rattle.std.specs.Ordering.{nat_cmp, ordering_then}
use Rattle.hla_base.specs.declared.content.Event.{Event}
use Rattle.hla_order_queues.specs.declared.key.EventKey.{EventKey}
use Rattle.hla_order_queues.specs.declared.key.EventName.{EventName}
use Rattle.hla_component_rules.specs.Queues.{is_before, find_event}

abbrev pub key_of : Event → EventKey
key_of e = record { stamp = e.stamp; sender = e.sender; serial = e.serial }

-- the order of keys
abbrev pub key_cmp : EventKey → EventKey → Ordering
key_cmp a b = ordering_then (nat_cmp a.stamp b.stamp) (ordering_then (nat_cmp a.sender b.sender) (nat_cmp a.serial b.serial))

abbrev pub is_less : EventKey → EventKey → Bool
is_less a b = ltb a.stamp b.stamp || (eqb a.stamp b.stamp && (ltb a.sender b.sender || (eqb a.sender b.sender && ltb a.serial b.serial)))

-- the event with this key comes before the other
abbrev pub is_key_before : EventKey → Event → Bool
is_key_before k e = is_less k (key_of e)

-- there is no event, or the first comes after this key
abbrev pub first_after : EventKey → List Event → Bool
first_after k [] = true
first_after k (x ∷ xs) = is_key_before k x

-- no event comes before an earlier one
unfoldable pub IsInOrder : List Event → Type 0
IsInOrder [] = Unit {0}
IsInOrder (x ∷ xs) = AllByRecursion (λ y. is_before y x ≡ false) xs × IsInOrder xs

-- the events of blocks
unfoldable pub joined : List (List Event) → List Event
joined [] = []
joined (b ∷ bs) = b ++ joined bs

-- the events of blocks that lie under their separators
abbrev pub events_of : List (EventKey × List Event) → List Event
events_of es = joined (values_of es)

-- there is no block, or the first separator comes after this key
abbrev pub separator_after : EventKey → List (EventKey × List Event) → Bool
separator_after k [] = true
separator_after k (e ∷ es) = is_less k e.0

-- all separators come after this key
abbrev pub AreAfter : EventKey → List (EventKey × List Event) → Type 0
AreAfter k es = AllByRecursion (λ e. is_less k e.0 ≡ true) es

-- all separators come after these events
abbrev pub AreBelowBlocks : List Event → List (EventKey × List Event) → Type 0
AreBelowBlocks xs es = AllByRecursion (λ x. AreAfter (key_of x) es) xs

-- no event comes before its block's separator, and the separators behind come after it
unfoldable pub AreSeparatored : List (EventKey × List Event) → Type 0
AreSeparatored [] = Unit {0}
AreSeparatored (e ∷ es) = AllByRecursion (λ x. is_less (key_of x) e.0 ≡ false) e.1 × AreBelowBlocks e.1 es × AreSeparatored es

-- no two events have one sender and one serial
unfoldable pub IsUnique : List Event → Type 0
IsUnique [] = Unit {0}
IsUnique (x ∷ xs) = (find_event x.sender x.serial xs ≡ None) × IsUnique xs

-- what is kept of the blocks behind the first
pub record AreBlocks (es : List (EventKey × List Event)) : Type 0 where
  pub filled : AllByRecursion (λ e. 0 < length e.1) es
  pub separatored : AreSeparatored es
  pub ordered : IsInOrder (events_of es)

-- the block under a separator, another in its place, and the blocks without it
abbrev pub block_at : EventKey → List (EventKey × List Event) → Option (List Event)
block_at f es = lookup (is_at (key_cmp f)) es

abbrev pub set_block : EventKey → List (EventKey × List Event) → List Event → List (EventKey × List Event)
set_block f es b = set_value (is_at (key_cmp f)) es b

abbrev pub without_block : EventKey → List (EventKey × List Event) → List (EventKey × List Event)
without_block f es = remove_entry (is_at (key_cmp f)) es

-- a block lies under this separator, and lesser separators are before it
pub record At (f : EventKey) (es : List (EventKey × List Event)) : Type 0 where
  pub before : List (EventKey × List Event)
  pub block : List Event
  pub behind : List (EventKey × List Event)
  pub whole : es ≡ before ++ (f, block) ∷ behind
  pub lesser : AllByRecursion (λ e. is_less e.0 f ≡ true) before

-- the event with this key belongs in the block under this separator
pub record IsPlace (k f : EventKey) (es : List (EventKey × List Event)) : Type 0 where
  pub at : At f es
  pub low : is_less k f ≡ false
  pub high : AreAfter k at.behind

-- the block under this separator keeps its lesser half, and this is the greater
pub record IsHalved (f : EventKey) (old new : List (EventKey × List Event)) (greater : List Event) : Type 0 where
  pub block : List Event
  pub lesser : List Event
  pub was : block_at f old ≡ Some block
  pub parts : lesser ++ greater ≡ block
  pub kept : 0 < length lesser
  pub given : slice_get greater 0 ≡ slice_get block (length block / 2)
  pub now : new ≡ set_block f old lesser

-- what is kept of the first block, the later events, and how many there are
pub record AreInOrder (first later : List Event) (count : ℕ) : Type 0 where
  pub ordered : IsInOrder (first ++ later)
  pub filled : first ≡ [] → later ≡ []
  pub counted : count ≡ length (first ++ later)
  pub small : count < 2 ^ 64

-- whether two names are the same
abbrev pub name_eq : EventName → EventName → Bool
name_eq a b = nat_eq a.sender b.sender && nat_eq a.serial b.serial

-- the name of the event that has this key
abbrev pub name_of_key : EventKey → EventName
name_of_key k = record { sender = k.sender; serial = k.serial }

-- the stamp that names with these stamps have at a name
abbrev pub stamp_at : List (EventName × ℕ) → EventName → Option ℕ
stamp_at entries n = lookup (name_eq n) entries

-- the stamp of the event with this name
abbrev pub stamp_of : EventName → List Event → Option ℕ
stamp_of n xs = option_map (λ x. x.stamp) (find_event n.sender n.serial xs)

-- no two events have one name, and at each name is the stamp of its event
pub record AreNamed (entries : List (EventName × ℕ)) (xs : List Event) : Type 0 where
  pub unique : IsUnique xs
  pub named : (n : EventName) → stamp_at entries n ≡ stamp_of n xs
