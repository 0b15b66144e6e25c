-- How blocks lie under their separators: in a slab, at the places that an ordered map has for the separators
use Rattle.std.specs.Prelude.{◌≡◌, ◌≤◌, ◌<◌, ℕ, eqb, ◌||◌, Bool, false, List, [], ◌∷◌, length, Some, is_some, Result}
use Rattle.std.specs.Option.{unwrap_or}
use Rattle.std.specs.Result.{OnOk, OnErr}
use Rattle.slab.specs.Slab.{Slab, get}
use Rattle.hla_base.specs.declared.content.Event.{Event}
use Rattle.hla_order_queues.specs.declared.key.EventKey.{EventKey}
use Rattle.hla_component_rules.specs.Queues.{insert_event}
use Rattle.hla_order_queues.specs.declared.separators.Placed.{Placed}
use Rattle.hla_order_queues.specs.declared.separators.Placed.TheVariants.{Put, Before, Full, Refused}
use Rattle.hla_order_queues.specs.Kept.{key_of, block_at, set_block, AreAfter, IsPlace}

-- the events of the block at a place
abbrev pub block_in : Slab (List Event) → ℕ → List Event
block_in s place = unwrap_or (get s place) []

-- the blocks at these places, under their separators
abbrev pub blocks_at : Slab (List Event) → List (EventKey × ℕ) → List (EventKey × List Event)
blocks_at s [] = []
blocks_at s (e ∷ es) = (e.0, block_in s e.1) ∷ blocks_at s es

-- a separator has this place
abbrev pub is_place_named : ℕ → List (EventKey × ℕ) → Bool
is_place_named place [] = false
is_place_named place (e ∷ es) = eqb e.1 place || is_place_named place es

-- no two separators have one place
abbrev pub AreOwnPlaces : List (EventKey × ℕ) → Type 0
AreOwnPlaces [] = Unit {0}
AreOwnPlaces (e ∷ es) = (is_place_named e.1 es ≡ false) × AreOwnPlaces es

-- the slab has a block just at the places that separators have, and each separator has a place of its own
pub record AreHeld (s : Slab (List Event)) (es : List (EventKey × ℕ)) : Type 0 where
  pub held : (place : ℕ) → is_some (get s place) ≡ is_place_named place es
  pub distinct : AreOwnPlaces es

-- an event was put into the block under a separator, or refused
pub record IsPutIn (x : Event) (f : EventKey) (was : List Event) (old new : List (EventKey × List Event)) (r : Result (Unit {0}) Event) : Type 0 where
  pub block : List Event
  pub now : new ≡ set_block f old block
  pub ok : OnOk r (block ≡ insert_event x was)
  pub refused : OnErr r (block ≡ was)

-- the block in which an event belongs
pub record Belongs (x : Event) (es : List (EventKey × List Event)) : Type 0 where
  pub separator : EventKey
  pub block : List Event
  pub place : IsPlace (key_of x) separator es
  pub there : block_at separator es ≡ Some block

-- an event was put into its block, which had less than `full`
pub record IsPutInPlace (x : Event) (full : ℕ) (old new : List (EventKey × List Event)) : Type 0 where
  pub home : Belongs x old
  pub room : length home.block < full
  pub now : new ≡ set_block home.separator old (insert_event x home.block)

-- an event came back, and nothing has changed
pub record IsGivenBack (x y : Event) (old new : List (EventKey × List Event)) : Type 0 where
  pub event : y ≡ x
  pub unchanged : new ≡ old

-- an event was put into its block, or came back, as the block has `full` events, or all separators come after it
abbrev pub IsPlaced : Event → ℕ → List (EventKey × List Event) → List (EventKey × List Event) → Placed → Type 0
IsPlaced x full old new Put = IsPutInPlace x full old new
IsPlaced x full old new (Before y) = IsGivenBack x y old new × AreAfter (key_of x) old
IsPlaced x full old new (Full y) = IsGivenBack x y old new × (b : Belongs x old) × (full ≤ length b.block)
IsPlaced x full old new (Refused y) = IsGivenBack x y old new
