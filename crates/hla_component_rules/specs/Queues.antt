-- Queues of events, in the order of their keys and in the order of their arrival
use Rattle.std.specs.Prelude.{ℕ, ◌+◌, min, cond, eqb, ltb, ◌&&◌, ◌||◌, Bool, Option, Some, None, List, [], ◌∷◌}
use Rattle.hla_base.specs.declared.content.Event.{Event}
use Rattle.hla_base.specs.declared.number.EventHandle.{EventHandle}
use Rattle.hla_base.specs.Tables.{forever, one_if}

-- what contracts see of a receive-order queue
pub record Queue : Type 0 where
  pub events : List Event
  pub room : ℕ  -- how many more events it takes without more memory

-- the order of keys: stamp, sender, serial
abbrev pub is_before : Event → Event → Bool
is_before a b = ltb a.stamp b.stamp || (eqb a.stamp b.stamp && (ltb a.sender b.sender || (eqb a.sender b.sender && ltb a.serial b.serial)))

-- puts an event before the first that it is before
unfoldable pub insert_event : Event → List Event → List Event
insert_event e [] = e ∷ []
insert_event e (x ∷ xs) = cond (is_before e x) (e ∷ x ∷ xs) (x ∷ insert_event e xs)

abbrev pub is_event : ℕ → ℕ → Event → Bool
is_event g m e = eqb g e.sender && eqb m e.serial

-- the event of a sender with a serial
unfoldable pub find_event : ℕ → ℕ → List Event → Option Event
find_event g m [] = None
find_event g m (x ∷ xs) = cond (is_event g m x) (Some x) (find_event g m xs)

-- how often it is there
unfoldable pub occurrences : ℕ → ℕ → List Event → ℕ
occurrences g m [] = 0
occurrences g m (x ∷ xs) = one_if (is_event g m x) + occurrences g m xs

-- the queue without an event
unfoldable pub remove_event : ℕ → ℕ → List Event → List Event
remove_event g m [] = []
remove_event g m (x ∷ xs) = cond (is_event g m x) xs (x ∷ remove_event g m xs)

-- the least stamp of a queue in key order
abbrev pub first_stamp : List Event → ℕ
first_stamp [] = forever
first_stamp (x ∷ xs) = x.stamp

-- the least stamp of the events that were sent in time-stamp order
unfoldable pub least_ordered : List Event → ℕ
least_ordered [] = forever
least_ordered (x ∷ xs) = cond x.ordered (min x.stamp (least_ordered xs)) (least_ordered xs)

abbrev pub handle_of : Event → EventHandle
handle_of e = record { sender = e.sender; serial = e.serial }

unfoldable pub handles_of : List Event → List EventHandle
handles_of [] = []
handles_of (x ∷ xs) = handle_of x ∷ handles_of xs
