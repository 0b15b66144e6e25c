-- What lies on a wire, kind by kind
use Rattle.std.specs.Prelude.{ℕ, ◌+◌, eqb, ◌&&◌, not, cond, Bool, true, false, List, [], ◌∷◌, ◌++◌}
use Rattle.hla_base.specs.declared.content.Event.{Event}
use Rattle.hla_base.specs.declared.content.Discovery.{Discovery}
use Rattle.hla_base.specs.Tables.{one_if}
use Rattle.hla_null_message.specs.declared.message.Message.{Message}
use Rattle.hla_null_message.specs.declared.message.Message.TheVariants as message

-- what contracts see of a wire
pub record WireValue : Type 0 where
  pub messages : List Message  -- the first first
  pub room : ℕ  -- how many more messages it takes without more memory

-- the events on a wire
unfoldable pub events : List Message → List Event
events [] = []
events (message.Event e ∷ ms) = e ∷ events ms
events (message.Null k v ∷ ms) = events ms
events (message.Retraction m ∷ ms) = events ms
events (message.Discovery d ∷ ms) = events ms

-- the discoveries on a wire
unfoldable pub discoveries : List Message → List Discovery
discoveries [] = []
discoveries (message.Event e ∷ ms) = discoveries ms
discoveries (message.Null k v ∷ ms) = discoveries ms
discoveries (message.Retraction m ∷ ms) = discoveries ms
discoveries (message.Discovery d ∷ ms) = d ∷ discoveries ms

-- how often an event's retraction is on the wire
unfoldable pub retractions : ℕ → List Message → ℕ
retractions m [] = 0
retractions m (message.Event e ∷ ms) = retractions m ms
retractions m (message.Null k v ∷ ms) = retractions m ms
retractions m (message.Retraction k ∷ ms) = one_if (eqb m k) + retractions m ms
retractions m (message.Discovery d ∷ ms) = retractions m ms

-- ---- what is put on a wire
-- is it a null message of this epoch
abbrev pub is_null_of : ℕ → Message → Bool
is_null_of k (message.Event e) = false
is_null_of k (message.Null j v) = eqb j k
is_null_of k (message.Retraction m) = false
is_null_of k (message.Discovery d) = false

abbrev pub is_nothing : List Message → Bool
is_nothing [] = true
is_nothing (m ∷ ms) = false

-- is the last message a null message of this epoch
abbrev pub ends_with_null : ℕ → List Message → Bool
ends_with_null k [] = false
ends_with_null k (message.Event e ∷ ms) = ends_with_null k ms
ends_with_null k (message.Null j v ∷ ms) = cond (is_nothing ms) (eqb j k) (ends_with_null k ms)
ends_with_null k (message.Retraction m ∷ ms) = ends_with_null k ms
ends_with_null k (message.Discovery d ∷ ms) = ends_with_null k ms

-- the messages but for the last one, where that is a null message of this epoch
abbrev pub without_last_null : ℕ → List Message → List Message
without_last_null k [] = []
without_last_null k (message.Event e ∷ ms) = message.Event e ∷ without_last_null k ms
without_last_null k (message.Null j v ∷ ms) = cond (is_nothing ms && eqb j k) [] (message.Null j v ∷ without_last_null k ms)
without_last_null k (message.Retraction m ∷ ms) = message.Retraction m ∷ without_last_null k ms
without_last_null k (message.Discovery d ∷ ms) = message.Discovery d ∷ without_last_null k ms

-- a message stands behind the others; a null message takes the place of the last one, where that is a null message of its epoch
abbrev pub put_behind : Message → List Message → List Message
put_behind (message.Event e) ms = ms ++ message.Event e ∷ []
put_behind (message.Null k v) ms = without_last_null k ms ++ message.Null k v ∷ []
put_behind (message.Retraction m) ms = ms ++ message.Retraction m ∷ []
put_behind (message.Discovery d) ms = ms ++ message.Discovery d ∷ []

-- does it take room: not where it takes the place of another
abbrev pub takes_room : Message → List Message → Bool
takes_room (message.Event e) ms = true
takes_room (message.Null k v) ms = not (ends_with_null k ms)
takes_room (message.Retraction m) ms = true
takes_room (message.Discovery d) ms = true

-- messages are put one behind the other
abbrev pub put_all_behind : List Message → List Message → List Message
put_all_behind [] ms = ms
put_all_behind (n ∷ ns) ms = put_all_behind ns (put_behind n ms)
