-- Who waits for nobody else, what may be given to it before its callback, and that the callback comes
use Rattle.std.specs.Prelude.{ℕ, zero, suc, ◌+◌, ◌≡◌, ◌≤◌, ◌<◌, ◌⊎◌, cond, leb, not, ◌&&◌, ◌||◌, Bool, true, false, Option, Some, None, List, [], ◌∷◌, length}
use Rattle.hla_base.specs.declared.content.Event.{Event}
use Rattle.hla_base.specs.declared.row.AdvanceRequest.{AdvanceRequest}
use Rattle.hla_base.specs.declared.row.TimeRow.{TimeRow}
use Rattle.hla_base.specs.Tables.{one_if}
use Rattle.hla_base.specs.Rows.{is_next, reach, is_flush, is_pending, is_constrained, is_advancing}
use Rattle.hla_callbacks.specs.declared.callback.Callback.{Callback}
use Rattle.hla_callbacks.specs.declared.callback.Callback.TheVariants as callback
use Rattle.hla_null_message.specs.declared.message.Message.{Message}
use Rattle.hla_null_message.specs.declared.message.Message.TheVariants as message
use Rattle.hla_component_rules.specs.declared.control.Control.{Control}
use Rattle.hla_component_rules.specs.Arriving.{is_kept_in_order}
use Rattle.hla_component_rules.specs.Picking.{is_held_back}
use Rattle.hla_machine.specs.declared.step.Step.{Step}
use Rattle.hla_components.specs.Components.{Components}
use Rattle.hla_components.specs.Component.{local_bound}
use Rattle.hla_components.specs.Invariant.{EachOf}
use Rattle.hla_components.specs.Headline.{IsLedTo, happenings}
use Rattle.hla_progress.specs.Promises.{is_raised_late}
use Rattle.hla_progress.specs.Rounds.{rounds, IsOfRounds, ticks_of, IsGivenAtLast}

-- ---- who waits for nobody else
abbrev pub is_flush_asked : Option AdvanceRequest → Bool
is_flush_asked None = false
is_flush_asked (Some q) = is_flush q.kind

-- a pending regulation, and an advance of a federate that is not constrained or flushes
abbrev pub WaitsForNobody : TimeRow → Type 0
WaitsForNobody r = (is_pending r.regulating ≡ true) ⊎ ((is_advancing r ≡ true) × ((is_constrained r ≡ false) ⊎ (is_flush_asked r.advance ≡ true)))

-- the callback for which a federate waits: that it regulates from now on, or its grant, which is of the time that it asked for, but
-- of a constrained federate in a next-event or flush request of no more
abbrev pub IsAwaited : TimeRow → Callback → Type 0
IsAwaited r (callback.TimeRegulationEnabled t) = (is_pending r.regulating ≡ true) × (t ≡ r.regulation_time)
IsAwaited r (callback.TimeAdvanceGrant t) = (q : AdvanceRequest) × (r.advance ≡ Some q) × (t ≤ q.asked) × (is_raised_late r q ≡ false → t ≡ q.asked)
IsAwaited r k = ⊥

-- ---- what may be given before it
-- what waits in receive order, unless it is held back
abbrev pub is_ro_due : TimeRow → Bool
is_ro_due r = not (is_held_back r)

abbrev pub is_tso_asked : Option AdvanceRequest → ℕ → Event → Bool
is_tso_asked None limit e = false
is_tso_asked (Some q) limit e = is_flush q.kind || leb e.stamp limit

-- what waits in time-stamp order: in a flush all, in another advance what is at most a limit
abbrev pub is_tso_due : TimeRow → ℕ → Event → Bool
is_tso_due r limit e = is_constrained r && is_tso_asked r.advance limit e

-- how many callbacks may come of a message on a wire: of a null message none
abbrev pub due_of : TimeRow → ℕ → Message → ℕ
due_of r limit (message.Event e) = one_if (cond (is_kept_in_order r e) (is_tso_due r limit e) (is_ro_due r))
due_of r limit (message.Null k v) = 0
due_of r limit (message.Retraction m) = 1
due_of r limit (message.Discovery d) = 1

abbrev pub due_on_wire : TimeRow → ℕ → List Message → ℕ
due_on_wire r limit [] = 0
due_on_wire r limit (m ∷ ms) = due_of r limit m + due_on_wire r limit ms

abbrev pub due_in_order : TimeRow → ℕ → List Event → ℕ
due_in_order r limit [] = 0
due_in_order r limit (e ∷ es) = one_if (is_tso_due r limit e) + due_in_order r limit es

abbrev pub due_in_queues : TimeRow → ℕ → List Control → List Event → List Event → ℕ
due_in_queues r limit controls ro tso = length controls + (cond (is_ro_due r) (length ro) 0 + due_in_order r limit tso)

-- the sum of the first n entries
unfoldable pub total : ℕ → (ℕ → ℕ) → ℕ
total zero t = 0
total (suc n) t = total n t + t n

-- how many callbacks may be given to f before the one for which it waits, if nothing more is sent to it, and of what waits in
-- time-stamp order only what is at most the limit; an event and its retraction on a wire count as two
abbrev pub due_up_to : Components → ℕ → ℕ → ℕ
due_up_to s f limit = due_in_queues (s.row f) limit (s.controls f) (s.ro f) (s.tso f) + total s.directory.next_federate (λ g. due_on_wire (s.row f) limit (s.wire g f))

abbrev pub asked_time : Option AdvanceRequest → ℕ
asked_time None = 0
asked_time (Some q) = q.asked

-- the limit is the time that f asked for
abbrev pub due_before : Components → ℕ → ℕ
due_before s f = due_up_to s f (asked_time (s.row f).advance)

-- ---- the theorems
-- the callback comes among announcements, carries and ticks in whatever order, once f ticks more often than callbacks are due before
-- it; and each tick of f until then answers
abbrev pub EachTickAnswersAtOnce : Type 0
EachTickAnswersAtOnce = (s : Components) (steps : List Step) (f : ℕ) → IsLedTo s → s.directory.joined f ≡ true → WaitsForNobody (s.row f) →
    EachOf IsOfRounds steps → due_before s f < ticks_of f steps → IsGivenAtLast (happenings s steps) f (IsAwaited (s.row f))

-- so it comes by the round 1 + what is due before it, where n is at least the number of the last federate that joined
abbrev pub EachComesAtOnce : Type 0
EachComesAtOnce = (s : Components) (f n m : ℕ) → IsLedTo s → s.directory.joined f ≡ true → s.directory.next_federate ≤ n + 1 → WaitsForNobody (s.row f) →
    IsGivenAtLast (happenings s (rounds (1 + due_before s f) n m)) f (IsAwaited (s.row f))

-- a constrained federate in Time Advance Request (Available) is not held back either once its goal (what its request reaches to) is at
-- most the least bound that it knows: it is granted exactly the time that it asked for
abbrev pub EachReachedComesAtOnce : Type 0
EachReachedComesAtOnce = (s : Components) (steps : List Step) (f : ℕ) (q : AdvanceRequest) → IsLedTo s → s.directory.joined f ≡ true →
    is_constrained (s.row f) ≡ true → (s.row f).advance ≡ Some q → is_next q.kind ≡ false → is_flush q.kind ≡ false → reach q.kind q.asked ≤ local_bound s f →
    EachOf IsOfRounds steps → due_before s f < ticks_of f steps → IsGivenAtLast (happenings s steps) f (λ k. k ≡ callback.TimeAdvanceGrant q.asked)
