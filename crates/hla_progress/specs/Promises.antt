-- What is known of a peer once all that lies on its wire has come, and what a row has raised: kept beside the components' invariant
use Rattle.std.specs.Prelude.{ℕ, ◌+◌, ◌≡◌, ◌≢◌, ◌≤◌, ◌&&◌, ◌||◌, Bool, true, false, Some, List, [], ◌∷◌}
use Rattle.hla_base.specs.declared.row.AdvanceRequest.{AdvanceRequest}
use Rattle.hla_base.specs.declared.row.TimeRow.{TimeRow}
use Rattle.hla_base.specs.Tables.{forever, is_other}
use Rattle.hla_base.specs.Rows.{is_next, is_flush, is_regulator, is_constrained, width}
use Rattle.hla_lbts.specs.Peers.{null_bound}
use Rattle.hla_null_message.specs.declared.message.Message.{Message}
use Rattle.hla_null_message.specs.declared.message.Message.TheVariants as message
use Rattle.hla_machine.specs.declared.step.Step.{Step}
use Rattle.hla_components.specs.Components.{Components}
use Rattle.hla_components.specs.Next.{next}
use Rattle.hla_components.specs.Headline.{IsLedTo}

-- the bound v of a peer in the epoch k, once these messages of that peer have come: each null message of that epoch raises it
abbrev pub bound_after : ℕ → ℕ → List Message → ℕ
bound_after k v [] = v
bound_after k v (message.Event e ∷ ms) = bound_after k v ms
bound_after k v (message.Null j w ∷ ms) = bound_after k (null_bound k v j w) ms
bound_after k v (message.Retraction m ∷ ms) = bound_after k v ms
bound_after k v (message.Discovery d ∷ ms) = bound_after k v ms

-- a constrained federate in a next-event or flush request raises its floor only at the grant
abbrev pub is_raised_late : TimeRow → AdvanceRequest → Bool
is_raised_late r q = (is_next q.kind || is_flush q.kind) && is_constrained r

-- in each other advance the floor is at or above the asked time and the width
abbrev pub IsRaised : TimeRow → Type 0
IsRaised r = (q : AdvanceRequest) → r.advance ≡ Some q → is_raised_late r q ≡ false → q.asked + width r.lookahead q.kind ≤ r.floor

pub record PromiseInv (joined : ℕ → Bool) (row : ℕ → TimeRow) (wire : ℕ → ℕ → List Message) (bound known_epoch : ℕ → ℕ → ℕ) (last_announced : ℕ → ℕ) : Type 0 where
  -- what a joined federate knows of another ends at what that one announced last, once all on the wire between them has come
  pub wires : (g f : ℕ) → is_other joined g f ≡ true → bound_after (known_epoch f g) (bound f g) (wire g f) ≡ last_announced g
  -- who does not regulate has announced FOREVER
  pub silent : (g : ℕ) → is_regulator (row g) ≡ false → last_announced g ≡ forever
  pub raised : (f : ℕ) → IsRaised (row f)

abbrev pub KeepsPromises : Components → Type 0
KeepsPromises s = PromiseInv s.directory.joined s.row s.wire s.bound s.known_epoch s.last_announced

-- ---- the theorems
-- what f knows of g, carried along the null messages of the present epoch on the wire from g, ends exactly at what g announced last;
-- and that is FOREVER where g does not regulate, or is not joined
abbrev pub EachWireEndsAtTheLast : Type 0
EachWireEndsAtTheLast = (s : Components) (g f : ℕ) → IsLedTo s → s.directory.joined f ≡ true → g ≢ f →
    (bound_after (s.known_epoch f g) (s.bound f g) (s.wire g f) ≡ s.last_announced g)
    × (is_regulator (s.row g) ≡ false → s.last_announced g ≡ forever)
    × (s.directory.joined g ≡ false → s.last_announced g ≡ forever)

-- a federate in Time Advance Request (Available), or not constrained in any advance, has its floor at or above the asked time and the width
abbrev pub EachFloorIsRaised : Type 0
EachFloorIsRaised = (s : Components) (f : ℕ) → IsLedTo s → IsRaised (s.row f)

-- each step keeps both
abbrev pub EachStepKeepsPromises : Type 0
EachStepKeepsPromises = (s : Components) (step : Step) → IsLedTo s → KeepsPromises s → KeepsPromises (next s step).state

abbrev pub EachListKeepsPromises : Type 0
EachListKeepsPromises = (s : Components) → IsLedTo s → KeepsPromises s
