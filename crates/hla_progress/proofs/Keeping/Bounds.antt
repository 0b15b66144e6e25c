-- What a wire's messages make of a bound, after messages are put behind
use Rattle.std.proofs.Common.{◌≡◌, ◌≢◌, ◌≤◌, ℕ, ◌+◌, eqb, refl, le_trans, ◌∙◌, arith, ne_eqb, Bool, List, [], ◌∷◌, ◌++◌, Option, Some, None, map}
use Rattle.std.proofs.lemmas.Bool.{cond_both}
use Rattle.hla_base.specs.declared.content.Content.{Content}
use Rattle.hla_base.specs.declared.content.Discovery.{Discovery}
use Rattle.hla_base.specs.declared.row.TimeRow.{TimeRow}
use Rattle.hla_lbts.specs.Peers.{null_bound}
use Rattle.hla_null_message.specs.declared.message.Message.{Message}
use Rattle.hla_null_message.specs.declared.message.Message.TheVariants as message
use Rattle.hla_machine.specs.Directory.{Outgoing}
use Rattle.hla_null_message.specs.Wires.{put_behind, without_last_null}
use Rattle.hla_components.specs.Next.{put_event, put_discoveries, event_of}
use Rattle.hla_components.specs.Invariant.{Carries}
use Rattle.hla_components.proofs.Wiring.Carries.{raised_here, raised_ge}
use Rattle.hla_progress.specs.Promises.{bound_after}

pub bound_after-append : (k v : ℕ) (ms ns : List Message) → bound_after k v (ms ++ ns) ≡ bound_after k (bound_after k v ms) ns
bound_after-append k v [] ns = refl
bound_after-append k v (message.Event e ∷ ms) ns = bound_after-append k v ms ns
bound_after-append k v (message.Null j w ∷ ms) ns = bound_after-append k (null_bound k v j w) ms ns
bound_after-append k v (message.Retraction m ∷ ms) ns = bound_after-append k v ms ns
bound_after-append k v (message.Discovery d ∷ ms) ns = bound_after-append k v ms ns

-- without a null message at the end it is no greater
bound_after-without : (k i v : ℕ) (ms : List Message) → bound_after k v (without_last_null i ms) ≤ bound_after k v ms
bound_after-without k i v [] = omega arith
bound_after-without k i v (message.Event e ∷ ms) = bound_after-without k i v ms
bound_after-without k i v (message.Null j w ∷ []) = cond_both (eqb j i) [] (message.Null j w ∷ []) (λ ms. bound_after k v ms ≤ null_bound k v j w) (λ _. raised_ge (eqb j k) v w) (λ _. omega arith)
bound_after-without k i v (message.Null j w ∷ m ∷ ms) = bound_after-without k i (null_bound k v j w) (m ∷ ms)
bound_after-without k i v (message.Retraction m ∷ ms) = bound_after-without k i v ms
bound_after-without k i v (message.Discovery d ∷ ms) = bound_after-without k i v ms

-- a null message of the epoch, at or above it, raises it to what that says
pub bound_after-null : (k v w : ℕ) (ms : List Message) → bound_after k v ms ≤ w → bound_after k v (put_behind (message.Null k w) ms) ≡ w
bound_after-null k v w ms below =
    let rest = without_last_null k ms in
    let le : bound_after k v rest ≤ w = le_trans (bound_after-without k k v ms) below in
    bound_after-append k v rest (message.Null k w ∷ []) ∙ raised_here k (bound_after k v rest) w ∙ omega (arith, le)

pub bound_after-retraction : (k v m : ℕ) (ms : List Message) → bound_after k v (put_behind (message.Retraction m) ms) ≡ bound_after k v ms
bound_after-retraction k v m ms = bound_after-append k v ms (message.Retraction m ∷ [])

pub bound_after-event : (k v g m : ℕ) (r : TimeRow) (stamp : Option ℕ) (out : Outgoing) (x : Option Content) (ms : List Message) → bound_after k v (put_event g m r stamp out x ms) ≡ bound_after k v ms
bound_after-event k v g m r stamp out None ms = refl
bound_after-event k v g m r stamp out (Some x) ms = bound_after-append k v ms (message.Event (event_of g m r stamp out x) ∷ [])

discoveries_leave : (k v : ℕ) (ds : List Discovery) → bound_after k v (map message.Discovery ds) ≡ v
discoveries_leave k v [] = refl
discoveries_leave k v (d ∷ ds) = discoveries_leave k v ds

pub bound_after-discoveries : (k v : ℕ) (ds : List Discovery) (ms : List Message) → bound_after k v (put_discoveries ds ms) ≡ bound_after k v ms
bound_after-discoveries k v ds ms = bound_after-append k v ms (map message.Discovery ds) ∙ discoveries_leave k (bound_after k v ms) ds

-- what lies on a wire in older epochs leaves the bound of a new one
pub bound_after-older : (r : Bool) (l k g : ℕ) (t : ℕ → ℕ) (x : ℕ) (ms : List Message) (v w : ℕ) → Carries r l k g t x ms v → bound_after (k + 1) w ms ≡ w
bound_after-older r l k g t x [] v w c = refl
bound_after-older r l k g t x (message.Event e ∷ ms) v w c = bound_after-older r l k g t x ms v w c.2
bound_after-older r l k g t x (message.Null j y ∷ ms) v w c =
    let ne : j ≢ k + 1 = λ same. omega (arith, c.0) in
    rw (ne_eqb j (k + 1) ne) (bound_after-older r l k g t x ms _ w c.1)
bound_after-older r l k g t x (message.Retraction m ∷ ms) v w c = bound_after-older r l k g t x ms v w c.3
bound_after-older r l k g t x (message.Discovery d ∷ ms) v w c = bound_after-older r l k g t x ms v w c
