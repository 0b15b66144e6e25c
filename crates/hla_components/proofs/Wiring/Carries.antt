-- What a wire carries, after messages are put on it
use Rattle.std.proofs.Common.{◌≡◌, ◌≢◌, ℕ, ◌+◌, ◌≤◌, ◌<◌, max, cond, eqb, Bool, true, false, refl, le_trans, lt_of_le_of_lt, ap, ◌∙◌, ⊎_elim, arith, eqb-true, ne_eqb, List, [], ◌∷◌, ◌++◌, Some, map}
use Rattle.std.proofs.lemmas.Bool.{cond_both, cases_Bool}
use Rattle.std.proofs.lemmas.Bool.Decides.{nat_tests}
use Rattle.hla_base.specs.declared.content.Event.{Event}
use Rattle.hla_base.specs.declared.content.Discovery.{Discovery}
use Rattle.hla_null_message.specs.declared.message.Message.{Message}
use Rattle.hla_null_message.specs.declared.message.Message.TheVariants as message
use Rattle.hla_base.specs.Tables.{one_if}
use Rattle.hla_component_rules.specs.Queues.{is_event, find_event, occurrences}
use Rattle.hla_null_message.specs.Wires.{events, retractions, put_behind, without_last_null}
use Rattle.hla_components.specs.Next.{put_discoveries}
use Rattle.hla_components.specs.Invariant.{Carries}
use Rattle.hla_components.proofs.Wiring.Wires.{occurs-put_event, events-without, events-null_behind, events-put_retraction, events-put_discoveries}

pub one_if_le : (b : Bool) → one_if b ≤ 1
one_if_le true = omega arith
one_if_le false = omega arith

pub not_key : (g m : ℕ) (e : Event) → m ≢ e.serial → one_if (is_event g m e) ≡ 0
not_key g m e ne = grind (arith, nat_tests)

pub not_sender : (g m : ℕ) (e : Event) → g ≢ e.sender → one_if (is_event g m e) ≡ 0
not_sender g m e ne = grind (arith, nat_tests)

pub raised_here : (k v w : ℕ) → cond (eqb k k) (max v w) v ≡ max v w
raised_here k v w = grind (arith, nat_tests)

pub raised_ge : (b : Bool) (v w : ℕ) → v ≤ cond b (max v w) v
raised_ge b v w = cond_both b (max v w) v (λ x. v ≤ x) (λ _. omega arith) (λ _. omega arith)

-- fewer conditions on the end of a wire
pub Carries-at : (r q : Bool) (l m k g : ℕ) (t : ℕ → ℕ) (x : ℕ) (ms : List Message) (v : ℕ) → (q ≡ true → (r ≡ true) × (l ≤ m)) → Carries r l k g t x ms v → Carries q m k g t x ms v
Carries-at r q l m k g t x [] v h c = λ e. omega (arith, (h e).1, c (h e).0)
Carries-at r q l m k g t x (message.Event e ∷ ms) v h c = (c.0, c.1, Carries-at r q l m k g t x ms v h c.2)
Carries-at r q l m k g t x (message.Null j w ∷ ms) v h c = (c.0, Carries-at r q l m k g t x ms _ h c.1)
Carries-at r q l m k g t x (message.Retraction o ∷ ms) v h c = (c.0, c.1, c.2, Carries-at r q l m k g t x ms v h c.3)
Carries-at r q l m k g t x (message.Discovery d ∷ ms) v h c = Carries-at r q l m k g t x ms v h c

-- the same stamps below, and more serials
pub Carries-later : (r : Bool) (l k g : ℕ) (t u : ℕ → ℕ) (x y : ℕ) (ms : List Message) (v : ℕ) → ((m : ℕ) → m < x → t m ≡ u m) → x ≤ y → Carries r l k g t x ms v → Carries r l k g u y ms v
Carries-later r l k g t u x y [] v same up c = c
Carries-later r l k g t u x y (message.Event e ∷ ms) v same up c = (c.0, c.1, Carries-later r l k g t u x y ms v same up c.2)
Carries-later r l k g t u x y (message.Null j w ∷ ms) v same up c = (c.0, Carries-later r l k g t u x y ms _ same up c.1)
Carries-later r l k g t u x y (message.Retraction o ∷ ms) v same up c = (omega (arith, c.0, same o c.1), omega (arith, c.1), c.2, Carries-later r l k g t u x y ms v same up c.3)
Carries-later r l k g t u x y (message.Discovery d ∷ ms) v same up c = Carries-later r l k g t u x y ms v same up c

-- ---- what is put behind
pub Carries-send : (r : Bool) (l k g : ℕ) (t : ℕ → ℕ) (x : ℕ) (ms : List Message) (v : ℕ) (e : Event) → x ≤ e.serial → (e.ordered ≡ true → (r ≡ true) × (l ≤ e.stamp)) → e.sender ≡ g
    → Carries r l k g t x ms v → Carries r l k g t x (put_behind (message.Event e) ms) v
Carries-send r l k g t x [] v e new h s c = (λ t. omega (arith, (h t).1, c (h t).0), s, c)
Carries-send r l k g t x (message.Event y ∷ ms) v e new h s c = (c.0, c.1, Carries-send r l k g t x ms v e new h s c.2)
Carries-send r l k g t x (message.Null j w ∷ ms) v e new h s c = (c.0, Carries-send r l k g t x ms _ e new h s c.1)
Carries-send r l k g t x (message.Retraction o ∷ ms) v e new h s c = (c.0, c.1, omega (arith, c.2, occurs-put_event g o e ms, not_key g o e (λ (same : o ≡ e.serial). omega (arith, c.1, new))), Carries-send r l k g t x ms v e new h s c.3)
Carries-send r l k g t x (message.Discovery d ∷ ms) v e new h s c = Carries-send r l k g t x ms v e new h s c

-- without a null message at the end it carries the same, and less is to be announced
pub Carries-without : (r : Bool) (l k g : ℕ) (t : ℕ → ℕ) (x i : ℕ) (ms : List Message) (v : ℕ) → Carries r l k g t x ms v → Carries r l k g t x (without_last_null i ms) v
Carries-without r l k g t x i [] v c = c
Carries-without r l k g t x i (message.Event y ∷ ms) v c = (c.0, c.1, Carries-without r l k g t x i ms v c.2)
Carries-without r l k g t x i (message.Null j w ∷ []) v c = cond_both (eqb j i) [] (message.Null j w ∷ []) (λ ms. Carries r l k g t x ms v) (λ _. λ reg. le_trans (raised_ge (eqb j k) v w) (c.1 reg)) (λ _. c)
Carries-without r l k g t x i (message.Null j w ∷ m ∷ ms) v c = (c.0, Carries-without r l k g t x i (m ∷ ms) _ c.1)
Carries-without r l k g t x i (message.Retraction o ∷ ms) v c = (c.0, c.1, ap (occurrences g o) (events-without i ms) ∙ c.2, Carries-without r l k g t x i ms v c.3)
Carries-without r l k g t x i (message.Discovery d ∷ ms) v c = Carries-without r l k g t x i ms v c

-- a null of the wire's epoch at the end
null_behind : (r : Bool) (l m k g : ℕ) (t : ℕ → ℕ) (x : ℕ) (ms : List Message) (v : ℕ) → l ≤ m
    → Carries r l k g t x ms v → Carries r m k g t x (ms ++ message.Null k m ∷ []) v
null_behind r l m k g t x [] v le c = (omega arith, λ e. rw raised_here (omega (arith, c e)))
null_behind r l m k g t x (message.Event y ∷ ms) v le c = (c.0, c.1, null_behind r l m k g t x ms v le c.2)
null_behind r l m k g t x (message.Null j w ∷ ms) v le c = (c.0, null_behind r l m k g t x ms _ le c.1)
null_behind r l m k g t x (message.Retraction o ∷ ms) v le c = (c.0, c.1, ap (occurrences g o) (events-null_behind k m ms) ∙ c.2, null_behind r l m k g t x ms v le c.3)
null_behind r l m k g t x (message.Discovery d ∷ ms) v le c = null_behind r l m k g t x ms v le c

pub Carries-null : (r : Bool) (l m k g : ℕ) (t : ℕ → ℕ) (x : ℕ) (ms : List Message) (v : ℕ) → l ≤ m
    → Carries r l k g t x ms v → Carries r m k g t x (put_behind (message.Null k m) ms) v
Carries-null r l m k g t x ms v le c = null_behind r l m k g t x (without_last_null k ms) v le (Carries-without r l k g t x k ms v c)

-- a new epoch begins with its entry
entry_behind : (r q : Bool) (l e k g : ℕ) (t : ℕ → ℕ) (x : ℕ) (ms : List Message) (v w : ℕ) → w ≤ v → w ≤ e
    → Carries r l k g t x ms v → Carries q e (k + 1) g t x (ms ++ message.Null (k + 1) e ∷ []) w
entry_behind r q l e k g t x [] v w a b c = (omega arith, λ _. rw raised_here (omega arith))
entry_behind r q l e k g t x (message.Event y ∷ ms) v w a b c = (λ t. omega (arith, c.0 t), c.1, entry_behind r q l e k g t x ms v w a b c.2)
entry_behind r q l e k g t x (message.Null j y ∷ ms) v w a b c = (
  omega (arith, c.0),
  let ne : j ≢ k + 1 = λ same. omega (arith, c.0) in
      rw (ne_eqb j (k + 1) ne) (entry_behind r q l e k g t x ms _ w (omega (arith, raised_ge (eqb j k) v y)) b c.1),
)
entry_behind r q l e k g t x (message.Retraction o ∷ ms) v w a b c = (omega (arith, c.0), c.1, ap (occurrences g o) (events-null_behind (k + 1) e ms) ∙ c.2, entry_behind r q l e k g t x ms v w a b c.3)
entry_behind r q l e k g t x (message.Discovery d ∷ ms) v w a b c = entry_behind r q l e k g t x ms v w a b c

pub Carries-enter : (r q : Bool) (l e k g : ℕ) (t : ℕ → ℕ) (x : ℕ) (ms : List Message) (v w : ℕ) → w ≤ v → w ≤ e
    → Carries r l k g t x ms v → Carries q e (k + 1) g t x (put_behind (message.Null (k + 1) e) ms) w
Carries-enter r q l e k g t x ms v w a b c = entry_behind r q l e k g t x (without_last_null (k + 1) ms) v w a b (Carries-without r l k g t x (k + 1) ms v c)

nothing_behind : (g m : ℕ) → occurrences g m (events []) ≡ 0
unfolding occurrences events
nothing_behind g m = refl

pub Carries-retract : (r : Bool) (l k g : ℕ) (t : ℕ → ℕ) (x : ℕ) (ms : List Message) (v m : ℕ) → r ≡ true → l < t m → m < x → Carries r l k g t x ms v → Carries r l k g t x (put_behind (message.Retraction m) ms) v
Carries-retract r l k g t x [] v m reg high old c = (omega (arith, c reg), old, nothing_behind g m, c)
Carries-retract r l k g t x (message.Event e ∷ ms) v m reg high old c = (c.0, c.1, Carries-retract r l k g t x ms v m reg high old c.2)
Carries-retract r l k g t x (message.Null j w ∷ ms) v m reg high old c = (c.0, Carries-retract r l k g t x ms _ m reg high old c.1)
Carries-retract r l k g t x (message.Retraction o ∷ ms) v m reg high old c = (c.0, c.1, ap (occurrences g o) (events-put_retraction m ms) ∙ c.2, Carries-retract r l k g t x ms v m reg high old c.3)
Carries-retract r l k g t x (message.Discovery d ∷ ms) v m reg high old c = Carries-retract r l k g t x ms v m reg high old c

Carries-discoveries : (r : Bool) (l k g : ℕ) (t : ℕ → ℕ) (x : ℕ) (ds : List Discovery) (v : ℕ) → (r ≡ true → v ≤ l) → Carries r l k g t x (map message.Discovery ds) v
Carries-discoveries r l k g t x [] v c = c
Carries-discoveries r l k g t x (d ∷ ds) v c = Carries-discoveries r l k g t x ds v c

pub Carries-discover : (r : Bool) (l k g : ℕ) (t : ℕ → ℕ) (x : ℕ) (ds : List Discovery) (ms : List Message) (v : ℕ) → Carries r l k g t x ms v → Carries r l k g t x (put_discoveries ds ms) v
Carries-discover r l k g t x ds [] v c = Carries-discoveries r l k g t x ds v c
Carries-discover r l k g t x ds (message.Event e ∷ ms) v c = (c.0, c.1, Carries-discover r l k g t x ds ms v c.2)
Carries-discover r l k g t x ds (message.Null j w ∷ ms) v c = (c.0, Carries-discover r l k g t x ds ms _ c.1)
Carries-discover r l k g t x ds (message.Retraction o ∷ ms) v c = (c.0, c.1, ap (occurrences g o) (events-put_discoveries ds ms) ∙ c.2, Carries-discover r l k g t x ds ms v c.3)
Carries-discover r l k g t x ds (message.Discovery d ∷ ms) v c = Carries-discover r l k g t x ds ms v c

-- ---- what is found on a wire
-- the bound of a regulator is at most what it announced last
pub Carries-bound : (r : Bool) (l k g : ℕ) (t : ℕ → ℕ) (x : ℕ) (ms : List Message) (v : ℕ) → Carries r l k g t x ms v → r ≡ true → v ≤ l
Carries-bound r l k g t x [] v c h = c h
Carries-bound r l k g t x (message.Event y ∷ ms) v c h = Carries-bound r l k g t x ms v c.2 h
Carries-bound r l k g t x (message.Null j w ∷ ms) v c h = le_trans (raised_ge (eqb j k) v w) (Carries-bound r l k g t x ms _ c.1 h)
Carries-bound r l k g t x (message.Retraction o ∷ ms) v c h = Carries-bound r l k g t x ms v c.3 h
Carries-bound r l k g t x (message.Discovery d ∷ ms) v c h = Carries-bound r l k g t x ms v c h

-- an event is at or above the bound
pub Carries-find : (r : Bool) (l k g : ℕ) (t : ℕ → ℕ) (x : ℕ) (ms : List Message) (v m : ℕ) (e : Event) → Carries r l k g t x ms v → find_event g m (events ms) ≡ Some e → e.ordered ≡ true → v ≤ e.stamp
unfolding find_event events
Carries-find r l k g t x [] v m e c f = absurd (cc)
Carries-find r l k g t x (message.Event z ∷ ms) v m e c f = ⊎_elim
    (λ (y : is_event g m z ≡ true). let same : z ≡ e = grind arith in rw (← same) c.0)
    (λ (o : is_event g m z ≡ false). Carries-find r l k g t x ms v m e c.2 (grind arith))
    (cases_Bool (is_event g m z))
Carries-find r l k g t x (message.Retraction o ∷ ms) v m e c f = Carries-find r l k g t x ms v m e c.3 f
Carries-find r l k g t x (message.Null j w ∷ ms) v m e c f = let h = Carries-find r l k g t x ms (cond (eqb j k) (max v w) v) m e c.1 f in
    λ t. le_trans (raised_ge (eqb j k) v w) (h t)
Carries-find r l k g t x (message.Discovery d ∷ ms) v m e c f = Carries-find r l k g t x ms v m e c f

-- a retraction is of an event above the bound
pub Carries-retraction : (r : Bool) (l k g : ℕ) (t : ℕ → ℕ) (x : ℕ) (ms : List Message) (v m : ℕ) → Carries r l k g t x ms v → 1 ≤ retractions m ms → v < t m
unfolding retractions
Carries-retraction r l k g t x [] v m c f = absurd (omega arith)
Carries-retraction r l k g t x (message.Event z ∷ ms) v m c f = Carries-retraction r l k g t x ms v m c.2 f
Carries-retraction r l k g t x (message.Null j w ∷ ms) v m c f = lt_of_le_of_lt (raised_ge (eqb j k) v w) (Carries-retraction r l k g t x ms _ m c.1 f)
Carries-retraction r l k g t x (message.Retraction o ∷ ms) v m c f = ⊎_elim
    (λ (y : eqb m o ≡ true). rw (eqb-true m o y) c.0)
    (λ (n' : eqb m o ≡ false). Carries-retraction r l k g t x ms v m c.3 (let f2 : 1 ≤ 0 + retractions m ms = rw n' at f in omega arith))
    (cases_Bool (eqb m o))
Carries-retraction r l k g t x (message.Discovery d ∷ ms) v m c f = Carries-retraction r l k g t x ms v m c f
