-- What lies on a wire, after messages are put and taken
use Rattle.std.proofs.Common.{◌≡◌, ℕ, ◌+◌, ◌≤◌, cond, eqb, refl, ap, ◌∙◌, arith, eq-eqb, List, [], ◌∷◌, ◌++◌, Some, None, map}
use Rattle.hla_base.specs.declared.content.Event.{Event}
use Rattle.hla_base.specs.declared.content.Discovery.{Discovery}
use Rattle.hla_null_message.specs.declared.message.Message.{Message}
use Rattle.hla_null_message.specs.declared.message.Message.TheVariants as message
use Rattle.hla_base.specs.Tables.{one_if}
use Rattle.hla_component_rules.specs.Queues.{is_event, find_event, occurrences}
use Rattle.hla_null_message.specs.Wires.{retractions, discoveries, events, put_behind, without_last_null}
use Rattle.hla_components.specs.Next.{put_discoveries}
use Rattle.hla_components.proofs.Wiring.Queues.{occurs-append, occurs-one}
use Rattle.std.proofs.lemmas.Bool.{cond_both}
use Rattle.std.proofs.lemmas.List.{append-nil}

pub events-append : (ms ns : List Message) → events (ms ++ ns) ≡ events ms ++ events ns
unfolding events
events-append [] ns = refl
events-append (message.Event e ∷ ms) ns = ap (λ es. e ∷ es) (events-append ms ns)
events-append (message.Null k v ∷ ms) ns = events-append ms ns
events-append (message.Retraction m ∷ ms) ns = events-append ms ns
events-append (message.Discovery d ∷ ms) ns = events-append ms ns

pub discoveries-append : (ms ns : List Message) → discoveries (ms ++ ns) ≡ discoveries ms ++ discoveries ns
unfolding discoveries
discoveries-append [] ns = refl
discoveries-append (message.Event e ∷ ms) ns = discoveries-append ms ns
discoveries-append (message.Null k v ∷ ms) ns = discoveries-append ms ns
discoveries-append (message.Retraction m ∷ ms) ns = discoveries-append ms ns
discoveries-append (message.Discovery d ∷ ms) ns = ap (λ ds. d ∷ ds) (discoveries-append ms ns)

pub retractions-append : (m : ℕ) (ms ns : List Message) → retractions m (ms ++ ns) ≡ retractions m ms + retractions m ns
unfolding retractions
retractions-append m [] ns = omega arith
retractions-append m (message.Event e ∷ ms) ns = retractions-append m ms ns
retractions-append m (message.Null j w ∷ ms) ns = retractions-append m ms ns
retractions-append m (message.Retraction o ∷ ms) ns = omega (arith, retractions-append m ms ns)
retractions-append m (message.Discovery d ∷ ms) ns = retractions-append m ms ns

-- ---- without a null message at the end
pub events-without : (k : ℕ) (ms : List Message) → events (without_last_null k ms) ≡ events ms
unfolding events
events-without k [] = refl
events-without k (message.Event e ∷ ms) = ap (λ es. e ∷ es) (events-without k ms)
events-without k (message.Null j v ∷ []) = cond_both (eqb j k) [] (message.Null j v ∷ []) (λ ms. events ms ≡ []) (λ _. refl) (λ _. refl)
events-without k (message.Null j v ∷ m ∷ ms) = events-without k (m ∷ ms)
events-without k (message.Retraction m ∷ ms) = events-without k ms
events-without k (message.Discovery d ∷ ms) = events-without k ms

pub discoveries-without : (k : ℕ) (ms : List Message) → discoveries (without_last_null k ms) ≡ discoveries ms
unfolding discoveries
discoveries-without k [] = refl
discoveries-without k (message.Event e ∷ ms) = discoveries-without k ms
discoveries-without k (message.Null j v ∷ []) = cond_both (eqb j k) [] (message.Null j v ∷ []) (λ ms. discoveries ms ≡ []) (λ _. refl) (λ _. refl)
discoveries-without k (message.Null j v ∷ m ∷ ms) = discoveries-without k (m ∷ ms)
discoveries-without k (message.Retraction m ∷ ms) = discoveries-without k ms
discoveries-without k (message.Discovery d ∷ ms) = ap (λ ds. d ∷ ds) (discoveries-without k ms)

pub retractions-without : (k m : ℕ) (ms : List Message) → retractions m (without_last_null k ms) ≡ retractions m ms
unfolding retractions
retractions-without k m [] = refl
retractions-without k m (message.Event e ∷ ms) = retractions-without k m ms
retractions-without k m (message.Null j v ∷ []) = cond_both (eqb j k) [] (message.Null j v ∷ []) (λ ms. retractions m ms ≡ 0) (λ _. refl) (λ _. refl)
retractions-without k m (message.Null j v ∷ n ∷ ms) = retractions-without k m (n ∷ ms)
retractions-without k m (message.Retraction o ∷ ms) = ap (λ n. one_if (eqb m o) + n) (retractions-without k m ms)
retractions-without k m (message.Discovery d ∷ ms) = retractions-without k m ms

-- ---- what is put behind
pub events-put_event : (e : Event) (ms : List Message) → events (put_behind (message.Event e) ms) ≡ events ms ++ e ∷ []
unfolding events
events-put_event e ms = events-append ms (message.Event e ∷ [])

pub events-null_behind : (k v : ℕ) (ms : List Message) → events (ms ++ message.Null k v ∷ []) ≡ events ms
unfolding events
events-null_behind k v ms = events-append ms (message.Null k v ∷ []) ∙ ap (λ es. events ms ++ es) (none k v) ∙ append-nil (events ms)
  where
    none : (k v : ℕ) → events (message.Null k v ∷ []) ≡ []
    none k v = refl

pub events-put_null : (k v : ℕ) (ms : List Message) → events (put_behind (message.Null k v) ms) ≡ events ms
events-put_null k v ms = events-null_behind k v (without_last_null k ms) ∙ events-without k ms

pub events-put_retraction : (m : ℕ) (ms : List Message) → events (put_behind (message.Retraction m) ms) ≡ events ms
unfolding events
events-put_retraction m ms = events-append ms (message.Retraction m ∷ []) ∙ ap (λ es. events ms ++ es) (none m) ∙ append-nil (events ms)
  where
    none : (m : ℕ) → events (message.Retraction m ∷ []) ≡ []
    none m = refl

events-discoveries : (ds : List Discovery) → events (map message.Discovery ds) ≡ []
unfolding events
events-discoveries [] = refl
events-discoveries (d ∷ ds) = events-discoveries ds

pub events-put_discoveries : (ds : List Discovery) (ms : List Message) → events (put_discoveries ds ms) ≡ events ms
events-put_discoveries ds ms = events-append ms (map message.Discovery ds) ∙ ap (λ es. events ms ++ es) (events-discoveries ds) ∙ append-nil (events ms)

pub occurs-put_event : (g m : ℕ) (e : Event) (ms : List Message) → occurrences g m (events (put_behind (message.Event e) ms)) ≡ occurrences g m (events ms) + one_if (is_event g m e)
occurs-put_event g m e ms = rw (events-put_event, occurs-append, occurs-one)

pub discoveries-put_event : (e : Event) (ms : List Message) → discoveries (put_behind (message.Event e) ms) ≡ discoveries ms
unfolding discoveries
discoveries-put_event e ms = discoveries-append ms (message.Event e ∷ []) ∙ ap (λ ds. discoveries ms ++ ds) (none e) ∙ append-nil (discoveries ms)
  where
    none : (e : Event) → discoveries (message.Event e ∷ []) ≡ []
    none e = refl

pub discoveries-null_behind : (k v : ℕ) (ms : List Message) → discoveries (ms ++ message.Null k v ∷ []) ≡ discoveries ms
unfolding discoveries
discoveries-null_behind k v ms = discoveries-append ms (message.Null k v ∷ []) ∙ ap (λ ds. discoveries ms ++ ds) (none k v) ∙ append-nil (discoveries ms)
  where
    none : (k v : ℕ) → discoveries (message.Null k v ∷ []) ≡ []
    none k v = refl

pub discoveries-put_null : (k v : ℕ) (ms : List Message) → discoveries (put_behind (message.Null k v) ms) ≡ discoveries ms
discoveries-put_null k v ms = discoveries-null_behind k v (without_last_null k ms) ∙ discoveries-without k ms

pub discoveries-put_retraction : (m : ℕ) (ms : List Message) → discoveries (put_behind (message.Retraction m) ms) ≡ discoveries ms
unfolding discoveries
discoveries-put_retraction m ms = discoveries-append ms (message.Retraction m ∷ []) ∙ ap (λ ds. discoveries ms ++ ds) (none m) ∙ append-nil (discoveries ms)
  where
    none : (m : ℕ) → discoveries (message.Retraction m ∷ []) ≡ []
    none m = refl

discoveries-all : (ds : List Discovery) → discoveries (map message.Discovery ds) ≡ ds
unfolding discoveries
discoveries-all [] = refl
discoveries-all (d ∷ ds) = ap (λ ds. d ∷ ds) (discoveries-all ds)

pub discoveries-put_discoveries : (ds : List Discovery) (ms : List Message) → discoveries (put_discoveries ds ms) ≡ discoveries ms ++ ds
discoveries-put_discoveries ds ms = discoveries-append ms (map message.Discovery ds) ∙ ap (λ es. discoveries ms ++ es) (discoveries-all ds)

pub retractions-put_null : (j v m : ℕ) (ms : List Message) → retractions m (put_behind (message.Null j v) ms) ≡ retractions m ms
unfolding retractions
retractions-put_null j v m ms = omega (arith, retractions-append m (without_last_null j ms) (message.Null j v ∷ []), retractions-without j m ms)

pub retractions-put_event : (e : Event) (m : ℕ) (ms : List Message) → retractions m (put_behind (message.Event e) ms) ≡ retractions m ms
unfolding retractions
retractions-put_event e m ms = omega (arith, retractions-append m ms (message.Event e ∷ []))

pub retractions-put : (m n : ℕ) (ms : List Message) → retractions n (put_behind (message.Retraction m) ms) ≡ retractions n ms + one_if (eqb n m)
unfolding retractions
retractions-put m n ms = omega (arith, retractions-append n ms (message.Retraction m ∷ []))

retractions-discoveries : (m : ℕ) (ds : List Discovery) → retractions m (map message.Discovery ds) ≡ 0
unfolding retractions
retractions-discoveries m [] = refl
retractions-discoveries m (d ∷ ds) = retractions-discoveries m ds

pub retractions-put_discoveries : (ds : List Discovery) (m : ℕ) (ms : List Message) → retractions m (put_discoveries ds ms) ≡ retractions m ms
retractions-put_discoveries ds m ms = omega (arith, retractions-append m ms (map message.Discovery ds), retractions-discoveries m ds)

-- ---- the message at the front
pub events-event : (e : Event) (ms : List Message) → events (message.Event e ∷ ms) ≡ e ∷ events ms
unfolding events
events-event e ms = refl

pub events-null : (k v : ℕ) (ms : List Message) → events (message.Null k v ∷ ms) ≡ events ms
unfolding events
events-null k v ms = refl

pub events-retraction : (m : ℕ) (ms : List Message) → events (message.Retraction m ∷ ms) ≡ events ms
unfolding events
events-retraction m ms = refl

pub events-discovery : (d : Discovery) (ms : List Message) → events (message.Discovery d ∷ ms) ≡ events ms
unfolding events
events-discovery d ms = refl

pub occurs-event : (g m : ℕ) (e : Event) (ms : List Message) → occurrences g m (events (message.Event e ∷ ms)) ≡ one_if (is_event g m e) + occurrences g m (events ms)
unfolding events occurrences
occurs-event g m e ms = refl

pub find-front : (g m : ℕ) (e : Event) (ms : List Message) → find_event g m (events (message.Event e ∷ ms)) ≡ cond (is_event g m e) (Some e) (find_event g m (events ms))
unfolding events find_event
find-front g m e ms = refl

pub discoveries-event : (e : Event) (ms : List Message) → discoveries (message.Event e ∷ ms) ≡ discoveries ms
unfolding discoveries
discoveries-event e ms = refl

pub discoveries-null : (k v : ℕ) (ms : List Message) → discoveries (message.Null k v ∷ ms) ≡ discoveries ms
unfolding discoveries
discoveries-null k v ms = refl

pub discoveries-retraction : (m : ℕ) (ms : List Message) → discoveries (message.Retraction m ∷ ms) ≡ discoveries ms
unfolding discoveries
discoveries-retraction m ms = refl

pub discoveries-discovery : (d : Discovery) (ms : List Message) → discoveries (message.Discovery d ∷ ms) ≡ d ∷ discoveries ms
unfolding discoveries
discoveries-discovery d ms = refl

pub retractions-event : (e : Event) (m : ℕ) (ms : List Message) → retractions m (message.Event e ∷ ms) ≡ retractions m ms
unfolding retractions
retractions-event e m ms = refl

pub retractions-null : (j v m : ℕ) (ms : List Message) → retractions m (message.Null j v ∷ ms) ≡ retractions m ms
unfolding retractions
retractions-null j v m ms = refl

pub retractions-cons : (k m : ℕ) (ms : List Message) → retractions k (message.Retraction m ∷ ms) ≡ one_if (eqb k m) + retractions k ms
unfolding retractions
retractions-cons k m ms = refl

pub retractions-here : (m : ℕ) (ms : List Message) → 1 ≤ retractions m (message.Retraction m ∷ ms)
unfolding retractions
retractions-here m ms = rw (eq-eqb m m refl) (omega arith)

pub retractions-discovery : (d : Discovery) (m : ℕ) (ms : List Message) → retractions m (message.Discovery d ∷ ms) ≡ retractions m ms
unfolding retractions
retractions-discovery d m ms = refl

-- ---- an empty wire
pub events-nil : events [] ≡ []
unfolding events
events-nil = refl

pub discoveries-nil : discoveries [] ≡ []
unfolding discoveries
discoveries-nil = refl

pub retractions-nil : (m : ℕ) → retractions m [] ≡ 0
unfolding retractions
retractions-nil m = refl

pub occurs-nil : (g m : ℕ) → occurrences g m [] ≡ 0
unfolding occurrences
occurs-nil g m = refl

pub find-nil : (g m : ℕ) → find_event g m [] ≡ None
unfolding find_event
find-nil g m = refl
