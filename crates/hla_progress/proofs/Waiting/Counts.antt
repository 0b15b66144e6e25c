-- How many callbacks are due, after messages are put and taken
use Rattle.std.proofs.Common.{◌≡◌, ◌≢◌, ℕ, zero, suc, ◌+◌, ◌≤◌, ◌<◌, cond, eqb, Bool, true, false, refl, sym, ⊎_elim, arith, List, [], ◌∷◌, ◌++◌, length}
use Rattle.std.proofs.lemmas.Bool.{cases_eq, cond_both}
use Rattle.std.proofs.lemmas.List.{length-append}
use Rattle.hla_base.specs.declared.content.Event.{Event}
use Rattle.hla_base.specs.declared.row.TimeRow.{TimeRow}
use Rattle.hla_base.specs.Rows.{is_none_of}
use Rattle.hla_base.specs.Tables.{one_if, or_else}
use Rattle.hla_null_message.specs.declared.message.Message.{Message}
use Rattle.hla_null_message.specs.declared.message.Message.TheVariants as message
use Rattle.hla_null_message.specs.Wires.{put_behind, without_last_null}
use Rattle.hla_component_rules.specs.declared.control.Control.{Control}
use Rattle.hla_component_rules.specs.declared.control.Control.TheVariants.{ToRetract}
use Rattle.hla_component_rules.specs.Queues.{is_before, is_event, insert_event, remove_event, find_event}
use Rattle.hla_component_rules.specs.Arriving.{is_kept_in_order, tso_with_event, ro_with_event, controls_with_retraction}
use Rattle.hla_progress.specs.AtOnce.{is_ro_due, is_tso_due, due_in_order, due_of, due_on_wire, due_in_queues, total}

-- ---- sums
pub total-same : (n : ℕ) (t u : ℕ → ℕ) → ((g : ℕ) → g < n → t g ≡ u g) → total n t ≡ total n u
unfolding total
total-same zero t u h = refl
total-same (suc n) t u h = omega (arith, h n (omega arith), total-same n t u (λ g l. h g (omega arith)))

-- one entry changes
pub total-changed : (n : ℕ) (t u : ℕ → ℕ) (i : ℕ) → i < n → ((g : ℕ) → i ≢ g → u g ≡ t g) → total n u + t i ≡ total n t + u i
unfolding total
total-changed zero t u i l h = absurd (omega arith)
total-changed (suc n) t u i l h = ⊎_elim
    (λ (e : i ≡ n). let same : total n t ≡ total n u = total-same n t u (λ g b. sym (h g (omega arith))) in rw e (omega arith))
    (λ (ne : i ≢ n). omega (arith, h n ne, total-changed n t u i (omega arith) h))
    (cases_eq i n)

-- ---- wires
due_on_wire-append : (r : TimeRow) (x : ℕ) (ms ns : List Message) → due_on_wire r x (ms ++ ns) ≡ due_on_wire r x ms + due_on_wire r x ns
due_on_wire-append r x [] ns = omega arith
due_on_wire-append r x (m ∷ ms) ns = omega (arith, due_on_wire-append r x ms ns)

due_on_wire-without : (r : TimeRow) (x k : ℕ) (ms : List Message) → due_on_wire r x (without_last_null k ms) ≡ due_on_wire r x ms
due_on_wire-without r x k [] = refl
due_on_wire-without r x k (message.Event e ∷ ms) = omega (arith, due_on_wire-without r x k ms)
due_on_wire-without r x k (message.Null j v ∷ []) = cond_both (eqb j k) [] (message.Null j v ∷ []) (λ ms. due_on_wire r x ms ≡ due_on_wire r x (message.Null j v ∷ [])) (λ _. omega arith) (λ _. refl)
due_on_wire-without r x k (message.Null j v ∷ m ∷ ms) = omega (arith, due_on_wire-without r x k (m ∷ ms))
due_on_wire-without r x k (message.Retraction m ∷ ms) = omega (arith, due_on_wire-without r x k ms)
due_on_wire-without r x k (message.Discovery d ∷ ms) = omega (arith, due_on_wire-without r x k ms)

pub due_on_wire-null : (r : TimeRow) (x k v : ℕ) (ms : List Message) → due_on_wire r x (put_behind (message.Null k v) ms) ≡ due_on_wire r x ms
due_on_wire-null r x k v ms = omega (arith, due_on_wire-append r x (without_last_null k ms) (message.Null k v ∷ []), due_on_wire-without r x k ms)

-- ---- queues
length-remove_le : (g m : ℕ) (es : List Event) → length (remove_event g m es) ≤ length es
unfolding remove_event
length-remove_le g m [] = omega arith
length-remove_le g m (e ∷ es) = cond_both (is_event g m e) es (e ∷ remove_event g m es) (λ xs. length xs ≤ length (e ∷ es)) (λ _. omega arith) (λ _. omega (arith, length-remove_le g m es))

counted_le : (b : Bool) (x y : ℕ) → x ≤ y → cond b x 0 ≤ cond b y 0
counted_le true x y l = l
counted_le false x y l = omega arith

ordered-remove_le : (r : TimeRow) (limit g m : ℕ) (es : List Event) → due_in_order r limit (remove_event g m es) ≤ due_in_order r limit es
unfolding remove_event
ordered-remove_le r limit g m [] = omega arith
ordered-remove_le r limit g m (e ∷ es) = cond_both (is_event g m e) es (e ∷ remove_event g m es) (λ xs. due_in_order r limit xs ≤ due_in_order r limit (e ∷ es)) (λ _. omega arith) (λ _. omega (arith, ordered-remove_le r limit g m es))

ordered-insert : (r : TimeRow) (limit : ℕ) (e : Event) (es : List Event) → due_in_order r limit (insert_event e es) ≡ one_if (is_tso_due r limit e) + due_in_order r limit es
unfolding insert_event
ordered-insert r limit e [] = refl
ordered-insert r limit e (x ∷ xs) = cond_both (is_before e x) (e ∷ x ∷ xs) (x ∷ insert_event e xs) (λ ys. due_in_order r limit ys ≡ one_if (is_tso_due r limit e) + due_in_order r limit (x ∷ xs)) (λ _. refl) (λ _. omega (arith, ordered-insert r limit e xs))

-- an event that comes is due in the queue that it goes to
event_counts : (r : TimeRow) (limit : ℕ) (kept late : Bool) (es fs : List Event) (e : Event)
    → cond late (length (cond kept fs (fs ++ e ∷ []))) 0 + due_in_order r limit (cond kept (insert_event e es) es) ≡ cond late (length fs) 0 + due_in_order r limit es + one_if (cond kept (is_tso_due r limit e) late)
event_counts r limit true true es fs e = omega (arith, ordered-insert r limit e es)
event_counts r limit true false es fs e = omega (arith, ordered-insert r limit e es)
event_counts r limit false true es fs e = omega (arith, length-append fs (e ∷ []))
event_counts r limit false false es fs e = omega (arith, length-append fs (e ∷ []))

module _ (r : TimeRow) (limit : ℕ) (controls : List Control) (ro tso : List Event) where
  pub due_event : (e : Event) → due_in_queues r limit controls (ro_with_event r e ro) (tso_with_event r e tso) ≡ due_in_queues r limit controls ro tso + due_of r limit (message.Event e)
  due_event e = omega (arith, event_counts r limit (is_kept_in_order r e) (is_ro_due r) tso ro e)

  pub due_control : (k : Control) → due_in_queues r limit (controls ++ k ∷ []) ro tso ≡ due_in_queues r limit controls ro tso + 1
  due_control k = omega (arith, length-append controls (k ∷ []))

  pub due_retraction : (g m : ℕ) → due_in_queues r limit (controls_with_retraction g m tso ro controls) (remove_event g m ro) (remove_event g m tso) ≤ due_in_queues r limit controls ro tso + 1
  due_retraction g m = omega (arith, asked, counted_le (is_ro_due r) _ _ (length-remove_le g m ro), ordered-remove_le r limit g m tso)
    where
      asked : length (controls_with_retraction g m tso ro controls) ≤ length controls + 1
      asked = cond_both (is_none_of (or_else (find_event g m tso) (find_event g m ro))) (controls ++ ToRetract (record { sender = g; serial = m }) ∷ []) controls (λ ks. length ks ≤ length controls + 1)
          (λ _. omega (arith, length-append controls (ToRetract (record { sender = g; serial = m }) ∷ []))) (λ _. omega arith)
