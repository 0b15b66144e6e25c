-- Finding an event by its key: in a part of a list, where what is behind comes after the key
use Rattle.std.proofs.Common.{◌≡◌, ℕ, Bool, true, false, cond, List, [], ◌∷◌, ◌++◌, Option, Some, None, refl, sym, ap, subst, ◌∙◌, arith}
use Rattle.std.proofs.lemmas.Bool.Decides.{nat_tests}
use Rattle.std.specs.List.{AllByRecursion}
use Rattle.std.specs.Option.{option_map}
use Rattle.hla_base.specs.declared.content.Event.{Event}
use Rattle.hla_order_queues.specs.declared.key.EventKey.{EventKey}
use Rattle.hla_component_rules.specs.Queues.{is_event, find_event}
use Rattle.hla_order_queues.specs.Kept.{key_of, is_key_before, first_after, IsInOrder}
use Rattle.hla_order_queues.proofs.Events.OrderLemmas.{all_after}
use Rattle.hla_order_queues.proofs.Events.RemovalLemmas.{find_event_before, find_event_behind}
use Rattle.hla_order_queues.proofs.ByName.StampLemmas.{HasKey}

-- the tests
not_itself : (x : Event) → is_key_before (key_of x) x ≡ false
not_itself x = grind (arith, nat_tests)

-- what holds of all events holds of one that was found
held_if : (P : Event → Type 0) (b : Bool) (x y : Event) (o : Option Event) → cond b (Some y) o ≡ Some x → P y → (o ≡ Some x → P x) → P x
held_if P true x y o e p later = let same : y ≡ x = cc in subst P same p
held_if P false x y o e p later = later e

pub held : (P : Event → Type 0) (g m : ℕ) (xs : List Event) (x : Event) → AllByRecursion P xs → find_event g m xs ≡ Some x → P x
unfolding find_event
held P g m [] x h e = absurd (cc)
held P g m (y ∷ ys) x h e = held_if P (is_event g m y) x y (find_event g m ys) e h.0 (held P g m ys x h.1)

-- where the second part is after the key, the event is in the first
front_if : (k : EventKey) (f l : List Event) (o : Option Event) (h : HasKey k (f ++ l)) → find_event k.sender k.serial f ≡ o → IsInOrder l → first_after k l ≡ true → find_event k.sender k.serial f ≡ Some h.event
front_if k f l None h is ordered after =
    let there = sym (find_event_behind k.sender k.serial f l is) ∙ h.found in
    let p : is_key_before k h.event ≡ true = held (λ y. is_key_before k y ≡ true) k.sender k.serial l h.event (all_after k l ordered after) there in
    let q : is_key_before k h.event ≡ false = subst (λ j. is_key_before j h.event ≡ false) h.key (not_itself h.event) in
    absurd (cc)
front_if k f l (Some y) h is ordered after = is ∙ sym (find_event_before k.sender k.serial f l y is) ∙ h.found

pub in_front : (k : EventKey) (f l : List Event) (h : HasKey k (f ++ l)) → IsInOrder l → first_after k l ≡ true → find_event k.sender k.serial f ≡ Some h.event
in_front k f l h ordered after = front_if k f l (find_event k.sender k.serial f) h refl ordered after

-- what is not in the first part is in the second
abbrev pub key_behind : (k : EventKey) (f l : List Event) (h : HasKey k (f ++ l)) → find_event k.sender k.serial f ≡ None → HasKey k l
key_behind k f l h none = record { event = h.event; found = sym (find_event_behind k.sender k.serial f l none) ∙ h.found; key = h.key }

pub stamp_behind : (k : EventKey) (l : List Event) (h : HasKey k l) → option_map (λ x. x.stamp) (find_event k.sender k.serial l) ≡ Some k.stamp
stamp_behind k l h = rw h.found (ap (λ (j : EventKey). Some j.stamp) h.key)
