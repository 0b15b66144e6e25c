-- What a retraction leaves where its event waits in one queue, or in none
use Rattle.std.proofs.Common.{ℕ, ◌≡◌, ◌∙◌, refl, sym, ap, subst, true, false, cond, Option, Some, None, is_some, List}
use Rattle.hla_base.specs.declared.content.Event.{Event}
use Rattle.hla_base.specs.Tables.{or_else}
use Rattle.hla_base.specs.Rows.{is_none_of}
use Rattle.hla_null_message.specs.declared.message.Message.TheVariants as message
use Rattle.hla_component_rules.specs.declared.control.Control.{Control}
use Rattle.hla_component_rules.specs.Queues.{find_event, remove_event}
use Rattle.hla_order_queues.proofs.Events.EventLemmas.{remove_event_missed}
use Rattle.hla_component_rules.specs.LocalValue.{LocalValue}
use Rattle.hla_component_rules.specs.Arriving.{MayCome, local_accepting}

none_at : (o : Option Event) → is_some o ≡ false → o ≡ None
none_at None h = refl
none_at (Some x) h = absurd (cc)

-- an event that is not found leaves its queue as it is
missed_in : (g m : ℕ) (xs left : List Event) (r : Option Event) → r ≡ find_event g m xs → left ≡ remove_event g m xs → is_some r ≡ false → left ≡ xs
missed_in g m xs left r found rest none = rest ∙ remove_event_missed g m xs (sym found ∙ none_at r none)

nothing_asked : (o p : Option Event) (ks more : List Control) → is_some o ≡ true → cond (is_none_of (or_else o p)) more ks ≡ ks
nothing_asked None p ks more h = absurd (cc)
nothing_asked (Some x) p ks more h = refl

-- one that waits in time-stamp order waits in no other, and then there is nothing to ask of the federate
pub found_in_order : (g m : ℕ) (k l : LocalValue) (r : Option Event) (left : List Event) → k ≡ l → MayCome g (message.Retraction m) l → r ≡ find_event g m k.tso → left ≡ remove_event g m k.tso → is_some r ≡ true → record k { tso = left } ≡ local_accepting g (message.Retraction m) l
found_in_order g m k l r left same may found rest some =
    let P : LocalValue → Type 0 = λ v. MayCome g (message.Retraction m) v → record k { tso = left } ≡ local_accepting g (message.Retraction m) v in
    let there : is_some (find_event g m k.tso) ≡ true = ap is_some (sym found) ∙ some in
    let here : P k = λ apart. rw (rest, remove_event_missed g m k.ro (apart there), nothing_asked (find_event g m k.tso) (find_event g m k.ro) k.controls _ there) refl in
    subst P same here may

-- one that waits nowhere leaves the component as it is
pub found_nowhere : (g m : ℕ) (k l : LocalValue) (r s : Option Event) (tso ro : List Event) (controls : List Control) → k ≡ l → r ≡ find_event g m k.tso → tso ≡ remove_event g m k.tso → is_some r ≡ false → s ≡ find_event g m k.ro → ro ≡ remove_event g m k.ro → is_some s ≡ false → controls ≡ k.controls → record k { tso = tso; ro = ro; controls = controls } ≡ l
found_nowhere g m k l r s tso ro controls same found rest none found_too rest_too none_too kept =
    let first = missed_in g m k.tso tso r found rest none in
    let second = missed_in g m k.ro ro s found_too rest_too none_too in
    rw (first, second, kept) same
