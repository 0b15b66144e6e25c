-- Finding and removing an event by its place, and the least stamp step by step
use Rattle.std.proofs.Common.{◌≡◌, ◌⊎◌, ◌↔◌, ℕ, zero, suc, ◌+◌, ◌≤◌, ◌<◌, min, not, Bool, true, false, cond, ltb, List, [], ◌∷◌, length, get_or, Option, Some, None, refl, sym, ap, ◌∙◌, inl, inr, arith}
use Rattle.std.proofs.lemmas.List.{take_all, drop_all, append-nil}
use Rattle.std.proofs.lemmas.List.Folds.{find_at}
use Rattle.std.proofs.lemmas.Option.{slice_get_read}
use Rattle.std.proofs.lemmas.Bool.{ltb-true, ltb-false}
use Rattle.std.specs.Option.{IsSome, IfSome, OnSome}
use Rattle.std.specs.List.{slice_get, find, position, position_or_len, remove}
use Rattle.hla_base.specs.declared.content.Event.{Event}
use Rattle.hla_base.specs.Tables.{forever}
use Rattle.hla_component_rules.specs.Queues.{is_event, find_event, remove_event, least_ordered}

slice_get_past : (xs : List Event) (i : ℕ) → length xs ≤ i → slice_get xs i ≡ None
slice_get_past [] i h = refl
slice_get_past (x ∷ xs) zero h = absurd (omega arith)
slice_get_past (x ∷ xs) (suc i) h = slice_get_past xs i (omega arith)

pub find_event-find : (g m : ℕ) (xs : List Event) → find_event g m xs ≡ find (is_event g m) xs
unfolding find_event
find_event-find g m [] = refl
find_event-find g m (x ∷ xs) = rw (find_event-find g m xs)

-- an element goes, or one behind it
removed_head : (x : Event) (xs rest : List Event) (n : ℕ) (b : Bool) → rest ≡ remove xs n → cond b xs (x ∷ rest) ≡ remove (x ∷ xs) (cond (not b) (1 + n) 0)
removed_head x xs rest n true e = refl
removed_head x xs rest n false e = let s : 1 + n ≡ suc n = omega arith in rw (s, e)

pub remove_event-place : (g m : ℕ) (xs : List Event) → remove_event g m xs ≡ remove xs (position_or_len (is_event g m) xs)
unfolding remove_event
remove_event-place g m [] = refl
remove_event-place g m (x ∷ xs) = removed_head x xs _ _ (is_event g m x) (remove_event-place g m xs)

pub within : (n k i : ℕ) (b : Bool) → ltb n k ≡ b → Some i ≡ cond b (Some n) None → (i ≡ n) × (i < k)
within n k i true is e = let same : i ≡ n = cc in (same, rw same (ltb-true n k is))
within n k i false is e = absurd (cc)

beyond : (n k : ℕ) (b : Bool) → ltb n k ≡ b → None ≡ cond b (Some n) None → k ≤ n
beyond n k true is e = absurd (cc)
beyond n k false is e = ltb-false n k is

is_read : (xs : List Event) (i : ℕ) (r : Option Event) → i < length xs → IsSome r → IfSome r (λ y. y ≡ get_or xs i y) → r ≡ slice_get xs i
is_read xs i None h some read = absurd (cc)
is_read xs i (Some y) h some read = sym (slice_get_read xs (length xs) i y refl h read)

-- what a search by place found is the event that was looked for
pub found_at : (g m : ℕ) (xs : List Event) (i n : ℕ) (r : Option Event) → n ≡ length xs → Some i ≡ position (is_event g m) xs → (IsSome r ↔ (i < n)) → IfSome r (λ y. y ≡ get_or xs i y) → r ≡ find_event g m xs
found_at g m xs i n r size e there read =
    let at = within (position_or_len (is_event g m) xs) (length xs) i _ refl e in
    let low : i < n = rw size at.1 in
    is_read xs i r at.1 (there.1 low) read ∙ ap (slice_get xs) at.0 ∙ sym (find_event-find g m xs ∙ find_at (is_event g m) xs)

on_some : (P : Type 0) (r : Option Event) → IsSome r → OnSome r P → P
on_some P None some p = absurd (cc)
on_some P (Some y) some p = p

pub removed_at : (g m : ℕ) (xs zs : List Event) (i n : ℕ) (r : Option Event) → n ≡ length xs → Some i ≡ position (is_event g m) xs → (IsSome r ↔ (i < n)) → OnSome r (zs ≡ remove xs i) → zs ≡ remove_event g m xs
removed_at g m xs zs i n r size e there rest =
    let at = within (position_or_len (is_event g m) xs) (length xs) i _ refl e in
    let low : i < n = rw size at.1 in
    on_some (zs ≡ remove xs i) r (there.1 low) rest ∙ ap (remove xs) at.0 ∙ sym (remove_event-place g m xs)

pub event_not_there : (g m : ℕ) (xs : List Event) → None ≡ position (is_event g m) xs → (find_event g m xs ≡ None) × (remove_event g m xs ≡ xs)
event_not_there g m xs e =
    let n = position_or_len (is_event g m) xs in
    let past : length xs ≤ n = beyond n (length xs) _ refl e in
    let later : length xs ≤ suc n = omega arith in
    (find_event-find g m xs ∙ find_at (is_event g m) xs ∙ slice_get_past xs n past, remove_event-place g m xs ∙ rw (take_all n xs past, drop_all (suc n) xs later, append-nil xs))

least_if : (b : Bool) (s t : ℕ) → t ≤ forever → cond b (min s t) t ≤ forever
least_if true s t h = omega arith
least_if false s t h = h

least_ordered-le : (xs : List Event) → least_ordered xs ≤ forever
unfolding least_ordered
least_ordered-le [] = omega arith
least_ordered-le (x ∷ xs) = least_if x.ordered x.stamp (least_ordered xs) (least_ordered-le xs)

pub none_yet : (xs : List Event) → min forever (least_ordered xs) ≡ least_ordered xs
none_yet xs = omega (arith, least_ordered-le xs)

pub least_taken : (l : ℕ) (x : Event) (rest all : List Event) → x.ordered ≡ true → x.stamp < l → all ≡ x ∷ rest → min x.stamp (least_ordered rest) ≡ min l (least_ordered all)
unfolding least_ordered
least_taken l x rest all o h e = rw (e, o) (omega arith)

passed_by : (b : Bool) (l s t : ℕ) → l ≤ s → min l t ≡ min l (cond b (min s t) t)
passed_by true l s t h = omega arith
passed_by false l s t h = refl

pub least_kept : (l : ℕ) (x : Event) (rest all : List Event) → (x.ordered ≡ false) ⊎ (l ≤ x.stamp) → all ≡ x ∷ rest → min l (least_ordered rest) ≡ min l (least_ordered all)
unfolding least_ordered
least_kept l x rest all (inl o) e = rw (e, o)
least_kept l x rest all (inr h) e = rw e (passed_by x.ordered l x.stamp (least_ordered rest) h)

pub least_of_none : (l : ℕ) (rest : List Event) → l ≤ forever → length rest ≡ 0 → min l (least_ordered rest) ≡ l
unfolding least_ordered
least_of_none l [] h e = omega arith
least_of_none l (x ∷ rest) h e = absurd (omega (arith, e))
