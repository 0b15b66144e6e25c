-- What stands behind the gap of a line after a change
use Rattle.std.proofs.Common.{◌≡◌, ℕ, suc, ◌+◌, ◌-◌, ◌<◌, ◌≤◌, List, ◌++◌, length, get_or, set, take, drop, refl, sym, ap, ◌∙◌, arith, append_assoc, length-append, length-drop}
use Rattle.std.specs.List.{remove}
use Rattle.std.proofs.lemmas.List.{append-nil, drop_all, drop_at, drop-drop, drop-take, drop-append-le, drop-set-add, get_or-drop, get_or_default, length-take-le, take-take}
use borrow.Rule.Slice.PartMut.{put_mid, mid_of}
use Rattle.hla_callbacks.specs.declared.callback.Delivery.{Delivery}
use Rattle.hla_bags.specs.declared.bag.Waiting.{Waiting}

-- the message at a place stands in front
pub put_front : (s p : ℕ) (ws ys : List Waiting) → s + p < length ws → ys ≡ drop (length (mid_of s (p + 1) ws) - 1) (mid_of s (p + 1) ws) ++ take (length (mid_of s (p + 1) ws) - 1) (mid_of s (p + 1) ws) →
    drop (s + 1) (put_mid s (p + 1) ws ys) ≡ remove (drop s ws) p
put_front s p ws ys l is =
    let rest = drop s ws in
    let mid = mid_of s (p + 1) ws in
    let count : p + 1 ≤ length rest = omega (arith, length-drop s ws) in
    let size : length mid ≡ p + 1 = length-take-le (p + 1) rest count in
    let last : length mid - 1 ≡ p = omega (arith, size) in
    let one = drop p mid in
    let front : ys ≡ one ++ take p rest = is ∙ ap (λ n. drop n mid ++ take n mid) last ∙ ap (λ xs. one ++ xs) (take-take p (p + 1) rest (omega arith)) in
    let lead : length (take s ws ++ one) ≡ s + 1 = length-append (take s ws) one ∙ omega (arith, length-take-le s ws (omega arith), length-drop p mid, size) in
    let behind = drop (p + 1) rest in
    let opened : put_mid s (p + 1) ws ys ≡ take s ws ++ (ys ++ behind) = refl in
    ap (drop (s + 1)) opened
    ∙ ap (λ xs. drop (s + 1) (take s ws ++ (xs ++ behind))) front
    ∙ ap (λ xs. drop (s + 1) (take s ws ++ xs)) (append_assoc one (take p rest) behind)
    ∙ ap (drop (s + 1)) (sym (append_assoc (take s ws) one (take p rest ++ behind)))
    ∙ drop_at (take s ws ++ one) (take p rest ++ behind) (s + 1) lead
    ∙ ap (λ xs. take p rest ++ xs) (ap (λ n. drop n rest) (let same : p + 1 ≡ suc p = omega arith in same))

-- a message is taken out behind the gap
pub drop-remove : (s p : ℕ) (ws : List Waiting) → s + p < length ws → drop s (remove ws (s + p)) ≡ remove (drop s ws) p
drop-remove s p ws l =
    let size : length (take (s + p) ws) ≡ s + p = length-take-le (s + p) ws (omega arith) in
    drop-append-le s (take (s + p) ws) (drop (suc (s + p)) ws) (omega (arith, size))
    ∙ ap (λ xs. xs ++ drop (suc (s + p)) ws) (drop-take s p ws)
    ∙ ap (λ xs. take p (drop s ws) ++ xs) (ap (λ n. drop n ws) (let same : suc (s + p) ≡ s + suc p = omega arith in same) ∙ sym (drop-drop (suc p) s ws))

-- a message is to be given in another way
pub set_behind : (s p : ℕ) (ws : List Waiting) (x d : Waiting) (y : Delivery) → s + p < length ws → x ≡ get_or ws (s + p) x →
    drop s (set ws (s + p) (record x { delivery = y })) ≡ set (drop s ws) p (record (get_or (drop s ws) p d) { delivery = y })
set_behind s p ws x d y l read =
    drop-set-add s ws p (record x { delivery = y })
    ∙ ap (λ (w : Waiting). set (drop s ws) p (record w { delivery = y })) (read ∙ get_or_default ws (s + p) x d l ∙ sym (get_or-drop s ws p d))

-- the front message is taken out
pub front_alone : (s p : ℕ) (ws : List Waiting) → p ≡ 0 → drop (s + 1) ws ≡ remove (drop s ws) p
front_alone s p ws none = sym (drop-drop 1 s ws) ∙ ap (remove (drop s ws)) (sym none)

-- the last message is taken out
pub last_alone : (p : ℕ) (ws : List Waiting) → length ws ≤ p + 1 → take p ws ≡ remove ws p
last_alone p ws all = sym (append-nil (take p ws)) ∙ ap (λ vs. take p ws ++ vs) (sym (drop_all (suc p) ws (omega (arith, all))))
