-- The order of keys, and blocks under their separators
use Rattle.std.proofs.Common.{◌≡◌, ℕ, Bool, true, false, cond, eqb, ltb, not, ◌&&◌, ◌||◌, filter, List, [], ◌∷◌, ◌++◌, Some, None, refl, sym, ap, subst, ◌∙◌, arith}
use Rattle.std.proofs.lemmas.Bool.Decides.{nat_tests}
use Rattle.std.proofs.lemmas.Cmp.{nat_cmp_total, on_total, then_total, tied_itself}
use Rattle.std.specs.Cmp.{IsTotalOrder}
use Rattle.std.specs.List.{AllByRecursion}
use Rattle.std.specs.List.Sorted.{IsStrictlySortedBy}
use Rattle.std.specs.Map.{keys_of, lookup, set_value, remove_entry}
use Rattle.std.specs.BTreeMap.{insert_entry, is_at}
use Rattle.std.specs.declared.cmp.Ordering.{Ordering}
use Rattle.std.specs.declared.cmp.Ordering.TheVariants.{Less, Equal, Greater}
use Rattle.std.specs.Ordering.{ordering_then, ordering_reverse, is_eq, is_lt}
use Rattle.hla_base.specs.declared.content.Event.{Event}
use Rattle.hla_order_queues.specs.declared.key.EventKey.{EventKey}
use Rattle.hla_order_queues.specs.Kept.{key_cmp, is_less, AreAfter, At, IsPlace, block_at, set_block, without_block}

-- the order of keys
key_total : IsTotalOrder key_cmp
key_total = then_total (on_total (λ (k : EventKey). k.stamp) nat_cmp_total) (then_total (on_total (λ (k : EventKey). k.sender) nat_cmp_total) (on_total (λ (k : EventKey). k.serial) nat_cmp_total))

by_tests : (l1 e1 l2 e2 l3 e3 : Bool) → is_lt (ordering_then (cond l1 Less (cond e1 Equal Greater)) (ordering_then (cond l2 Less (cond e2 Equal Greater)) (cond l3 Less (cond e3 Equal Greater)))) ≡ (l1 || (e1 && (l2 || (e2 && l3))))
by_tests true e1 l2 e2 l3 e3 = refl
by_tests false false l2 e2 l3 e3 = refl
by_tests false true true e2 l3 e3 = refl
by_tests false true false false l3 e3 = refl
by_tests false true false true true e3 = refl
by_tests false true false true false true = refl
by_tests false true false true false false = refl

pub less_is : (a b : EventKey) → is_lt (key_cmp a b) ≡ is_less a b
less_is a b = by_tests (ltb a.stamp b.stamp) (eqb a.stamp b.stamp) (ltb a.sender b.sender) (eqb a.sender b.sender) (ltb a.serial b.serial) (eqb a.serial b.serial)

lt_less : (o : Ordering) → is_lt o ≡ true → o ≡ Less
lt_less Less e = refl
lt_less Equal e = absurd (cc)
lt_less Greater e = absurd (cc)

cmp_less : (a b : EventKey) → is_less a b ≡ true → key_cmp a b ≡ Less
cmp_less a b h = lt_less (key_cmp a b) (less_is a b ∙ h)

cmp_greater : (a b : EventKey) → is_less a b ≡ true → key_cmp b a ≡ Greater
cmp_greater a b h = key_total.antisymm b a ∙ ap ordering_reverse (cmp_less a b h)

less_cmp : (a b : EventKey) → key_cmp a b ≡ Less → is_less a b ≡ true
less_cmp a b h = sym (less_is a b) ∙ ap is_lt h

pub less-trans : (a b c : EventKey) → is_less a b ≡ true → is_less c b ≡ false → is_less a c ≡ true
less-trans a b c p q = grind (arith, nat_tests)

pub less_then : (a b c : EventKey) → is_less b a ≡ false → is_less b c ≡ true → is_less a c ≡ true
less_then a b c p q = grind (arith, nat_tests)

pub not_less : (a b : EventKey) → is_less a b ≡ true → is_less b a ≡ false
not_less a b p = grind (arith, nat_tests)

pub not_itself : (a : EventKey) → is_less a a ≡ false
not_itself a = grind (arith, nat_tests)

-- the entry at a separator
lookup_at : (f : EventKey) (before : List (EventKey × List Event)) (b : List Event) (behind : List (EventKey × List Event)) → AllByRecursion (λ e. is_less e.0 f ≡ true) before → lookup (λ k. is_eq (key_cmp f k)) (before ++ (f, b) ∷ behind) ≡ Some b
lookup_at f [] b behind h = rw (tied_itself key_total f) refl
lookup_at f (e ∷ es) b behind h = rw (cmp_greater e.0 f h.0) (lookup_at f es b behind h.1)

set_at : (f : EventKey) (before : List (EventKey × List Event)) (b w : List Event) (behind : List (EventKey × List Event)) → AllByRecursion (λ e. is_less e.0 f ≡ true) before → set_value (λ k. is_eq (key_cmp f k)) (before ++ (f, b) ∷ behind) w ≡ before ++ (f, w) ∷ behind
set_at f [] b w behind h = rw (tied_itself key_total f) refl
set_at f (e ∷ es) b w behind h = rw (cmp_greater e.0 f h.0) (ap (λ zs. e ∷ zs) (set_at f es b w behind h.1))

pub remove_at : (f : EventKey) (before : List (EventKey × List Event)) (b : List Event) (behind : List (EventKey × List Event)) → AllByRecursion (λ e. is_less e.0 f ≡ true) before → remove_entry (λ k. is_eq (key_cmp f k)) (before ++ (f, b) ∷ behind) ≡ before ++ behind
remove_at f [] b behind h = rw (tied_itself key_total f) refl
remove_at f (e ∷ es) b behind h = rw (cmp_greater e.0 f h.0) (ap (λ zs. e ∷ zs) (remove_at f es b behind h.1))

pub lookup_none : (h : EventKey) (before behind : List (EventKey × List Event)) → AllByRecursion (λ e. is_less e.0 h ≡ true) before → AreAfter h behind → block_at h (before ++ behind) ≡ None
lookup_none h [] [] low high = refl
lookup_none h [] (e ∷ es) low high = rw (cmp_less h e.0 high.0) (lookup_none h [] es tt high.1)
lookup_none h (e ∷ es) behind low high = rw (cmp_greater e.0 h low.0) (lookup_none h es behind low.1 high)

pub insert_new : (h : EventKey) (before : List (EventKey × List Event)) (w : List Event) (behind : List (EventKey × List Event)) → AllByRecursion (λ e. is_less e.0 h ≡ true) before → AreAfter h behind → insert_entry key_cmp (before ++ behind) h w ≡ before ++ (h, w) ∷ behind
insert_new h [] w [] low high = refl
insert_new h [] w (e ∷ es) low high = rw (cmp_less h e.0 high.0) refl
insert_new h (e ∷ es) w behind low high = rw (cmp_greater e.0 h low.0) (ap (λ zs. e ∷ zs) (insert_new h es w behind low.1 high))

-- a search by separators
pub none_passes : (k : EventKey) (es : List (EventKey × List Event)) → filter (λ e. not (is_lt (key_cmp k e.0))) es ≡ [] → AreAfter k es
none_passes k [] h = tt
none_passes k (e ∷ es) h = none_if (is_lt (key_cmp k e.0)) k e es refl h (none_passes k es)
  where
    none_if : (b : Bool) (k : EventKey) (e : EventKey × List Event) (es : List (EventKey × List Event)) → is_lt (key_cmp k e.0) ≡ b → cond (not b) (e ∷ filter (λ x. not (is_lt (key_cmp k x.0))) es) (filter (λ x. not (is_lt (key_cmp k x.0))) es) ≡ [] → (filter (λ x. not (is_lt (key_cmp k x.0))) es ≡ [] → AreAfter k es) → AreAfter k (e ∷ es)
    none_if true k e es is h rest = (sym (less_is k e.0) ∙ is, rest h)
    none_if false k e es is h rest = absurd (cc)

key_among : (P : EventKey → Type 0) (f : EventKey) (before : List (EventKey × List Event)) (b : List Event) (behind : List (EventKey × List Event)) → AllByRecursion P (keys_of (before ++ (f, b) ∷ behind)) → P f
key_among P f [] b behind h = h.0
key_among P f (e ∷ es) b behind h = key_among P f es b behind h.1

place_later : (k f : EventKey) (e : EventKey × List Event) (es : List (EventKey × List Event)) → IsStrictlySortedBy key_cmp (keys_of (e ∷ es)) → IsPlace k f es → IsPlace k f (e ∷ es)
unfolding IsStrictlySortedBy
place_later k f e es sorted p =
    let among = subst (λ (gs : List (EventKey × List Event)). AllByRecursion (λ g. key_cmp e.0 g ≡ Less) (keys_of gs)) p.at.whole sorted.0 in
    record {
      at = record {
        before = e ∷ p.at.before;
        block = p.at.block;
        behind = p.at.behind;
        whole = ap (λ gs. e ∷ gs) p.at.whole;
        lesser = (less_cmp e.0 f (key_among (λ g. key_cmp e.0 g ≡ Less) f p.at.before p.at.block p.at.behind among), p.at.lesser);
      };
      low = p.low;
      high = p.high;
    }

place_here : (k f : EventKey) (b : List Event) (e : EventKey × List Event) (es : List (EventKey × List Event)) → e ≡ (f, b) → is_lt (key_cmp k e.0) ≡ false → filter (λ x. not (is_lt (key_cmp k x.0))) es ≡ [] → IsPlace k f (e ∷ es)
place_here k f b e es same is none = record {
  at = record { before = []; block = b; behind = es; whole = ap (λ x. x ∷ es) same; lesser = tt };
  low = sym (less_is k f) ∙ ap (λ (x : EventKey × List Event). is_lt (key_cmp k x.0)) (sym same) ∙ is;
  high = none_passes k es none;
}

place_if : (p : Bool) (k f : EventKey) (b : List Event) (t : List (EventKey × List Event)) (e : EventKey × List Event) (es : List (EventKey × List Event)) → is_lt (key_cmp k e.0) ≡ p → cond (not p) (e ∷ filter (λ x. not (is_lt (key_cmp k x.0))) es) (filter (λ x. not (is_lt (key_cmp k x.0))) es) ≡ t ++ (f, b) ∷ [] → IsStrictlySortedBy key_cmp (keys_of (e ∷ es)) → ((u : List (EventKey × List Event)) → filter (λ x. not (is_lt (key_cmp k x.0))) es ≡ u ++ (f, b) ∷ [] → IsPlace k f es) → IsPlace k f (e ∷ es)
place_if true k f b t e es is h sorted rest = place_later k f e es sorted (rest t h)
place_if false k f b [] e es is h sorted rest = place_here k f b e es (cc) is (cc)
place_if false k f b (u ∷ us) e es is h sorted rest = place_later k f e es sorted (rest us (cc))

sorted_later : (e : EventKey × List Event) (es : List (EventKey × List Event)) → IsStrictlySortedBy key_cmp (keys_of (e ∷ es)) → IsStrictlySortedBy key_cmp (keys_of es)
unfolding IsStrictlySortedBy
sorted_later e es h = h.1

pub placed : (k f : EventKey) (b : List Event) (t es : List (EventKey × List Event)) → filter (λ x. not (is_lt (key_cmp k x.0))) es ≡ t ++ (f, b) ∷ [] → IsStrictlySortedBy key_cmp (keys_of es) → IsPlace k f es
placed k f b [] [] h sorted = absurd (cc)
placed k f b (u ∷ us) [] h sorted = absurd (cc)
placed k f b t (e ∷ es) h sorted = place_if (is_lt (key_cmp k e.0)) k f b t e es refl h sorted (λ u g. placed k f b u es g (sorted_later e es sorted))

-- what was found at a separator
pub block_is : (f : EventKey) (es : List (EventKey × List Event)) (a : At f es) → block_at f es ≡ Some a.block
block_is f es a = ap (block_at f) a.whole ∙ lookup_at f a.before a.block a.behind a.lesser

pub set_is : (f : EventKey) (es : List (EventKey × List Event)) (a : At f es) (w : List Event) → set_block f es w ≡ a.before ++ (f, w) ∷ a.behind
set_is f es a w = ap (λ gs. set_block f gs w) a.whole ∙ set_at f a.before a.block w a.behind a.lesser

pub without_is : (f : EventKey) (es : List (EventKey × List Event)) (a : At f es) → without_block f es ≡ a.before ++ a.behind
without_is f es a = ap (without_block f) a.whole ∙ remove_at f a.before a.block a.behind a.lesser

-- a place that a search by separators ends at is what is found at its separator
eq_tests : (l1 e1 l2 e2 l3 e3 : Bool) → is_eq (ordering_then (cond l1 Less (cond e1 Equal Greater)) (ordering_then (cond l2 Less (cond e2 Equal Greater)) (cond l3 Less (cond e3 Equal Greater)))) ≡ ((not l1 && e1) && ((not l2 && e2) && (not l3 && e3)))
eq_tests true e1 l2 e2 l3 e3 = refl
eq_tests false false l2 e2 l3 e3 = refl
eq_tests false true true e2 l3 e3 = refl
eq_tests false true false false l3 e3 = refl
eq_tests false true false true true e3 = refl
eq_tests false true false true false true = refl
eq_tests false true false true false false = refl

apart_key : (e f g : EventKey) → is_less e g ≡ true → is_eq (key_cmp f g) ≡ true → is_eq (key_cmp f e) ≡ false
apart_key e f g less same =
    let there = sym (eq_tests (ltb f.stamp g.stamp) (eqb f.stamp g.stamp) (ltb f.sender g.sender) (eqb f.sender g.sender) (ltb f.serial g.serial) (eqb f.serial g.serial)) ∙ same in
    eq_tests (ltb f.stamp e.stamp) (eqb f.stamp e.stamp) (ltb f.sender e.sender) (eqb f.sender e.sender) (ltb f.serial e.serial) (eqb f.serial e.serial) ∙ grind (arith, nat_tests)

later_at : (f e : EventKey) (p : ℕ) (es : List (EventKey × ℕ)) → lookup (is_at (key_cmp f)) es ≡ Some p → AllByRecursion (λ g. key_cmp e g ≡ Less) (keys_of es) → is_eq (key_cmp f e) ≡ false
later_at f e p [] at h = absurd (cc)
later_at f e p (g ∷ gs) at h = later_if (is_eq (key_cmp f g.0)) refl at h.0 (λ there. later_at f e p gs there h.1)
  where
    later_if : (b : Bool) → is_eq (key_cmp f g.0) ≡ b → cond b (Some g.1) (lookup (is_at (key_cmp f)) gs) ≡ Some p → key_cmp e g.0 ≡ Less → (lookup (is_at (key_cmp f)) gs ≡ Some p → is_eq (key_cmp f e) ≡ false) → is_eq (key_cmp f e) ≡ false
    later_if true is there less rest = apart_key e f g.0 (less_cmp e g.0 less) is
    later_if false is there less rest = rest there

found_later : (f : EventKey) (p : ℕ) (e : EventKey × ℕ) (es : List (EventKey × ℕ)) → IsStrictlySortedBy key_cmp (keys_of (e ∷ es)) → lookup (is_at (key_cmp f)) es ≡ Some p → lookup (is_at (key_cmp f)) (e ∷ es) ≡ Some p
unfolding IsStrictlySortedBy
found_later f p e es sorted at = rw (later_at f e.0 p es at sorted.0) at

found_here : (f : EventKey) (p : ℕ) (e : EventKey × ℕ) (es : List (EventKey × ℕ)) → e ≡ (f, p) → lookup (is_at (key_cmp f)) (e ∷ es) ≡ Some p
found_here f p e es same = rw same (rw (tied_itself key_total f) refl)

rest_sorted : (e : EventKey × ℕ) (es : List (EventKey × ℕ)) → IsStrictlySortedBy key_cmp (keys_of (e ∷ es)) → IsStrictlySortedBy key_cmp (keys_of es)
unfolding IsStrictlySortedBy
rest_sorted e es h = h.1

found_if : (b : Bool) (k f : EventKey) (p : ℕ) (t : List (EventKey × ℕ)) (e : EventKey × ℕ) (es : List (EventKey × ℕ)) → cond (not b) (e ∷ filter (λ x. not (is_lt (key_cmp k x.0))) es) (filter (λ x. not (is_lt (key_cmp k x.0))) es) ≡ t ++ (f, p) ∷ [] → IsStrictlySortedBy key_cmp (keys_of (e ∷ es)) → ((u : List (EventKey × ℕ)) → filter (λ x. not (is_lt (key_cmp k x.0))) es ≡ u ++ (f, p) ∷ [] → lookup (is_at (key_cmp f)) es ≡ Some p) → lookup (is_at (key_cmp f)) (e ∷ es) ≡ Some p
found_if true k f p t e es h sorted rest = found_later f p e es sorted (rest t h)
found_if false k f p [] e es h sorted rest = found_here f p e es (cc)
found_if false k f p (u ∷ us) e es h sorted rest = found_later f p e es sorted (rest us (cc))

pub found_place : (k f : EventKey) (p : ℕ) (t es : List (EventKey × ℕ)) → filter (λ x. not (is_lt (key_cmp k x.0))) es ≡ t ++ (f, p) ∷ [] → IsStrictlySortedBy key_cmp (keys_of es) → lookup (is_at (key_cmp f)) es ≡ Some p
found_place k f p [] [] h sorted = absurd (cc)
found_place k f p (u ∷ us) [] h sorted = absurd (cc)
found_place k f p t (e ∷ es) h sorted = found_if (is_lt (key_cmp k e.0)) k f p t e es h sorted (λ u g. found_place k f p u es g (rest_sorted e es sorted))
