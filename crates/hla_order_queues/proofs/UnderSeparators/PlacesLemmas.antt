-- Blocks in a slab, at the places that separators have: what is there after a block comes, changes or goes
use Rattle.std.proofs.Common.{◌≡◌, ◌≢◌, ℕ, Bool, true, false, cond, eqb, not, ◌||◌, filter, map, List, [], ◌∷◌, ◌++◌, Option, Some, None, is_some, get_or, refl, sym, ap, subst, ◌∙◌, arith, eq-eqb}
use Rattle.std.proofs.lemmas.Bool.Decides.{nat_tests}
use Rattle.std.specs.List.{slice_get}
use Rattle.std.specs.Option.{option_map, unwrap_or}
use Rattle.std.specs.Map.{keys_of, values_of, lookup, set_value, remove_entry}
use Rattle.std.specs.BTreeMap.{insert_entry, is_at}
use Rattle.std.specs.declared.cmp.Ordering.{Ordering}
use Rattle.std.specs.declared.cmp.Ordering.TheVariants.{Less, Equal, Greater}
use Rattle.std.specs.List.Sorted.{IsStrictlySortedBy}
use Rattle.std.specs.Ordering.{match_ordering, is_eq, is_lt}
use Rattle.slab.specs.Slab.{Slab, get, Updates, with_value}
use Rattle.slab.proofs.SlabLemmas.{Updates-with_value}
use Rattle.hla_base.specs.declared.content.Event.{Event}
use Rattle.hla_order_queues.specs.declared.key.EventKey.{EventKey}
use Rattle.hla_order_queues.specs.Kept.{key_of, key_cmp, block_at, set_block, without_block, AreAfter, IsPlace}
use Rattle.hla_order_queues.specs.Places.{block_in, blocks_at, is_place_named, AreOwnPlaces, AreHeld}
use Rattle.hla_order_queues.proofs.UnderSeparators.SeparatorLemmas.{placed, none_passes, found_place}

-- ---- places
equal_if : (p q : ℕ) → eqb p q ≡ true → p ≡ q
equal_if p q h = grind (arith, nat_tests)

neither : (a b : Bool) → a || b ≡ false → (a ≡ false) × (b ≡ false)
neither false b h = (refl, h)
neither true b h = absurd (cc)

either : (a b : Bool) → a ≡ false → a || b ≡ b
either a b h = rw h refl

itself : (p : ℕ) → eqb p p ≡ true
itself p = eq-eqb p p refl

other : (p q : ℕ) → eqb p q ≡ false → q ≢ p
other p q h e = let s : eqb p q ≡ true = eq-eqb p q (sym e) in cc

-- a place that a separator has is none that no separator has
apart_if : (b : Bool) (p q : ℕ) (es : List (EventKey × ℕ)) → eqb p q ≡ b → is_place_named p es ≡ true → is_place_named q es ≡ false → b ≡ false
apart_if false p q es is h g = refl
apart_if true p q es is h g = let same : is_place_named p es ≡ is_place_named q es = ap (λ n. is_place_named n es) (equal_if p q is) in cc

apart : (p q : ℕ) (es : List (EventKey × ℕ)) → is_place_named p es ≡ true → is_place_named q es ≡ false → eqb p q ≡ false
apart p q es h g = apart_if (eqb p q) p q es refl h g

named_if : (b : Bool) (p q : ℕ) (es : List (EventKey × ℕ)) (o : Option ℕ) → cond b (Some q) o ≡ Some p → (o ≡ Some p → is_place_named p es ≡ true) → eqb q p || is_place_named p es ≡ true
named_if true p q es o h rest = let same : q ≡ p = cc in rw (eq-eqb q p same) refl
named_if false p q es o h rest = behind (eqb q p) (is_place_named p es) (rest h)
  where
    behind : (a b : Bool) → b ≡ true → a || b ≡ true
    behind true b h = refl
    behind false b h = h

pub found_named : (test : EventKey → Bool) (es : List (EventKey × ℕ)) (p : ℕ) → lookup test es ≡ Some p → is_place_named p es ≡ true
found_named test [] p h = absurd (cc)
found_named test (e ∷ es) p h = named_if (test e.0) p e.1 es (lookup test es) h (found_named test es p)

-- ---- the blocks at places
in_other : (s t : Slab (List Event)) (p q : ℕ) (slot : Option (List Event)) → Updates s t p slot → eqb p q ≡ false → block_in t q ≡ block_in s q
in_other s t p q slot u h = ap (λ o. unwrap_or o []) (u.others q (other p q h))

pub same_blocks : (s t : Slab (List Event)) (p : ℕ) (slot : Option (List Event)) (es : List (EventKey × ℕ)) → Updates s t p slot → is_place_named p es ≡ false → blocks_at t es ≡ blocks_at s es
same_blocks s t p slot [] u h = refl
same_blocks s t p slot (e ∷ es) u h =
    let parts = neither (eqb e.1 p) (is_place_named p es) h in
    let there : eqb p e.1 ≡ false = grind (arith, nat_tests, parts.0) in
    ap (λ b. (e.0, b) ∷ blocks_at t es) (in_other s t p e.1 slot u there) ∙ ap (λ bs. (e.0, block_in s e.1) ∷ bs) (same_blocks s t p slot es u parts.1)

mapped_if : (b : Bool) (s : Slab (List Event)) (p : ℕ) (l : Option (List Event)) (o : Option ℕ) → l ≡ option_map (block_in s) o → cond b (Some (block_in s p)) l ≡ option_map (block_in s) (cond b (Some p) o)
mapped_if true s p l o h = refl
mapped_if false s p l o h = h

pub lookup_block : (test : EventKey → Bool) (s : Slab (List Event)) (es : List (EventKey × ℕ)) → lookup test (blocks_at s es) ≡ option_map (block_in s) (lookup test es)
lookup_block test s [] = refl
lookup_block test s (e ∷ es) = mapped_if (test e.0) s e.1 (lookup test (blocks_at s es)) (lookup test es) (lookup_block test s es)

pub keys_same : (s : Slab (List Event)) (es : List (EventKey × ℕ)) → keys_of (blocks_at s es) ≡ keys_of es
keys_same s [] = refl
keys_same s (e ∷ es) = ap (λ ks. e.0 ∷ ks) (keys_same s es)

pub values_in : (s : Slab (List Event)) (es : List (EventKey × ℕ)) → values_of (blocks_at s es) ≡ map (block_in s) (values_of es)
values_in s [] = refl
values_in s (e ∷ es) = ap (λ bs. block_in s e.1 ∷ bs) (values_in s es)

pub blocks_at-append : (s : Slab (List Event)) (es fs : List (EventKey × ℕ)) → blocks_at s (es ++ fs) ≡ blocks_at s es ++ blocks_at s fs
blocks_at-append s [] fs = refl
blocks_at-append s (e ∷ es) fs = ap (λ bs. (e.0, block_in s e.1) ∷ bs) (blocks_at-append s es fs)

kept_if : (b : Bool) (s : Slab (List Event)) (e : EventKey × ℕ) (es : List (EventKey × ℕ)) (bs : List (EventKey × List Event)) → bs ≡ blocks_at s es → cond b ((e.0, block_in s e.1) ∷ bs) bs ≡ blocks_at s (cond b (e ∷ es) es)
kept_if true s e es bs h = ap (λ cs. (e.0, block_in s e.1) ∷ cs) h
kept_if false s e es bs h = h

pub filtered : (test : EventKey → Bool) (s : Slab (List Event)) (es : List (EventKey × ℕ)) → filter (λ e. test e.0) (blocks_at s es) ≡ blocks_at s (filter (λ e. test e.0) es)
filtered test s [] = refl
filtered test s (e ∷ es) = kept_if (test e.0) s e (filter (λ g. test g.0) es) (filter (λ g. test g.0) (blocks_at s es)) (filtered test s es)

-- ---- a block changes
set_if : (b : Bool) (test : EventKey → Bool) (s t : Slab (List Event)) (p : ℕ) (c : List Event) (e : EventKey × ℕ) (es : List (EventKey × ℕ)) (bs : List (EventKey × List Event)) → Updates s t p (Some c) → is_place_named e.1 es ≡ false → cond b (Some e.1) (lookup test es) ≡ Some p → (lookup test es ≡ Some p → blocks_at t es ≡ bs) → (e.0, block_in t e.1) ∷ blocks_at t es ≡ cond b ((e.0, c) ∷ blocks_at s es) ((e.0, block_in s e.1) ∷ bs)
set_if true test s t p c e es bs u alone h rest =
    let same : e.1 ≡ p = cc in
    ap (λ d. (e.0, d) ∷ blocks_at t es) (ap (block_in t) same ∙ ap (λ o. unwrap_or o []) u.changed)
    ∙ ap (λ cs. (e.0, c) ∷ cs) (same_blocks s t p (Some c) es u (ap (λ n. is_place_named n es) (sym same) ∙ alone))
set_if false test s t p c e es bs u alone h rest =
    ap (λ d. (e.0, d) ∷ blocks_at t es) (in_other s t p e.1 (Some c) u (apart p e.1 es (found_named test es p h) alone))
    ∙ ap (λ cs. (e.0, block_in s e.1) ∷ cs) (rest h)

pub set_blocks : (test : EventKey → Bool) (s t : Slab (List Event)) (p : ℕ) (c : List Event) (es : List (EventKey × ℕ)) → Updates s t p (Some c) → AreOwnPlaces es → lookup test es ≡ Some p → blocks_at t es ≡ set_value test (blocks_at s es) c
set_blocks test s t p c [] u d h = absurd (cc)
set_blocks test s t p c (e ∷ es) u d h =
    set_if (test e.0) test s t p c e es (set_value test (blocks_at s es) c) u d.0 h (set_blocks test s t p c es u d.1)

some_if : (b : Bool) (s t : Slab (List Event)) (p q : ℕ) (c : List Event) (es : List (EventKey × ℕ)) → eqb p q ≡ b → Updates s t p (Some c) → is_place_named p es ≡ true → is_some (get s q) ≡ is_place_named q es → is_some (get t q) ≡ is_place_named q es
some_if true s t p q c es is u h was =
    let same = equal_if p q is in
    ap (λ n. is_some (get t n)) (sym same) ∙ ap is_some u.changed ∙ sym h ∙ ap (λ n. is_place_named n es) same
some_if false s t p q c es is u h was = ap is_some (u.others q (other p q is)) ∙ was

pub held_set : (test : EventKey → Bool) (s t : Slab (List Event)) (p : ℕ) (c : List Event) (es : List (EventKey × ℕ)) → Updates s t p (Some c) → AreHeld s es → lookup test es ≡ Some p → AreHeld t es
held_set test s t p c es u h at = record {
  held = λ q. some_if (eqb p q) s t p q c es refl u (found_named test es p at) (h.held q);
  distinct = h.distinct;
}

-- ---- a block comes
inserted_if : (o : Ordering) (s t : Slab (List Event)) (f : EventKey) (p : ℕ) (c : List Event) (e : EventKey × ℕ) (es later : List (EventKey × ℕ)) (bs : List (EventKey × List Event)) → Updates s t p (Some c) → is_place_named p (e ∷ es) ≡ false → blocks_at t later ≡ bs → blocks_at t (match_ordering o ((f, p) ∷ e ∷ es) ((e.0, p) ∷ es) (e ∷ later)) ≡ match_ordering o ((f, c) ∷ blocks_at s (e ∷ es)) ((e.0, c) ∷ blocks_at s es) ((e.0, block_in s e.1) ∷ bs)
inserted_if Less s t f p c e es later bs u h rest =
    ap (λ o. (f, unwrap_or o []) ∷ blocks_at t (e ∷ es)) u.changed ∙ ap (λ cs. (f, c) ∷ cs) (same_blocks s t p (Some c) (e ∷ es) u h)
inserted_if Equal s t f p c e es later bs u h rest =
    ap (λ o. (e.0, unwrap_or o []) ∷ blocks_at t es) u.changed ∙ ap (λ cs. (e.0, c) ∷ cs) (same_blocks s t p (Some c) es u (neither (eqb e.1 p) (is_place_named p es) h).1)
inserted_if Greater s t f p c e es later bs u h rest =
    let there : eqb p e.1 ≡ false = let h0 = (neither (eqb e.1 p) (is_place_named p es) h).0 in grind (arith, nat_tests) in
    ap (λ d. (e.0, d) ∷ blocks_at t later) (in_other s t p e.1 (Some c) u there) ∙ ap (λ cs. (e.0, block_in s e.1) ∷ cs) rest

pub inserted_blocks : (s t : Slab (List Event)) (f : EventKey) (p : ℕ) (c : List Event) (es : List (EventKey × ℕ)) → Updates s t p (Some c) → is_place_named p es ≡ false → blocks_at t (insert_entry key_cmp es f p) ≡ insert_entry key_cmp (blocks_at s es) f c
inserted_blocks s t f p c [] u h = ap (λ o. (f, unwrap_or o []) ∷ []) u.changed
inserted_blocks s t f p c (e ∷ es) u h =
    inserted_if (key_cmp f e.0) s t f p c e es (insert_entry key_cmp es f p) (insert_entry key_cmp (blocks_at s es) f c) u h (inserted_blocks s t f p c es u (neither (eqb e.1 p) (is_place_named p es) h).1)

names_if : (o : Ordering) (q : ℕ) (f : EventKey) (p : ℕ) (e : EventKey × ℕ) (es later : List (EventKey × ℕ)) → is_eq o ≡ false → is_place_named q later ≡ (eqb p q || is_place_named q es) → is_place_named q (match_ordering o ((f, p) ∷ e ∷ es) ((e.0, p) ∷ es) (e ∷ later)) ≡ (eqb p q || is_place_named q (e ∷ es))
names_if Less q f p e es later new rest = refl
names_if Equal q f p e es later new rest = absurd (cc)
names_if Greater q f p e es later new rest = ap (λ b. eqb e.1 q || b) rest ∙ turned (eqb e.1 q) (eqb p q) (is_place_named q es)
  where
    turned : (a b c : Bool) → a || (b || c) ≡ b || (a || c)
    turned true true c = refl
    turned true false c = refl
    turned false true c = refl
    turned false false c = refl

new_head : (f : EventKey) (e : EventKey × ℕ) (es : List (EventKey × ℕ)) → lookup (is_at (key_cmp f)) (e ∷ es) ≡ None → (is_eq (key_cmp f e.0) ≡ false) × (lookup (is_at (key_cmp f)) es ≡ None)
new_head f e es h = new_if (is_eq (key_cmp f e.0)) e.1 (lookup (is_at (key_cmp f)) es) h
  where
    new_if : (b : Bool) (p : ℕ) (o : Option ℕ) → cond b (Some p) o ≡ None → (b ≡ false) × (o ≡ None)
    new_if true p o h = absurd (cc)
    new_if false p o h = (refl, h)

names_inserted : (q : ℕ) (f : EventKey) (p : ℕ) (es : List (EventKey × ℕ)) → lookup (is_at (key_cmp f)) es ≡ None → is_place_named q (insert_entry key_cmp es f p) ≡ (eqb p q || is_place_named q es)
names_inserted q f p [] h = refl
names_inserted q f p (e ∷ es) h =
    let new = new_head f e es h in
    names_if (key_cmp f e.0) q f p e es (insert_entry key_cmp es f p) new.0 (names_inserted q f p es new.1)

distinct_if : (o : Ordering) (f : EventKey) (p : ℕ) (e : EventKey × ℕ) (es later : List (EventKey × ℕ)) → is_eq o ≡ false → is_place_named p (e ∷ es) ≡ false → AreOwnPlaces (e ∷ es) → is_place_named e.1 later ≡ false → AreOwnPlaces later → AreOwnPlaces (match_ordering o ((f, p) ∷ e ∷ es) ((e.0, p) ∷ es) (e ∷ later))
distinct_if Less f p e es later new h d alone rest = (h, d)
distinct_if Equal f p e es later new h d alone rest = absurd (cc)
distinct_if Greater f p e es later new h d alone rest = (alone, rest)

distinct_inserted : (f : EventKey) (p : ℕ) (es : List (EventKey × ℕ)) → lookup (is_at (key_cmp f)) es ≡ None → is_place_named p es ≡ false → AreOwnPlaces es → AreOwnPlaces (insert_entry key_cmp es f p)
distinct_inserted f p [] h free d = (refl, tt)
distinct_inserted f p (e ∷ es) h free d =
    let new = new_head f e es h in
    let parts = neither (eqb e.1 p) (is_place_named p es) free in
    let there : eqb p e.1 ≡ false = let h0 = parts.0 in grind (arith, nat_tests) in
    distinct_if (key_cmp f e.0) f p e es (insert_entry key_cmp es f p) new.0 free d (names_inserted e.1 f p es new.1 ∙ rw there d.0) (distinct_inserted f p es new.1 parts.1 d.1)

come_if : (b : Bool) (s t : Slab (List Event)) (p q : ℕ) (c : List Event) (es : List (EventKey × ℕ)) → eqb p q ≡ b → Updates s t p (Some c) → is_some (get s q) ≡ is_place_named q es → is_some (get t q) ≡ (b || is_place_named q es)
come_if true s t p q c es is u was = ap (λ n. is_some (get t n)) (sym (equal_if p q is)) ∙ ap is_some u.changed
come_if false s t p q c es is u was = ap is_some (u.others q (other p q is)) ∙ was

pub held_inserted : (s t : Slab (List Event)) (f : EventKey) (p : ℕ) (c : List Event) (es : List (EventKey × ℕ)) → Updates s t p (Some c) → AreHeld s es → get s p ≡ None → lookup (is_at (key_cmp f)) es ≡ None → AreHeld t (insert_entry key_cmp es f p)
held_inserted s t f p c es u h vacant new = record {
  held = λ q. come_if (eqb p q) s t p q c es refl u (h.held q) ∙ sym (names_inserted q f p es new);
  distinct = distinct_inserted f p es new (sym (h.held p) ∙ ap is_some vacant) h.distinct;
}

-- ---- a block goes
gone_if : (b : Bool) (test : EventKey → Bool) (s t : Slab (List Event)) (p : ℕ) (e : EventKey × ℕ) (es later : List (EventKey × ℕ)) (bs : List (EventKey × List Event)) → Updates s t p None → is_place_named e.1 es ≡ false → cond b (Some e.1) (lookup test es) ≡ Some p → (lookup test es ≡ Some p → blocks_at t later ≡ bs) → blocks_at t (cond b es (e ∷ later)) ≡ cond b (blocks_at s es) ((e.0, block_in s e.1) ∷ bs)
gone_if true test s t p e es later bs u alone h rest =
    let same : e.1 ≡ p = cc in
    same_blocks s t p None es u (ap (λ n. is_place_named n es) (sym same) ∙ alone)
gone_if false test s t p e es later bs u alone h rest =
    ap (λ d. (e.0, d) ∷ blocks_at t later) (in_other s t p e.1 None u (apart p e.1 es (found_named test es p h) alone)) ∙ ap (λ cs. (e.0, block_in s e.1) ∷ cs) (rest h)

pub removed_blocks : (test : EventKey → Bool) (s t : Slab (List Event)) (p : ℕ) (es : List (EventKey × ℕ)) → Updates s t p None → AreOwnPlaces es → lookup test es ≡ Some p → blocks_at t (remove_entry test es) ≡ remove_entry test (blocks_at s es)
removed_blocks test s t p [] u d h = absurd (cc)
removed_blocks test s t p (e ∷ es) u d h =
    gone_if (test e.0) test s t p e es (remove_entry test es) (remove_entry test (blocks_at s es)) u d.0 h (removed_blocks test s t p es u d.1)

-- what is named without an entry
without_other : (b : Bool) (q : ℕ) (e : EventKey × ℕ) (es later : List (EventKey × ℕ)) → (b ≡ true → eqb e.1 q ≡ false) → (b ≡ false → is_place_named q later ≡ is_place_named q es) → is_place_named q (cond b es (e ∷ later)) ≡ (eqb e.1 q || is_place_named q es)
without_other true q e es later first rest = sym (either (eqb e.1 q) (is_place_named q es) (first refl))
without_other false q e es later first rest = ap (λ b. eqb e.1 q || b) (rest refl)

found_if : (b : Bool) (p r : ℕ) (o : Option ℕ) → cond b (Some r) o ≡ Some p → (b ≡ true → r ≡ p) × (b ≡ false → o ≡ Some p)
found_if true p r o h = (λ e. cc, λ e. absurd (cc))
found_if false p r o h = (λ e. absurd (cc), λ e. h)

names_without : (test : EventKey → Bool) (p q : ℕ) (es : List (EventKey × ℕ)) → lookup test es ≡ Some p → eqb p q ≡ false → is_place_named q (remove_entry test es) ≡ is_place_named q es
names_without test p q [] h apart = refl
names_without test p q (e ∷ es) h apart =
    let found = found_if (test e.0) p e.1 (lookup test es) h in
    without_other (test e.0) q e es (remove_entry test es) (λ is. ap (λ n. eqb n q) (found.0 is) ∙ apart) (λ is. names_without test p q es (found.1 is) apart)

gone_name : (b : Bool) (p : ℕ) (e : EventKey × ℕ) (es later : List (EventKey × ℕ)) → (b ≡ true → is_place_named p es ≡ false) → (b ≡ false → (eqb e.1 p ≡ false) × (is_place_named p later ≡ false)) → is_place_named p (cond b es (e ∷ later)) ≡ false
gone_name true p e es later first rest = first refl
gone_name false p e es later first rest = either (eqb e.1 p) (is_place_named p later) (rest refl).0 ∙ (rest refl).1

names_gone : (test : EventKey → Bool) (p : ℕ) (es : List (EventKey × ℕ)) → AreOwnPlaces es → lookup test es ≡ Some p → is_place_named p (remove_entry test es) ≡ false
names_gone test p [] d h = refl
names_gone test p (e ∷ es) d h =
    let found = found_if (test e.0) p e.1 (lookup test es) h in
    gone_name (test e.0) p e es (remove_entry test es) (λ is. ap (λ n. is_place_named n es) (sym (found.0 is)) ∙ d.0) (λ is.
    let apart_there : eqb p e.1 ≡ false = apart p e.1 es (found_named test es p (found.1 is)) d.0 in
    (grind (arith, nat_tests), names_gone test p es d.1 (found.1 is)))

distinct_gone : (b : Bool) (e : EventKey × ℕ) (es later : List (EventKey × ℕ)) → AreOwnPlaces (e ∷ es) → (b ≡ false → (is_place_named e.1 later ≡ false) × AreOwnPlaces later) → AreOwnPlaces (cond b es (e ∷ later))
distinct_gone true e es later d rest = d.1
distinct_gone false e es later d rest = rest refl

distinct_without : (test : EventKey → Bool) (p : ℕ) (es : List (EventKey × ℕ)) → AreOwnPlaces es → lookup test es ≡ Some p → AreOwnPlaces (remove_entry test es)
distinct_without test p [] d h = tt
distinct_without test p (e ∷ es) d h =
    let found = found_if (test e.0) p e.1 (lookup test es) h in
    distinct_gone (test e.0) e es (remove_entry test es) d (λ is.
    let there = found.1 is in
    (names_without test p e.1 es there (apart p e.1 es (found_named test es p there) d.0) ∙ d.0, distinct_without test p es d.1 there))

go_if : (b : Bool) (s t : Slab (List Event)) (p q : ℕ) (es later : List (EventKey × ℕ)) → eqb p q ≡ b → Updates s t p None → is_some (get s q) ≡ is_place_named q es → is_place_named p later ≡ false → (eqb p q ≡ false → is_place_named q later ≡ is_place_named q es) → is_some (get t q) ≡ is_place_named q later
go_if true s t p q es later is u was gone rest =
    let same = equal_if p q is in
    ap (λ n. is_some (get t n)) (sym same) ∙ ap is_some u.changed ∙ sym gone ∙ ap (λ n. is_place_named n later) same
go_if false s t p q es later is u was gone rest = ap is_some (u.others q (other p q is)) ∙ was ∙ sym (rest is)

pub held_removed : (test : EventKey → Bool) (s t : Slab (List Event)) (p : ℕ) (es : List (EventKey × ℕ)) → Updates s t p None → AreHeld s es → lookup test es ≡ Some p → AreHeld t (remove_entry test es)
held_removed test s t p es u h at = record {
  held = λ q. go_if (eqb p q) s t p q es (remove_entry test es) refl u (h.held q) (names_gone test p es h.distinct at) (names_without test p q es at);
  distinct = distinct_without test p es h.distinct at;
}

-- ---- what contracts see
pub first_separator : (s : Slab (List Event)) (es : List (EventKey × ℕ)) (f : EventKey) (p : ℕ) → slice_get es 0 ≡ Some (f, p) → Some f ≡ option_map (λ e. e.0) (slice_get (blocks_at s es) 0)
first_separator s [] f p h = absurd (cc)
first_separator s (e ∷ es) f p h = let same : e ≡ (f, p) = cc in ap (λ (g : EventKey × ℕ). Some g.0) (sym same)

pub placed_in : (s : Slab (List Event)) (k f : EventKey) (p : ℕ) (t es : List (EventKey × ℕ)) → filter (λ x. not (is_lt (key_cmp k x.0))) es ≡ t ++ (f, p) ∷ [] → IsStrictlySortedBy key_cmp (keys_of es) → IsPlace k f (blocks_at s es)
placed_in s k f p t es h sorted =
    placed k f (block_in s p) (blocks_at s t) (blocks_at s es) (filtered (λ q. not (is_lt (key_cmp k q))) s es ∙ ap (blocks_at s) h ∙ blocks_at-append s t ((f, p) ∷ [])) (subst (IsStrictlySortedBy key_cmp) (sym (keys_same s es)) sorted)

pub none_placed : (s : Slab (List Event)) (k : EventKey) (es : List (EventKey × ℕ)) → filter (λ x. not (is_lt (key_cmp k x.0))) es ≡ [] → AreAfter k (blocks_at s es)
none_placed s k es h = none_passes k (blocks_at s es) (filtered (λ q. not (is_lt (key_cmp k q))) s es ∙ ap (blocks_at s) h)

some_in : (o : Option (List Event)) → is_some o ≡ true → o ≡ Some (unwrap_or o [])
some_in None h = absurd (cc)
some_in (Some b) h = refl

-- the block at the place of a separator
pub there_is : {s : Slab (List Event)} {es : List (EventKey × ℕ)} {zs : List (EventKey × List Event)} (f : EventKey) (p : ℕ) → AreHeld s es → blocks_at s es ≡ zs → Some p ≡ lookup (is_at (key_cmp f)) es → get s p ≡ block_at f zs
there_is {s} {es} {zs} f p h view at =
    some_in (get s p) (h.held p ∙ found_named (is_at (key_cmp f)) es p (sym at))
    ∙ ap (option_map (block_in s)) at
    ∙ sym (lookup_block (is_at (key_cmp f)) s es)
    ∙ ap (block_at f) view

pub none_there : (s : Slab (List Event)) {es : List (EventKey × ℕ)} {zs : List (EventKey × List Event)} (f : EventKey) → AreHeld s es → blocks_at s es ≡ zs → None ≡ lookup (is_at (key_cmp f)) es → None ≡ block_at f zs
none_there s {es} {zs} f h view at = ap (option_map (block_in s)) at ∙ sym (lookup_block (is_at (key_cmp f)) s es) ∙ ap (block_at f) view

-- the block to which one search by separators leads
pub record IsFoundAt (x : Event) (f : EventKey) (p : ℕ) (b : List Event) (es : List (EventKey × ℕ)) (zs : List (EventKey × List Event)) : Type 0 where
  pub at : Some p ≡ lookup (is_at (key_cmp f)) es
  pub place : IsPlace (key_of x) f zs
  pub there : block_at f zs ≡ Some b

pub found_at : (s : Slab (List Event)) (x : Event) (k f : EventKey) (p : ℕ) (b : List Event) (t es : List (EventKey × ℕ)) (zs : List (EventKey × List Event)) → filter (λ y. not (is_lt (key_cmp k y.0))) es ≡ t ++ (f, p) ∷ [] → IsStrictlySortedBy key_cmp (keys_of es) → AreHeld s es → blocks_at s es ≡ zs → k ≡ key_of x → Some b ≡ get s p → IsFoundAt x f p b es zs
found_at s x k f p b t es zs search sorted h view key got =
    let at = sym (found_place k f p t es search sorted) in
    record {
      at = at;
      place = subst (λ (q : EventKey). IsPlace q f zs) key (subst (IsPlace k f) view (placed_in s k f p t es search sorted));
      there = sym (got ∙ there_is f p h view at);
    }

-- it changes
pub now_is : {s : Slab (List Event)} {es : List (EventKey × ℕ)} {zs : List (EventKey × List Event)} (f : EventKey) (p : ℕ) (c : List Event) → AreHeld s es → blocks_at s es ≡ zs → Some p ≡ lookup (is_at (key_cmp f)) es → blocks_at (with_value s p c) es ≡ set_block f zs c
now_is {s} {es} {zs} f p c h view at =
    set_blocks (is_at (key_cmp f)) s (with_value s p c) p c es (Updates-with_value s p c (h.held p ∙ found_named (is_at (key_cmp f)) es p (sym at))) h.distinct (sym at)
    ∙ ap (λ gs. set_block f gs c) view

-- no block is there
set_none : (test : EventKey → Bool) (zs : List (EventKey × List Event)) (c : List Event) → None ≡ lookup test zs → set_value test zs c ≡ zs
set_none test [] c h = refl
set_none test (z ∷ zs) c h = none_if (test z.0) z.1 (lookup test zs) h (set_none test zs c)
  where
    none_if : (b : Bool) (d : List Event) (o : Option (List Event)) → None ≡ cond b (Some d) o → (None ≡ o → set_value test zs c ≡ zs) → cond b ((z.0, c) ∷ zs) (z ∷ set_value test zs c) ≡ z ∷ zs
    none_if true d o h rest = absurd (cc)
    none_if false d o h rest = ap (λ gs. z ∷ gs) (rest h)

pub set_nothing : (f : EventKey) (zs : List (EventKey × List Event)) (c : List Event) → None ≡ block_at f zs → zs ≡ set_block f zs c
set_nothing f zs c h = sym (set_none (is_at (key_cmp f)) zs c h)

remove_none : (test : EventKey → Bool) (zs : List (EventKey × List Event)) → None ≡ lookup test zs → remove_entry test zs ≡ zs
remove_none test [] h = refl
remove_none test (z ∷ zs) h = none_if (test z.0) z.1 (lookup test zs) h (remove_none test zs)
  where
    none_if : (b : Bool) (d : List Event) (o : Option (List Event)) → None ≡ cond b (Some d) o → (None ≡ o → remove_entry test zs ≡ zs) → cond b zs (z ∷ remove_entry test zs) ≡ z ∷ zs
    none_if true d o h rest = absurd (cc)
    none_if false d o h rest = ap (λ gs. z ∷ gs) (rest h)

pub removed_nothing : (f : EventKey) (zs : List (EventKey × List Event)) → None ≡ block_at f zs → zs ≡ without_block f zs
removed_nothing f zs h = sym (remove_none (is_at (key_cmp f)) zs h)

-- what an insertion and a removal leave
pub record IsHeldWith (t : Slab (List Event)) (fs : List (EventKey × ℕ)) (zs : List (EventKey × List Event)) : Type 0 where
  pub held : AreHeld t fs
  pub view : blocks_at t fs ≡ zs

same_slots : (r s : Slab (List Event)) (es : List (EventKey × ℕ)) → s.slots ≡ r.slots → blocks_at s es ≡ blocks_at r es
same_slots r s [] e = refl
same_slots r s (g ∷ es) e = ap (λ (qs : List (Option (List Event))). (g.0, unwrap_or (get_or qs g.1 None) []) ∷ blocks_at s es) e ∙ ap (λ bs. (g.0, block_in r g.1) ∷ bs) (same_slots r s es e)

same_held : (r s : Slab (List Event)) (es : List (EventKey × ℕ)) → s.slots ≡ r.slots → AreHeld r es → AreHeld s es
same_held r s es e h = record {
  held = λ q. ap (λ (qs : List (Option (List Event))). is_some (get_or qs q None)) e ∙ h.held q;
  distinct = h.distinct;
}

not_there : (o : Option ℕ) (s : Slab (List Event)) → option_map (block_in s) o ≡ None → o ≡ None
not_there None s h = refl
not_there (Some p) s h = absurd (cc)

-- r is the slab before room was made in it
pub held_with : (r s t : Slab (List Event)) (f : EventKey) (p q : ℕ) (c : List Event) (es fs : List (EventKey × ℕ)) (zs : List (EventKey × List Event)) → AreHeld r es → blocks_at r es ≡ zs → s.slots ≡ r.slots → get s p ≡ None → Updates s t p (Some c) → p ≡ q → block_at f zs ≡ None → fs ≡ insert_entry key_cmp es f q → IsHeldWith t fs (insert_entry key_cmp zs f c)
held_with r s t f p q c es fs zs h view slots vacant u same new is =
    let now : fs ≡ insert_entry key_cmp es f p = is ∙ ap (insert_entry key_cmp es f) (sym same) in
    let kept = same_held r s es slots h in
    let absent : lookup (is_at (key_cmp f)) es ≡ None = not_there (lookup (is_at (key_cmp f)) es) r (sym (lookup_block (is_at (key_cmp f)) r es) ∙ ap (block_at f) view ∙ new) in
    record {
      held = subst (AreHeld t) (sym now) (held_inserted s t f p c es u kept vacant absent);
      view = ap (blocks_at t) now ∙ inserted_blocks s t f p c es u (sym (kept.held p) ∙ ap is_some vacant) ∙ ap (λ gs. insert_entry key_cmp gs f c) (same_slots r s es slots ∙ view);
    }

pub held_without : (s t : Slab (List Event)) (f : EventKey) (p : ℕ) (es fs : List (EventKey × ℕ)) (zs : List (EventKey × List Event)) → AreHeld s es → blocks_at s es ≡ zs → Some p ≡ lookup (is_at (key_cmp f)) es → Updates s t p None → fs ≡ remove_entry (is_at (key_cmp f)) es → IsHeldWith t fs (without_block f zs)
held_without s t f p es fs zs h view at u is = record {
  held = subst (AreHeld t) (sym is) (held_removed (is_at (key_cmp f)) s t p es u h (sym at));
  view = ap (blocks_at t) is ∙ removed_blocks (is_at (key_cmp f)) s t p es u h.distinct (sym at) ∙ ap (without_block f) view;
}

-- the first goes
pub record IsTakenFirst (s t : Slab (List Event)) (es fs : List (EventKey × ℕ)) (f : EventKey) (b : List Event) : Type 0 where
  pub was : blocks_at s es ≡ (f, b) ∷ blocks_at t fs
  pub held : AreHeld t fs

pub taken_first : (s t : Slab (List Event)) (es fs : List (EventKey × ℕ)) (f : EventKey) (p : ℕ) → AreHeld s es → es ≡ (f, p) ∷ fs → Updates s t p None → IsTakenFirst s t es fs f (block_in s p)
taken_first s t es fs f p h is u =
    let all = subst (AreHeld s) is h in
    record {
      was = ap (blocks_at s) is ∙ ap (λ bs. (f, block_in s p) ∷ bs) (sym (same_blocks s t p None fs u all.distinct.0));
      held = record {
        held = λ q. go_if (eqb p q) s t p q ((f, p) ∷ fs) fs refl u (all.held q) all.distinct.0 (λ apart_q. sym (either (eqb p q) (is_place_named q fs) apart_q));
        distinct = all.distinct.1;
      };
    }

pub first_there : (s : Slab (List Event)) (es fs : List (EventKey × ℕ)) (f : EventKey) (p : ℕ) → AreHeld s es → es ≡ (f, p) ∷ fs → get s p ≡ Some (block_in s p)
first_there s es fs f p h is =
    let all = subst (AreHeld s) is h in
    some_in (get s p) (all.held p ∙ ap (λ b. b || is_place_named p fs) (itself p))
