-- A block that is split: the order of its halves, and the blocks then
use Rattle.std.proofs.Common.{◌≡◌, ◌<◌, ◌≤◌, ◌/◌, ℕ, zero, suc, true, false, List, [], ◌∷◌, ◌++◌, length, Option, Some, None, refl, sym, ap, subst, ◌∙◌, append_assoc, arith}
use Rattle.std.proofs.lemmas.Bool.Decides.{nat_tests}
use Rattle.std.specs.List.{AllByRecursion, slice_get}
use Rattle.std.specs.Option.{option_map, MatchOption}
use Rattle.std.specs.BTreeMap.{insert_entry}
use Rattle.hla_base.specs.declared.content.Event.{Event}
use Rattle.hla_order_queues.specs.declared.key.EventKey.{EventKey}
use Rattle.hla_component_rules.specs.Queues.{is_before, is_event, find_event}
use Rattle.hla_order_queues.specs.Kept.{key_of, key_cmp, is_less, IsInOrder, IsUnique, joined, events_of, block_at, set_block, without_block, AreAfter, AreBelowBlocks, AreSeparatored, AreBlocks, At, IsHalved}
use Rattle.hla_order_queues.proofs.Events.EventLemmas.{missed_head, missed_later}
use Rattle.hla_order_queues.proofs.Events.OrderLemmas.{All-append_parts, parts_of}
use Rattle.hla_order_queues.proofs.UnderSeparators.SeparatorLemmas.{less-trans, less_then, not_less, not_itself, block_is, set_is, lookup_none, insert_new, remove_at}
use Rattle.hla_order_queues.proofs.UnderSeparators.PutLemmas.{same_block, block_ordered}
use Rattle.hla_order_queues.proofs.UnderSeparators.JoinedLemmas.{events_at, separatored_at}

-- where names differ, an event that is not before another is behind it
strict : (x y : Event) → is_before y x ≡ false → is_event x.sender x.serial y ≡ false → is_before x y ≡ true
strict x y p q = grind (arith, nat_tests)

held_at : (P : Event → Type 0) (xs : List Event) (i : ℕ) (y : Event) → AllByRecursion P xs → Some y ≡ slice_get xs i → P y
held_at P [] i y h e = absurd (cc)
held_at P (x ∷ xs) zero y h e = let same : x ≡ y = cc in subst P same h.0
held_at P (x ∷ xs) (suc i) y h e = held_at P xs i y h.1 e

missed_place : (g m : ℕ) (xs : List Event) (i : ℕ) (y : Event) → find_event g m xs ≡ None → Some y ≡ slice_get xs i → is_event g m y ≡ false
missed_place g m [] i y h e = absurd (cc)
missed_place g m (x ∷ xs) zero y h e = let same : x ≡ y = cc in ap (is_event g m) (sym same) ∙ missed_head g m x xs h
missed_place g m (x ∷ xs) (suc i) y h e = missed_place g m xs i y (missed_later g m x xs h) e

pub separator_less : (f : EventKey) (b : List Event) (i : ℕ) (y : Event) → Some y ≡ slice_get b i → 0 < i → IsInOrder b → IsUnique b → AllByRecursion (λ x. is_less (key_of x) f ≡ false) b → is_less f (key_of y) ≡ true
unfolding IsInOrder IsUnique
separator_less f [] i y e l h u from = absurd (cc)
separator_less f (x ∷ xs) zero y e l h u from = absurd (omega arith)
separator_less f (x ∷ xs) (suc i) y e l h u from =
    less_then f (key_of x) (key_of y) from.0 (strict x y (held_at (λ z. is_before z x ≡ false) xs i y h.0 e) (missed_place x.sender x.serial xs i y u.0 e))

missed_at : (g m : ℕ) (xs : List Event) (y : Event) (ys : List Event) → find_event g m (xs ++ y ∷ ys) ≡ None → is_event g m y ≡ false
missed_at g m [] y ys h = missed_head g m y ys h
missed_at g m (x ∷ xs) y ys h = missed_at g m xs y ys (missed_later g m x (xs ++ y ∷ ys) h)

lesser_half : (l : List Event) (y : Event) (g : List Event) → IsInOrder (l ++ y ∷ g) → IsUnique (l ++ y ∷ g) → AllByRecursion (λ x. is_less (key_of x) (key_of y) ≡ true) l
unfolding IsInOrder IsUnique
lesser_half [] y g h u = tt
lesser_half (x ∷ xs) y g h u =
    (strict x y (All-append_parts (λ z. is_before z x ≡ false) xs (y ∷ g) h.0).1.0 (missed_at x.sender x.serial xs y g u.0), lesser_half xs y g h.1 u.1)

greater_half : (y : Event) (g : List Event) → IsInOrder (y ∷ g) → AllByRecursion (λ x. is_less (key_of x) (key_of y) ≡ false) (y ∷ g)
unfolding IsInOrder
greater_half y g h = (not_itself (key_of y), h.0)

-- the halves of a block, and the key between them
pub record AreHalves (b l g : List Event) (h : EventKey) : Type 0 where
  pub lesser : AllByRecursion (λ x. is_less (key_of x) h ≡ true) l
  pub greater : AllByRecursion (λ x. is_less (key_of x) h ≡ false) g
  pub some : 0 < length g
  pub parts : l ++ g ≡ b

pub halves : (b l g : List Event) (y : Event) → l ++ g ≡ b → slice_get g 0 ≡ Some y → IsInOrder b → IsUnique b → AreHalves b l g (key_of y)
halves b l [] y parts first h u = absurd (cc)
halves b l (z ∷ zs) y parts first h u =
    let same : z ≡ y = cc in
    let order = subst IsInOrder (sym parts) h in
    let unique = subst IsUnique (sym parts) u in
    subst (λ (q : Event). AreHalves b l (z ∷ zs) (key_of q)) same (record {
      lesser = lesser_half l z zs order unique;
      greater = greater_half z zs (parts_of l (z ∷ zs) order).back;
      some = omega arith;
      parts = parts;
    })

-- the events before the block come before both separators
after_more : (k f h : EventKey) (es : List (EventKey × List Event)) (b l g : List Event) (fs : List (EventKey × List Event)) → is_less f h ≡ true → AreAfter k (es ++ (f, b) ∷ fs) → AreAfter k (es ++ (f, l) ∷ (h, g) ∷ fs)
after_more k f h [] b l g fs lt a = (a.0, (less-trans k f h a.0 (not_less f h lt), a.1))
after_more k f h (e ∷ es) b l g fs lt a = (a.0, after_more k f h es b l g fs lt a.1)

pub below_more : (xs : List Event) (f h : EventKey) (es : List (EventKey × List Event)) (b l g : List Event) (fs : List (EventKey × List Event)) → is_less f h ≡ true → AreBelowBlocks xs (es ++ (f, b) ∷ fs) → AreBelowBlocks xs (es ++ (f, l) ∷ (h, g) ∷ fs)
below_more [] f h es b l g fs lt a = tt
below_more (x ∷ xs) f h es b l g fs lt a = (after_more (key_of x) f h es b l g fs lt a.0, below_more xs f h es b l g fs lt a.1)

pub below_both : (xs : List Event) (h : EventKey) (g : List Event) (fs : List (EventKey × List Event)) → AllByRecursion (λ x. is_less (key_of x) h ≡ true) xs → AreBelowBlocks xs fs → AreBelowBlocks xs ((h, g) ∷ fs)
below_both [] h g fs a b = tt
below_both (x ∷ xs) h g fs a b = ((a.0, b.0), below_both xs h g fs a.1 b.1)

within_halves : (P : Event → Type 0) (b l g : List Event) → l ++ g ≡ b → AllByRecursion P b → AllByRecursion P l × AllByRecursion P g
within_halves P b l g e all = All-append_parts P l g (subst (AllByRecursion P) (sym e) all)

pub separatored_more : (f h : EventKey) (es : List (EventKey × List Event)) (b l g : List Event) (fs : List (EventKey × List Event)) → is_less f h ≡ true → AreHalves b l g h → AreSeparatored (es ++ (f, b) ∷ fs) → AreSeparatored (es ++ (f, l) ∷ (h, g) ∷ fs)
unfolding AreSeparatored
separatored_more f h [] b l g fs lt a k =
    let below = within_halves (λ x. AreAfter (key_of x) fs) b l g a.parts k.1 in
    ((within_halves (λ x. is_less (key_of x) f ≡ false) b l g a.parts k.0).0, below_both l h g fs a.lesser below.0, (a.greater, below.1, k.2))
separatored_more f h (e ∷ es) b l g fs lt a k = (k.0, below_more e.1 f h es b l g fs lt k.1, separatored_more f h es b l g fs lt a k.2)

pub filled_more : (f h : EventKey) (es : List (EventKey × List Event)) (b l g : List Event) (fs : List (EventKey × List Event)) → 0 < length l → 0 < length g → AllByRecursion (λ e. 0 < length e.1) (es ++ (f, b) ∷ fs) → AllByRecursion (λ e. 0 < length e.1) (es ++ (f, l) ∷ (h, g) ∷ fs)
filled_more f h [] b l g fs p q k = (p, (q, k.1))
filled_more f h (e ∷ es) b l g fs p q k = (k.0, filled_more f h es b l g fs p q k.1)

pub events_more : (f h : EventKey) (es : List (EventKey × List Event)) (b l g : List Event) (fs : List (EventKey × List Event)) → l ++ g ≡ b → events_of (es ++ (f, l) ∷ (h, g) ∷ fs) ≡ events_of (es ++ (f, b) ∷ fs)
unfolding joined
events_more f h [] b l g fs e = sym (append_assoc l g (events_of fs)) ∙ ap (λ zs. zs ++ events_of fs) e
events_more f h (x ∷ es) b l g fs e = ap (λ zs. x.1 ++ zs) (events_more f h es b l g fs e)

-- the map through the split
lesser_more : (f h : EventKey) (es : List (EventKey × List Event)) (b : List Event) → is_less f h ≡ true → AllByRecursion (λ e. is_less e.0 f ≡ true) es → AllByRecursion (λ e. is_less e.0 h ≡ true) (es ++ (f, b) ∷ [])
lesser_more f h [] b lt a = (lt, tt)
lesser_more f h (e ∷ es) b lt a = (less-trans e.0 f h a.0 (not_less f h lt), lesser_more f h es b lt a.1)

pub record IsSplit (es new : List (EventKey × List Event)) : Type 0 where
  pub same : events_of new ≡ events_of es
  pub blocks : AreBlocks new
  pub below : (xs : List Event) → AreBelowBlocks xs es → AreBelowBlocks xs new

-- names are unique in each part
missed_front : (g m : ℕ) (xs ys : List Event) → find_event g m (xs ++ ys) ≡ None → find_event g m xs ≡ None
unfolding find_event
missed_front g m [] ys h = refl
missed_front g m (x ∷ xs) ys h = rw (missed_head g m x (xs ++ ys) h) (missed_front g m xs ys (missed_later g m x (xs ++ ys) h))

pub unique_parts : (xs ys : List Event) → IsUnique (xs ++ ys) → IsUnique xs × IsUnique ys
unfolding IsUnique
unique_parts [] ys u = (tt, u)
unique_parts (x ∷ xs) ys u = let rest = unique_parts xs ys u.1 in ((missed_front x.sender x.serial xs ys u.0, rest.0), rest.1)

-- what is known of the key between the halves
pub record IsMiddle (f h : EventKey) (es : List (EventKey × List Event)) (a : At f es) : Type 0 where
  pub event : Event
  pub at : Some event ≡ slice_get a.block (length a.block / 2)
  pub key : h ≡ key_of event
  pub less : is_less f h ≡ true
  pub ordered : IsInOrder a.block
  pub unique : IsUnique a.block
  pub high : AreAfter h a.behind

event_if : (h : EventKey) (b : List Event) (i : ℕ) (o : Option Event) → slice_get b i ≡ o → Some h ≡ option_map (λ x. key_of x) o → (y : Event) × (Some y ≡ slice_get b i) × (h ≡ key_of y)
event_if h b i None is e = absurd (cc)
event_if h b i (Some y) is e = (y, sym is, cc)

half_some : (n : ℕ) → 2 ≤ n → 0 < n / 2
half_some n h = omega arith

pub middle_known : (f h : EventKey) (es : List (EventKey × List Event)) (a : At f es) → AreBlocks es → IsUnique (events_of es) → MatchOption (block_at f es) ⊥ (λ b. 2 ≤ length b) → MatchOption (block_at f es) ⊥ (λ b. Some h ≡ option_map (λ x. key_of x) (slice_get b (length b / 2))) → IsMiddle f h es a
middle_known f h es a k u many told =
    let b = a.block in
    let there = block_is f es a in
    let size : 2 ≤ length b = rw there at many in
    let found = event_if h b (length b / 2) (slice_get b (length b / 2)) refl (rw there at told) in
    let ordered = block_ordered f es b a k there in
    let at = separatored_at a.before f b a.behind (subst AreSeparatored a.whole k.separatored) in
    let whole = subst IsUnique (ap events_of a.whole ∙ events_at a.before f b a.behind) u in
    let unique = (unique_parts b (events_of a.behind) (unique_parts (events_of a.before) (b ++ events_of a.behind) whole).1).0 in
    record {
      event = found.0;
      at = found.1;
      key = found.2;
      less = ap (is_less f) found.2 ∙ separator_less f b (length b / 2) found.0 found.1 (half_some (length b) size) ordered unique at.from;
      ordered = ordered;
      unique = unique;
      high = subst (λ (q : EventKey). AreAfter q a.behind) (sym found.2) (held_at (λ x. AreAfter (key_of x) a.behind) b (length b / 2) found.0 at.below found.1);
    }

-- the map through the split: no block is there
pub new_middle : (f h : EventKey) (es : List (EventKey × List Event)) (a : At f es) → IsMiddle f h es a → block_at h es ≡ None
new_middle f h es a m =
    ap (block_at h) (a.whole ∙ sym (append_assoc a.before ((f, a.block) ∷ []) a.behind)) ∙ lookup_none h (a.before ++ (f, a.block) ∷ []) a.behind (lesser_more f h a.before a.block m.less a.lesser) m.high

-- an empty block comes
pub opened : (f h : EventKey) (es e1 : List (EventKey × List Event)) (a : At f es) → IsMiddle f h es a → e1 ≡ insert_entry key_cmp es h [] → e1 ≡ a.before ++ (f, a.block) ∷ (h, []) ∷ a.behind
opened f h es e1 a m is =
    is
    ∙ ap (λ gs. insert_entry key_cmp gs h []) (a.whole ∙ sym (append_assoc a.before ((f, a.block) ∷ []) a.behind))
    ∙ insert_new h (a.before ++ (f, a.block) ∷ []) [] a.behind (lesser_more f h a.before a.block m.less a.lesser) m.high
    ∙ append_assoc a.before ((f, a.block) ∷ []) ((h, []) ∷ a.behind)

abbrev pub still_at : (f h : EventKey) (es e1 : List (EventKey × List Event)) (a : At f es) → IsMiddle f h es a → e1 ≡ insert_entry key_cmp es h [] → At f e1
still_at f h es e1 a m is = record { before = a.before; block = a.block; behind = (h, []) ∷ a.behind; whole = opened f h es e1 a m is; lesser = a.lesser }

pub still_many : (f h : EventKey) (es e1 : List (EventKey × List Event)) (a : At f es) → IsMiddle f h es a → e1 ≡ insert_entry key_cmp es h [] → MatchOption (block_at f es) ⊥ (λ b. 2 ≤ length b) → MatchOption (block_at f e1) ⊥ (λ b. 2 ≤ length b)
still_many f h es e1 a m is many =
    let size : 2 ≤ length a.block = rw (block_is f es a) at many in
    subst (λ (o : Option (List Event)). MatchOption o ⊥ (λ b. 2 ≤ length b)) (sym (block_is f e1 (still_at f h es e1 a m is))) size

-- it goes again, where memory was refused
pub closed : (f h : EventKey) (es e1 e2 : List (EventKey × List Event)) (a : At f es) → IsMiddle f h es a → e1 ≡ insert_entry key_cmp es h [] → e2 ≡ without_block h e1 → e2 ≡ es
closed f h es e1 e2 a m is gone =
    gone
    ∙ ap (without_block h) (opened f h es e1 a m is ∙ sym (append_assoc a.before ((f, a.block) ∷ []) ((h, []) ∷ a.behind)))
    ∙ remove_at h (a.before ++ (f, a.block) ∷ []) [] a.behind (lesser_more f h a.before a.block m.less a.lesser)
    ∙ append_assoc a.before ((f, a.block) ∷ []) a.behind
    ∙ sym a.whole

-- the greater half comes in its place
half_in : (f h : EventKey) (es e1 e2 : List (EventKey × List Event)) (g : List Event) (a : At f es) → IsMiddle f h es a → e1 ≡ insert_entry key_cmp es h [] → (k : IsHalved f e1 e2 g) → (set_block h e2 g ≡ a.before ++ (f, k.lesser) ∷ (h, g) ∷ a.behind) × AreHalves a.block k.lesser g h
half_in f h es e1 e2 g a m is k =
    let at = still_at f h es e1 a m is in
    let block = same_block f e1 at k.block k.was in
    let now = k.now ∙ set_is f e1 at k.lesser ∙ sym (append_assoc a.before ((f, k.lesser) ∷ []) ((h, []) ∷ a.behind)) in
    let low = lesser_more f h a.before k.lesser m.less a.lesser in
    let first = k.given ∙ ap (λ b. slice_get b (length b / 2)) (sym block) ∙ sym m.at in (
      set_is h e2 (record { before = a.before ++ (f, k.lesser) ∷ []; block = []; behind = a.behind; whole = now; lesser = low }) g ∙ append_assoc a.before ((f, k.lesser) ∷ []) ((h, g) ∷ a.behind),
      subst (AreHalves a.block k.lesser g) (sym m.key) (halves a.block k.lesser g m.event (k.parts ∙ sym block) first m.ordered m.unique),
    )

pub split_done : (f h : EventKey) (es e1 e2 e3 : List (EventKey × List Event)) (g : List Event) (a : At f es) → IsMiddle f h es a → AreBlocks es → e1 ≡ insert_entry key_cmp es h [] → IsHalved f e1 e2 g → e3 ≡ set_block h e2 g → IsSplit es e3
split_done f h es e1 e2 e3 g a m k is half put =
    let all = half_in f h es e1 e2 g a m is half in
    let now = put ∙ all.0 in
    let kept = subst AreBlocks a.whole k in
    let same = ap events_of now ∙ events_more f h a.before a.block half.lesser g a.behind all.1.parts ∙ ap events_of (sym a.whole) in
    record {
      same = same;
      blocks = record {
        filled = subst (AllByRecursion (λ e. 0 < length e.1)) (sym now) (filled_more f h a.before a.block half.lesser g a.behind half.kept all.1.some kept.filled);
        separatored = subst AreSeparatored (sym now) (separatored_more f h a.before a.block half.lesser g a.behind m.less all.1 kept.separatored);
        ordered = subst IsInOrder (sym same) k.ordered;
      };
      below = λ xs q. subst (AreBelowBlocks xs) (sym now) (below_more xs f h a.before a.block half.lesser g a.behind m.less (subst (AreBelowBlocks xs) a.whole q));
    }

-- the block before all is split
pub record IsBetween (h : EventKey) (b : List Event) (es : List (EventKey × List Event)) : Type 0 where
  pub event : Event
  pub at : Some event ≡ slice_get b (length b / 2)
  pub key : h ≡ key_of event
  pub ordered : IsInOrder b
  pub unique : IsUnique b
  pub high : AreAfter h es

pub between_known : (h : EventKey) (b : List Event) (es : List (EventKey × List Event)) → IsInOrder (b ++ events_of es) → IsUnique (b ++ events_of es) → AreBelowBlocks b es → Some h ≡ option_map (λ x. key_of x) (slice_get b (length b / 2)) → IsBetween h b es
between_known h b es ordered unique below told =
    let found = event_if h b (length b / 2) (slice_get b (length b / 2)) refl told in
    record {
      event = found.0;
      at = found.1;
      key = found.2;
      ordered = (parts_of b (events_of es) ordered).front;
      unique = (unique_parts b (events_of es) unique).0;
      high = subst (λ (q : EventKey). AreAfter q es) (sym found.2) (held_at (λ x. AreAfter (key_of x) es) b (length b / 2) found.0 below found.1);
    }

pub new_first : (h : EventKey) (b : List Event) (es : List (EventKey × List Event)) → IsBetween h b es → block_at h es ≡ None
new_first h b es m = lookup_none h [] es tt m.high

before_all : (h : EventKey) (es e1 : List (EventKey × List Event)) (b : List Event) → IsBetween h b es → e1 ≡ insert_entry key_cmp es h [] → e1 ≡ (h, []) ∷ es
before_all h es e1 b m is = is ∙ insert_new h [] [] es tt m.high

pub closed_first : (h : EventKey) (es e1 e2 : List (EventKey × List Event)) (b : List Event) → IsBetween h b es → e1 ≡ insert_entry key_cmp es h [] → e2 ≡ without_block h e1 → e2 ≡ es
closed_first h es e1 e2 b m is gone = gone ∙ ap (without_block h) (before_all h es e1 b m is) ∙ remove_at h [] [] es tt

pub record IsFrontSplit (b l : List Event) (es new : List (EventKey × List Event)) : Type 0 where
  pub same : l ++ events_of new ≡ b ++ events_of es
  pub blocks : AreBlocks new
  pub below : AreBelowBlocks l new

front_kept : (h : EventKey) (b l g : List Event) (es : List (EventKey × List Event)) → AreHalves b l g h → AreBlocks es → AreBelowBlocks b es → IsInOrder (b ++ events_of es) → IsFrontSplit b l es ((h, g) ∷ es)
unfolding joined AreSeparatored
front_kept h b l g es a k below ordered =
    let both = within_halves (λ x. AreAfter (key_of x) es) b l g a.parts below in
    let same = sym (append_assoc l g (events_of es)) ∙ ap (λ zs. zs ++ events_of es) a.parts in
    record {
      same = same;
      blocks = record {
        filled = (a.some, k.filled);
        separatored = (a.greater, both.1, k.separatored);
        ordered = (parts_of l (g ++ events_of es) (subst IsInOrder (sym same) ordered)).back;
      };
      below = below_both l h g es a.lesser both.0;
    }

pub front_done : (h : EventKey) (b l g : List Event) (es e1 e3 : List (EventKey × List Event)) → IsBetween h b es → AreBlocks es → AreBelowBlocks b es → IsInOrder (b ++ events_of es) → e1 ≡ insert_entry key_cmp es h [] → l ++ g ≡ b → slice_get g 0 ≡ slice_get b (length b / 2) → e3 ≡ set_block h e1 g → IsFrontSplit b l es e3
front_done h b l g es e1 e3 m k below ordered is parts middle put =
    let now = put ∙ set_is h e1 (record { before = []; block = []; behind = es; whole = before_all h es e1 b m is; lesser = tt }) g in
    let a = subst (AreHalves b l g) (sym m.key) (halves b l g m.event parts (middle ∙ sym m.at) m.ordered m.unique) in
    subst (IsFrontSplit b l es) (sym now) (front_kept h b l g es a k below ordered)
