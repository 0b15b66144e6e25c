-- Blocks of events under their separators, and the list that they make
use Rattle.std.proofs.Common.{◌≡◌, ◌<◌, Bool, true, false, List, [], ◌∷◌, ◌++◌, length, Option, Some, None, refl, sym, ap, subst, ◌∙◌, append_assoc, arith}
use Rattle.std.proofs.lemmas.Bool.Decides.{nat_tests}
use Rattle.std.specs.List.{AllByRecursion, slice_get}
use Rattle.std.specs.Option.{option_map, MatchOption, IfSome}
use Rattle.hla_base.specs.declared.content.Event.{Event}
use Rattle.hla_order_queues.specs.declared.key.EventKey.{EventKey}
use Rattle.hla_component_rules.specs.Queues.{insert_event}
use Rattle.hla_order_queues.specs.Kept.{key_of, is_less, first_after, separator_after, IsInOrder, joined, events_of, AreAfter, AreBelowBlocks, AreSeparatored, AreBlocks}
use Rattle.hla_order_queues.proofs.Events.EventLemmas.{length-insert_event}
use Rattle.hla_order_queues.proofs.Events.OrderLemmas.{All-implies, All-append, NoneAfter, insert_event-front, insert_event-back, IsInOrder-insert_event, All-insert_event, parts_of}
use Rattle.hla_order_queues.proofs.UnderSeparators.SeparatorLemmas.{less-trans, not_less}

-- the list
pub events_of-append : (es fs : List (EventKey × List Event)) → events_of (es ++ fs) ≡ events_of es ++ events_of fs
unfolding joined
events_of-append [] fs = refl
events_of-append (e ∷ es) fs = ap (λ zs. e.1 ++ zs) (events_of-append es fs) ∙ sym (append_assoc e.1 (events_of es) (events_of fs))

pub events_at : (es : List (EventKey × List Event)) (f : EventKey) (b : List Event) (fs : List (EventKey × List Event)) → events_of (es ++ (f, b) ∷ fs) ≡ events_of es ++ (b ++ events_of fs)
unfolding joined
events_at es f b fs = events_of-append es ((f, b) ∷ fs)

-- the separators behind
All_back : (P : EventKey × List Event → Type 0) (es fs : List (EventKey × List Event)) → AllByRecursion P (es ++ fs) → AllByRecursion P fs
All_back P [] fs h = h
All_back P (e ∷ es) fs h = All_back P es fs h.1

All_set : (P : EventKey × List Event → Type 0) (es : List (EventKey × List Event)) (e f : EventKey × List Event) (fs : List (EventKey × List Event)) → AllByRecursion P (es ++ e ∷ fs) → P f → AllByRecursion P (es ++ f ∷ fs)
All_set P [] e f fs h p = (p, h.1)
All_set P (g ∷ es) e f fs h p = (h.0, All_set P es e f fs h.1 p)

All_at : (P : EventKey × List Event → Type 0) (es : List (EventKey × List Event)) (e : EventKey × List Event) (fs : List (EventKey × List Event)) → AllByRecursion P (es ++ e ∷ fs) → P e
All_at P [] e fs h = h.0
All_at P (g ∷ es) e fs h = All_at P es e fs h.1

below_back : (xs : List Event) (es fs : List (EventKey × List Event)) → AreBelowBlocks xs (es ++ fs) → AreBelowBlocks xs fs
below_back xs es fs h = All-implies (λ x p. All_back (λ e. is_less (key_of x) e.0 ≡ true) es fs p) xs h

pub below_set : (xs : List Event) (es : List (EventKey × List Event)) (f : EventKey) (b c : List Event) (fs : List (EventKey × List Event)) → AreBelowBlocks xs (es ++ (f, b) ∷ fs) → AreBelowBlocks xs (es ++ (f, c) ∷ fs)
below_set xs es f b c fs h =
    All-implies (λ x p. All_set (λ e. is_less (key_of x) e.0 ≡ true) es (f, b) (f, c) fs p (All_at (λ e. is_less (key_of x) e.0 ≡ true) es (f, b) fs p)) xs h

pub All_behind : (P : EventKey × List Event → Type 0) (es : List (EventKey × List Event)) (e : EventKey × List Event) (fs : List (EventKey × List Event)) → AllByRecursion P (es ++ e ∷ fs) → AllByRecursion P fs
All_behind P es e fs h = (All_back P es (e ∷ fs) h).1

pub record AreAt (es : List (EventKey × List Event)) (f : EventKey) (b : List Event) (fs : List (EventKey × List Event)) : Type 0 where
  pub before : AreBelowBlocks (events_of es) ((f, b) ∷ fs)
  pub from : AllByRecursion (λ x. is_less (key_of x) f ≡ false) b
  pub below : AreBelowBlocks b fs
  pub behind : AreSeparatored fs

pub separatored_at : (es : List (EventKey × List Event)) (f : EventKey) (b : List Event) (fs : List (EventKey × List Event)) → AreSeparatored (es ++ (f, b) ∷ fs) → AreAt es f b fs
unfolding AreSeparatored joined
separatored_at [] f b fs h = record { before = tt; from = h.0; below = h.1; behind = h.2 }
separatored_at (e ∷ es) f b fs h =
    let rest = separatored_at es f b fs h.2 in
    record {
      before = All-append (λ x. AreAfter (key_of x) ((f, b) ∷ fs)) e.1 (events_of es) (below_back e.1 es ((f, b) ∷ fs) h.1) rest.before;
      from = rest.from;
      below = rest.below;
      behind = rest.behind;
    }

pub separatored_set : (es : List (EventKey × List Event)) (f : EventKey) (b c : List Event) (fs : List (EventKey × List Event)) → AreSeparatored (es ++ (f, b) ∷ fs) → AllByRecursion (λ x. is_less (key_of x) f ≡ false) c → AreBelowBlocks c fs → AreSeparatored (es ++ (f, c) ∷ fs)
unfolding AreSeparatored
separatored_set [] f b c fs h from below = (from, below, h.2)
separatored_set (e ∷ es) f b c fs h from below = (h.0, below_set e.1 es f b c fs h.1, separatored_set es f b c fs h.2 from below)

-- an event between two separators
none_before : (k x f : EventKey) → is_less k f ≡ false → is_less x f ≡ true → is_less k x ≡ false
none_before k x f p q = grind (arith, nat_tests)

pub none_first : (k f : EventKey) (b : List Event) (xs : List Event) (fs : List (EventKey × List Event)) → is_less k f ≡ false → AreBelowBlocks xs ((f, b) ∷ fs) → NoneAfter k xs
none_first k f b xs fs low h = All-implies (λ x p. none_before k (key_of x) f low p.0) xs h

after_first : (k f : EventKey) (b zs : List Event) → 0 < length b → is_less k f ≡ true → AllByRecursion (λ x. is_less (key_of x) f ≡ false) b → first_after k (b ++ zs) ≡ true
after_first k f [] zs l p h = absurd (omega arith)
after_first k f (x ∷ xs) zs l p h = less-trans k f (key_of x) p h.0

pub after_all : (k : EventKey) (es : List (EventKey × List Event)) → AllByRecursion (λ e. 0 < length e.1) es → AreSeparatored es → AreAfter k es → first_after k (events_of es) ≡ true
unfolding joined AreSeparatored
after_all k [] filled separatored h = refl
after_all k (e ∷ es) filled separatored h = after_first k e.0 e.1 (events_of es) filled.0 h.0 separatored.0

-- where the first separator is after a key, all are
all_if : (k f : EventKey) (b : List Event) (fs : List (EventKey × List Event)) → 0 < length b → is_less k f ≡ true → AllByRecursion (λ x. is_less (key_of x) f ≡ false) b → AreBelowBlocks b fs → AreAfter k fs
all_if k f [] fs l p h below = absurd (omega arith)
all_if k f (x ∷ xs) fs l p h below = separators_after k (key_of x) fs (less-trans k f (key_of x) p h.0) below.0
  where
    separators_after : (k j : EventKey) (fs : List (EventKey × List Event)) → is_less k j ≡ true → AreAfter j fs → AreAfter k fs
    separators_after k j [] p h = tt
    separators_after k j (g ∷ gs) p h = (less-trans k j g.0 p (not_less j g.0 h.0), separators_after k j gs p h.1)

pub separators_after : (k : EventKey) (es : List (EventKey × List Event)) → AllByRecursion (λ e. 0 < length e.1) es → AreSeparatored es → separator_after k es ≡ true → AreAfter k es
unfolding AreSeparatored
separators_after k [] filled separatored h = tt
separators_after k (e ∷ es) filled separatored h = (h, all_if k e.0 e.1 es filled.0 h separatored.0 separatored.1)

-- an insertion into the block of the place
pub inserted_events : (x : Event) (es : List (EventKey × List Event)) (f : EventKey) (b : List Event) (fs : List (EventKey × List Event)) → AreBlocks (es ++ (f, b) ∷ fs) → is_less (key_of x) f ≡ false → AreAfter (key_of x) fs → events_of (es ++ (f, insert_event x b) ∷ fs) ≡ insert_event x (events_of (es ++ (f, b) ∷ fs))
inserted_events x es f b fs h low high =
    let at = separatored_at es f b fs h.separatored in
    let after = after_all (key_of x) fs (All_back (λ e. 0 < length e.1) es ((f, b) ∷ fs) h.filled).1 at.behind high in
    events_at es f (insert_event x b) fs
    ∙ ap (λ zs. events_of es ++ zs) (sym (insert_event-front x b (events_of fs) after))
    ∙ sym (insert_event-back x (events_of es) (b ++ events_of fs) (none_first (key_of x) f b (events_of es) fs low at.before))
    ∙ ap (insert_event x) (sym (events_at es f b fs))

pub blocks_inserted : (x : Event) (es : List (EventKey × List Event)) (f : EventKey) (b : List Event) (fs : List (EventKey × List Event)) → AreBlocks (es ++ (f, b) ∷ fs) → is_less (key_of x) f ≡ false → AreAfter (key_of x) fs → AreBlocks (es ++ (f, insert_event x b) ∷ fs)
blocks_inserted x es f b fs h low high =
    let at = separatored_at es f b fs h.separatored in
    record {
      filled = All_set (λ e. 0 < length e.1) es (f, b) (f, insert_event x b) fs h.filled (rw (length-insert_event x b) (omega arith));
      separatored = separatored_set es f b (insert_event x b) fs h.separatored (All-insert_event (λ y. is_less (key_of y) f ≡ false) x b low at.from) (All-insert_event (λ y. AreAfter (key_of y) fs) x b high at.below);
      ordered = subst IsInOrder (sym (inserted_events x es f b fs h low high)) (IsInOrder-insert_event x _ h.ordered);
    }

-- no blocks, and the first block
pub no_blocks : (es : List (EventKey × List Event)) → es ≡ [] → AreBlocks es
unfolding AreSeparatored joined IsInOrder
no_blocks es e = rw e (record { filled = tt; separatored = tt; ordered = tt })

pub no_events : (es : List (EventKey × List Event)) → es ≡ [] → events_of es ≡ []
unfolding joined
no_events es e = ap events_of e

pub record IsFirst (b : List Event) (es new : List (EventKey × List Event)) : Type 0 where
  pub events : b ++ events_of new ≡ events_of es
  pub filled : 0 < length b
  pub below : AreBelowBlocks b new
  pub left : AreBlocks new

pub first_taken : (e : EventKey × List Event) (es new : List (EventKey × List Event)) → AreBlocks es → es ≡ e ∷ new → IsFirst e.1 es new
unfolding AreSeparatored joined
first_taken e es new h is =
    let all = subst AreBlocks is h in
    record {
      events = ap events_of (sym is);
      filled = all.filled.0;
      below = all.separatored.1;
      left = record { filled = all.filled.1; separatored = all.separatored.2; ordered = (parts_of e.1 (events_of new) all.ordered).back };
    }

-- the first block, if there is one
pub record IsTakenOut (r : Option (List Event)) (es new : List (EventKey × List Event)) : Type 0 where
  pub events : MatchOption r ((events_of es ≡ []) × (events_of new ≡ [])) (λ b. b ++ events_of new ≡ events_of es)
  pub filled : IfSome r (λ b. 0 < length b)
  pub below : IfSome r (λ b. AreBelowBlocks b new)
  pub left : AreBlocks new

pub taken_front : (r : Option (List Event)) (es new : List (EventKey × List Event)) → AreBlocks es → MatchOption r ((es ≡ []) × (new ≡ [])) (λ b. (f : EventKey) × (es ≡ (f, b) ∷ new)) → IsTakenOut r es new
taken_front None es new h told = record {
  events = (no_events es told.0, no_events new told.1);
  filled = tt;
  below = tt;
  left = no_blocks new told.1;
}
taken_front (Some b) es new h told =
    let first = first_taken (told.0, b) es new h told.1 in
    record { events = first.events; filled = first.filled; below = first.below; left = first.left }

-- what the first separator says
separator_if : (f : EventKey) (es : List (EventKey × List Event)) (k : EventKey) (b : Bool) → Some f ≡ option_map (λ e. e.0) (slice_get es 0) → b ≡ is_less k f → b ≡ separator_after k es
separator_if f [] k b at is = absurd (cc)
separator_if f (e ∷ es) k b at is = let same : f ≡ e.0 = cc in is ∙ ap (is_less k) same

pub record TellsWhether (k : EventKey) (es : List (EventKey × List Event)) (b : Bool) : Type 0 where
  pub after : b ≡ true → AreAfter k es
  pub events : b ≡ true → first_after k (events_of es) ≡ true
  pub within : b ≡ false → separator_after k es ≡ false
  pub some : b ≡ false → 0 < length (events_of es)

some_first : (b zs : List Event) → 0 < length b → 0 < length (b ++ zs)
some_first [] zs h = absurd (omega arith)
some_first (x ∷ xs) zs h = omega arith

some_events : (k : EventKey) (es : List (EventKey × List Event)) → AllByRecursion (λ e. 0 < length e.1) es → separator_after k es ≡ false → 0 < length (events_of es)
unfolding joined
some_events k [] h e = absurd (cc)
some_events k (x ∷ es) h e = some_first x.1 (events_of es) h.0

pub told_first : (k f : EventKey) (es : List (EventKey × List Event)) (b : Bool) → AreBlocks es → Some f ≡ option_map (λ e. e.0) (slice_get es 0) → b ≡ is_less k f → TellsWhether k es b
told_first k f es b h at is =
    let whole = separator_if f es k b at is in
    record {
      after = λ p. separators_after k es h.filled h.separatored (sym whole ∙ p);
      events = λ p. after_all k es h.filled h.separatored (separators_after k es h.filled h.separatored (sym whole ∙ p));
      within = λ p. sym whole ∙ p;
      some = λ p. some_events k es h.filled (sym whole ∙ p);
    }

pub told_none : (k : EventKey) (es : List (EventKey × List Event)) → es ≡ [] → TellsWhether k es true
unfolding joined
told_none k es e = rw e (record { after = λ p. tt; events = λ p. refl; within = λ p. absurd (cc); some = λ p. absurd (cc) })

pub no_first : (es : List (EventKey × List Event)) → None ≡ option_map (λ e. e.0) (slice_get es 0) → es ≡ []
no_first [] h = refl
no_first (e ∷ es) h = absurd (cc)
