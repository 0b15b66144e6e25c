-- What an insertion into a block, a removal from one, and its split leave of the blocks
use Rattle.std.proofs.Common.{◌≡◌, ◌<◌, ◌≤◌, ℕ, true, false, List, [], ◌∷◌, ◌++◌, length, Option, Some, None, Result, Ok, Err, refl, sym, ap, subst, ◌∙◌, arith}
use Rattle.std.specs.List.{AllByRecursion}
use Rattle.std.specs.Option.{MatchOption}
use Rattle.std.specs.Bool.{⊤}
use Rattle.std.specs.Result.{OnOk, OnErr}
use Rattle.hla_base.specs.declared.content.Event.{Event}
use Rattle.hla_order_queues.specs.declared.key.EventKey.{EventKey}
use Rattle.hla_component_rules.specs.Queues.{insert_event, find_event, remove_event}
use Rattle.hla_order_queues.specs.Kept.{key_of, is_less, separator_after, IsInOrder, joined, events_of, block_at, set_block, without_block, AreAfter, AreBelowBlocks, AreSeparatored, AreBlocks, At, IsPlace}
use Rattle.hla_order_queues.specs.Places.{IsPutIn, IsPutInPlace}
use Rattle.hla_order_queues.proofs.UnderSeparators.SeparatorLemmas.{block_is, set_is, without_is}
use Rattle.hla_order_queues.proofs.UnderSeparators.JoinedLemmas.{events_at, inserted_events, blocks_inserted, below_set, separatored_at, separatored_set, after_all, All_behind}
use Rattle.hla_order_queues.proofs.Events.OrderLemmas.{All-implies, parts_of}
use Rattle.hla_order_queues.proofs.Events.RemovalLemmas.{find_event_before, remove_event_before, remove_event_behind, All-remove_event}
use Rattle.hla_order_queues.proofs.ByName.StampLemmas.{HasKey}
use Rattle.hla_order_queues.proofs.UnderSeparators.KeyLemmas.{held, in_front, key_behind}

-- the block under a separator is one, and put in its own place it changes nothing
pub same_block : (f : EventKey) (es : List (EventKey × List Event)) (a : At f es) (b : List Event) → block_at f es ≡ Some b → a.block ≡ b
same_block f es a b is = let both = sym (block_is f es a) ∙ is in cc

pub set_same : (f : EventKey) (es : List (EventKey × List Event)) (a : At f es) → set_block f es a.block ≡ es
set_same f es a = set_is f es a a.block ∙ sym a.whole

pub kept_block : (f : EventKey) (es : List (EventKey × List Event)) (b : List Event) → At f es → block_at f es ≡ Some b → set_block f es b ≡ es
kept_block f es b a at = ap (set_block f es) (sym (same_block f es a b at)) ∙ set_same f es a

-- an event is put in, or refused
pub record IsPut (x : Event) (es new : List (EventKey × List Event)) (r : Result (Unit {0}) Event) : Type 0 where
  pub ok : OnOk r (events_of new ≡ insert_event x (events_of es))
  pub unchanged : OnErr r (events_of new ≡ events_of es)
  pub blocks : AreBlocks new
  pub below : (xs : List Event) → AreBelowBlocks xs es → AreBelowBlocks xs new

pub put_in : (x : Event) (es new : List (EventKey × List Event)) (f : EventKey) (b c : List Event) (r : Result (Unit {0}) Event) → IsPlace (key_of x) f es → AreBlocks es → block_at f es ≡ Some b → new ≡ set_block f es c → OnOk r (c ≡ insert_event x b) → OnErr r (c ≡ b) → IsPut x es new r
put_in x es new f b c (Ok u) p h at is ok err =
    let a = p.at in
    let block = same_block f es a b at in
    let whole : new ≡ a.before ++ (f, insert_event x a.block) ∷ a.behind = is ∙ set_is f es a c ∙ ap (λ d. a.before ++ (f, d) ∷ a.behind) (ok ∙ ap (insert_event x) (sym block)) in
    let kept = subst AreBlocks a.whole h in
    record {
      ok = ap events_of whole ∙ inserted_events x a.before f a.block a.behind kept p.low p.high ∙ ap (λ gs. insert_event x (events_of gs)) (sym a.whole);
      unchanged = tt;
      blocks = subst AreBlocks (sym whole) (blocks_inserted x a.before f a.block a.behind kept p.low p.high);
      below = λ xs q. subst (AreBelowBlocks xs) (sym whole) (below_set xs a.before f a.block (insert_event x a.block) a.behind (subst (AreBelowBlocks xs) a.whole q));
    }
put_in x es new f b c (Err e) p h at is ok err =
    let same : new ≡ es = is ∙ ap (set_block f es) (err ∙ sym (same_block f es p.at b at)) ∙ set_same f es p.at in
    record {
      ok = tt;
      unchanged = ap events_of same;
      blocks = subst AreBlocks (sym same) h;
      below = λ xs q. subst (AreBelowBlocks xs) (sym same) q;
    }

pub put_under : (x : Event) (es new : List (EventKey × List Event)) (f : EventKey) (r : Result (Unit {0}) Event) → IsPlace (key_of x) f es → AreBlocks es → MatchOption (block_at f es) ⊤ (λ b. IsPutIn x f b es new r) → IsPut x es new r
put_under x es new f r p h told =
    let there = block_is f es p.at in
    let k = rw there at told in
    put_in x es new f p.at.block k.block r p h there k.now k.ok k.refused

-- an event was put into its block, or came back
pub put_home : (x : Event) (full : ℕ) (es new : List (EventKey × List Event)) → AreBlocks es → IsPutInPlace x full es new → IsPut x es new (Ok tt)
put_home x full es new h p = put_in x es new p.home.separator p.home.block (insert_event x p.home.block) (Ok tt) p.home.place h p.home.there p.now refl tt

pub block_ordered : (f : EventKey) (es : List (EventKey × List Event)) (b : List Event) → At f es → AreBlocks es → block_at f es ≡ Some b → IsInOrder b
block_ordered f es b a h at =
    let whole = subst IsInOrder (ap events_of a.whole ∙ events_at a.before f a.block a.behind) h.ordered in
    subst IsInOrder (same_block f es a b at) (parts_of a.block (events_of a.behind) (parts_of (events_of a.before) (a.block ++ events_of a.behind) whole).back).front

pub ordered_under : (f : EventKey) (es : List (EventKey × List Event)) → At f es → AreBlocks es → MatchOption (block_at f es) ⊤ (λ b. IsInOrder b)
ordered_under f es a h = let there = block_is f es a in rw there (block_ordered f es a.block a h there)

-- a block that is long is there
pub many_there : (o : Option (List Event)) (n : ℕ) → MatchOption o (n ≡ 0) (λ b. n ≡ length b) → 64 ≤ n → MatchOption o ⊥ (λ b. 2 ≤ length b)
many_there None n e h = absurd (omega (arith, e))
many_there (Some b) n e h = omega (arith, e)

-- an event is taken out of the block of its place
pub record IsTakenFromBlock (k f : EventKey) (es new : List (EventKey × List Event)) (r : Option Event) : Type 0 where
  pub found : r ≡ find_event k.sender k.serial (events_of es)
  pub rest : events_of new ≡ remove_event k.sender k.serial (events_of es)
  pub at : At f new
  pub separatored : AreSeparatored new
  pub filled : AllByRecursion (λ e. 0 < length e.1) (without_block f new)
  pub below : (xs : List Event) → AreBelowBlocks xs es → AreBelowBlocks xs new

missed_if : (k f : EventKey) (b : List Event) (xs : List Event) (fs : List (EventKey × List Event)) (o : Option Event) (zs : List Event) (h : HasKey k (xs ++ zs)) → find_event k.sender k.serial xs ≡ o → is_less k f ≡ false → AreBelowBlocks xs ((f, b) ∷ fs) → find_event k.sender k.serial xs ≡ None
missed_if k f b xs fs None zs h is low below = is
missed_if k f b xs fs (Some y) zs h is low below =
    let there = sym (find_event_before k.sender k.serial xs zs y is) ∙ h.found in
    let same : y ≡ h.event = cc in
    let less = (held (λ x. AreAfter (key_of x) ((f, b) ∷ fs)) k.sender k.serial xs y below is).0 in
    let turned : is_less k f ≡ true = ap (λ q. is_less q f) (sym (ap key_of same ∙ h.key)) ∙ less in
    absurd (cc)

pub missed_in_front : (k : EventKey) (xs : List Event) (es : List (EventKey × List Event)) (zs : List Event) → HasKey k (xs ++ zs) → separator_after k es ≡ false → AreBelowBlocks xs es → find_event k.sender k.serial xs ≡ None
missed_in_front k xs [] zs h e below = absurd (cc)
missed_in_front k xs (x ∷ es) zs h e below = missed_if k x.0 x.1 xs es (find_event k.sender k.serial xs) zs h refl e below

All_less : (P : EventKey × List Event → Type 0) (es : List (EventKey × List Event)) (e : EventKey × List Event) (fs : List (EventKey × List Event)) → AllByRecursion P (es ++ e ∷ fs) → AllByRecursion P (es ++ fs)
All_less P [] e fs h = h.1
All_less P (g ∷ es) e fs h = (h.0, All_less P es e fs h.1)

below_less : (xs : List Event) (es : List (EventKey × List Event)) (e : EventKey × List Event) (fs : List (EventKey × List Event)) → AreBelowBlocks xs (es ++ e ∷ fs) → AreBelowBlocks xs (es ++ fs)
below_less xs es e fs h = All-implies (λ x p. All_less (λ g. is_less (key_of x) g.0 ≡ true) es e fs p) xs h

separatored_less : (es : List (EventKey × List Event)) (e : EventKey × List Event) (fs : List (EventKey × List Event)) → AreSeparatored (es ++ e ∷ fs) → AreSeparatored (es ++ fs)
unfolding AreSeparatored
separatored_less [] e fs h = h.2
separatored_less (g ∷ es) e fs h = (h.0, below_less g.1 es e fs h.1, separatored_less es e fs h.2)

pub taken_out : (k f : EventKey) (es new : List (EventKey × List Event)) (r : Option Event) → IsPlace k f es → AreBlocks es → HasKey k (events_of es) → MatchOption (block_at f es) ((r ≡ None) × (new ≡ es)) (λ b. (r ≡ find_event k.sender k.serial b) × (new ≡ set_block f es (remove_event k.sender k.serial b))) → IsTakenFromBlock k f es new r
taken_out k f es new r p blocks h told =
    let a = p.at in
    let b = a.block in
    let c = remove_event k.sender k.serial b in
    let done = rw (block_is f es a) at told in
    let now : new ≡ a.before ++ (f, c) ∷ a.behind = done.1 ∙ set_is f es a c in
    let kept = subst AreBlocks a.whole blocks in
    let at = separatored_at a.before f b a.behind kept.separatored in
    let list = ap events_of a.whole ∙ events_at a.before f b a.behind in
    let key = subst (HasKey k) list h in
    let ordered = (parts_of b (events_of a.behind) (parts_of (events_of a.before) (b ++ events_of a.behind) (subst IsInOrder list blocks.ordered)).back).back in
    let after = after_all k a.behind (All_behind (λ e. 0 < length e.1) a.before (f, b) a.behind kept.filled) at.behind p.high in
    let missed = missed_if k f b (events_of a.before) a.behind (find_event k.sender k.serial (events_of a.before)) (b ++ events_of a.behind) key refl p.low at.before in
    let there = in_front k b (events_of a.behind) (key_behind k (events_of a.before) (b ++ events_of a.behind) key missed) ordered after in
    record {
      found = done.0 ∙ there ∙ sym key.found ∙ ap (find_event k.sender k.serial) (sym list);
      rest =
          ap events_of now
          ∙ events_at a.before f c a.behind
          ∙ ap (λ zs. events_of a.before ++ zs) (sym (remove_event_before k.sender k.serial b (events_of a.behind) key.event there))
          ∙ sym (remove_event_behind k.sender k.serial (events_of a.before) (b ++ events_of a.behind) missed)
          ∙ ap (remove_event k.sender k.serial) (sym list);
      at = record { before = a.before; block = c; behind = a.behind; whole = now; lesser = a.lesser };
      separatored = subst AreSeparatored (sym now) (separatored_set a.before f b c a.behind kept.separatored (All-remove_event (λ x. is_less (key_of x) f ≡ false) k.sender k.serial b at.from) (All-remove_event (λ x. AreAfter (key_of x) a.behind) k.sender k.serial b at.below));
      filled = subst (AllByRecursion (λ e. 0 < length e.1)) (sym (without_is f new (record { before = a.before; block = c; behind = a.behind; whole = now; lesser = a.lesser }))) (All_less (λ e. 0 < length e.1) a.before (f, b) a.behind kept.filled);
      below = λ xs q. subst (AreBelowBlocks xs) (sym now) (below_set xs a.before f b c a.behind (subst (AreBelowBlocks xs) a.whole q));
    }

pub not_before : (k : EventKey) (es : List (EventKey × List Event)) → AreAfter k es → separator_after k es ≡ false → ⊥
not_before k [] h e = cc
not_before k (x ∷ es) h e = let p = h.0 in cc

-- an empty block is dropped
pub record IsDropped (es new : List (EventKey × List Event)) : Type 0 where
  pub events : events_of new ≡ events_of es
  pub separatored : AreSeparatored new
  pub filled : AllByRecursion (λ e. 0 < length e.1) new
  pub below : (xs : List Event) → AreBelowBlocks xs es → AreBelowBlocks xs new

no_length : (b : List Event) → length b ≡ 0 → b ≡ []
no_length [] e = refl
no_length (x ∷ xs) e = absurd (omega (arith, e))

events_less : (es : List (EventKey × List Event)) (f : EventKey) (b : List Event) (fs : List (EventKey × List Event)) → b ≡ [] → events_of (es ++ fs) ≡ events_of (es ++ (f, b) ∷ fs)
unfolding joined
events_less [] f b fs e = ap (λ c. c ++ events_of fs) (sym e)
events_less (x ∷ es) f b fs e = ap (λ zs. x.1 ++ zs) (events_less es f b fs e)

pub dropped : (f : EventKey) (es new : List (EventKey × List Event)) (n : ℕ) (a : At f es) → AreSeparatored es → AllByRecursion (λ e. 0 < length e.1) (without_block f es) → MatchOption (block_at f es) (n ≡ 0) (λ b. n ≡ length b) → n ≡ 0 → new ≡ without_block f es → IsDropped es new
dropped f es new n a separatored filled told none gone =
    let empty = no_length a.block (sym (rw (block_is f es a) at told) ∙ none) in
    let now = gone ∙ without_is f es a in
    record {
      events = ap events_of now ∙ events_less a.before f a.block a.behind empty ∙ ap events_of (sym a.whole);
      separatored = subst AreSeparatored (sym now) (separatored_less a.before (f, a.block) a.behind (subst AreSeparatored a.whole separatored));
      filled = subst (AllByRecursion (λ e. 0 < length e.1)) (sym gone) filled;
      below = λ xs q. subst (AreBelowBlocks xs) (sym now) (below_less xs a.before (f, a.block) a.behind (subst (AreBelowBlocks xs) a.whole q));
    }

All_with : (P : EventKey × List Event → Type 0) (es : List (EventKey × List Event)) (e : EventKey × List Event) (fs : List (EventKey × List Event)) → AllByRecursion P (es ++ fs) → P e → AllByRecursion P (es ++ e ∷ fs)
All_with P [] e fs h p = (p, h)
All_with P (g ∷ es) e fs h p = (h.0, All_with P es e fs h.1 p)

pub still_filled : (f : EventKey) (es : List (EventKey × List Event)) (n : ℕ) (a : At f es) → AllByRecursion (λ e. 0 < length e.1) (without_block f es) → MatchOption (block_at f es) (n ≡ 0) (λ b. n ≡ length b) → 0 < n → AllByRecursion (λ e. 0 < length e.1) es
still_filled f es n a filled told some =
    let size : n ≡ length a.block = rw (block_is f es a) at told in
    subst (AllByRecursion (λ e. 0 < length e.1)) (sym a.whole) (All_with (λ e. 0 < length e.1) a.before (f, a.block) a.behind (subst (AllByRecursion (λ e. 0 < length e.1)) (without_is f es a) filled) (omega (arith, size)))
