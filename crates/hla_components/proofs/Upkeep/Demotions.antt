-- Events move from the queue in key order to the one in receive order
use Rattle.std.proofs.Common.{◌≡◌, ◌≢◌, ℕ, ◌+◌, ◌≤◌, ◌<◌, cond, not, Bool, true, false, refl, sym, ap, ◌∙◌, subst, ⊎_elim, arith, eq-eqb, ne_eqb, is_some, List, [], ◌∷◌, ◌++◌, Option, Some, None, option_map, filter}
use Rattle.std.proofs.lemmas.Bool.{cond_both, cases_Bool, lt-ltb, ltb-true, ltb-false, not-true}
use Rattle.std.proofs.lemmas.List.Elements.{All-nil, All-cons}
use Rattle.hla_base.specs.declared.content.Event.{Event}
use Rattle.hla_base.specs.declared.number.EventHandle.{EventHandle}
use Rattle.hla_base.specs.Tables.{or_else, upd}
use Rattle.hla_base.specs.Rows.{keep_if, is_pending, row_after_constraint_enabled}
use Rattle.hla_base.specs.declared.row.Role.TheVariants.{Disabled}
use Rattle.hla_machine.specs.declared.service.Service.TheVariants as service
use Rattle.hla_machine.specs.declared.step.Step.TheVariants.{Call, Tick}
use Rattle.hla_machine.specs.Central.{Copy, Tso, demoted_copy}
use Rattle.hla_machine.specs.Callbacks.{AreTso, IsCopy, is_among, with_demoted}
use Rattle.hla_machine.specs.Refusals.{refusal}
use Rattle.hla_component_rules.specs.Queues.{find_event, is_event, occurrences, handle_of, handles_of}
use Rattle.hla_null_message.specs.Wires.{events}
use Rattle.hla_components.specs.Components.{Components}
use Rattle.hla_components.specs.Component.{local_bound}
use Rattle.hla_component_rules.specs.Picking.{PickConstrains, is_below}
use Rattle.hla_components.specs.Next.{components_seen, step_outcome, pick_outcome}
use Rattle.hla_components.specs.CentralOf.{central, bag_of, wire_copy, tso_copy, ro_copy}
use Rattle.hla_components.specs.Invariant.{EachOf, Above, IsTsoQueue, Kept}
use Rattle.hla_components.specs.Headline.{IsKeptStep}
use Rattle.hla_base.proofs.Tables.{by_number, upd_same, upd_other}
use Rattle.hla_components.proofs.Wiring.Keys.{IsInKeyOrder-filter}
use Rattle.hla_components.proofs.Wiring.Queues.{find-none, find-append, find-cons, find-occurs, occurs-cons, occurs-append, occurs-filter, not_in_nil, IsTsoQueue-filter}
use Rattle.hla_components.proofs.Basics.Each.{EachOf-append, EachOf-filter, EachOf-passed, EachOf-weaker, serials-between}
use Rattle.hla_components.proofs.Upkeep.Times.{time_local}
use Rattle.hla_components.proofs.Wiring.Copies.{copies_local}
use Rattle.hla_components.proofs.Upkeep.Objects.{objects_queues}
use Rattle.hla_components.proofs.Upkeep.Bounds.{copy_cases, wire_above, below_bound, tso_of_copy, not_ro_copy}
use Rattle.hla_machine.proofs.Basics.Bags.{bag_ext, central_ext, or_else-none}
use Rattle.hla_components.proofs.Wiring.Bags.{alone_tso, copy_tso, event_self}
use Rattle.hla_machine.proofs.Basics.Tests.{clear_call}
use Rattle.hla_components.proofs.Services.Ticks.{nothing_due}
use Rattle.hla_components.proofs.Services.TimeSteps.{at_rest, idle_last, idle_fresh}

-- ---- what is found after a choice
pub find-filter : (p : Event → Bool) (g m : ℕ) (xs : List Event) → occurrences g m xs ≤ 1 → find_event g m (filter p xs) ≡ keep_if p (find_event g m xs)
unfolding find_event occurrences
find-filter p g m [] h = refl
find-filter p g m (x ∷ xs) h = ⊎_elim
    (λ (y : is_event g m x ≡ true).
    let o : 1 + occurrences g m xs ≤ 1 = rw y at h in
    let none : find_event g m xs ≡ None = find-none g m xs (omega arith) in
    ⊎_elim
    (λ (k : p x ≡ true). rw (y, k) (rw y refl))
    (λ (k : p x ≡ false). rw (y, k) (find-filter p g m xs (omega arith) ∙ ap (keep_if p) none))
    (cases_Bool (p x)))
    (λ (n : is_event g m x ≡ false).
    let o : 0 + occurrences g m xs ≤ 1 = rw n at h in
    ⊎_elim
    (λ (k : p x ≡ true). rw (n, k) (rw n (find-filter p g m xs (omega arith))))
    (λ (k : p x ≡ false). rw (n, k) (find-filter p g m xs (omega arith)))
    (cases_Bool (p x)))
    (cases_Bool (is_event g m x))

pub among_found : (g m : ℕ) (es : List Event) → is_among (handles_of es) g m ≡ is_some (find_event g m es)
unfolding handles_of find_event
among_found g m [] = refl
among_found g m (x ∷ xs) = ⊎_elim
    (λ (y : is_event g m x ≡ true). rw y refl)
    (λ (n : is_event g m x ≡ false). rw n (among_found g m xs))
    (cases_Bool (is_event g m x))

-- each event of a queue is what its key finds
found_later : (x e : Event) (xs : List Event) → occurrences e.sender e.serial (x ∷ xs) ≤ 1 → find_event e.sender e.serial xs ≡ Some e → find_event e.sender e.serial (x ∷ xs) ≡ Some e
found_later x e xs once found = ⊎_elim
    (λ (y : is_event e.sender e.serial x ≡ true). let o : 1 + occurrences e.sender e.serial xs ≤ 1 = rw (occurs-cons, y) at once in absurd (omega (arith, find-occurs e.sender e.serial e xs found)))
    (λ (n : is_event e.sender e.serial x ≡ false). rw (find-cons, n) found)
    (cases_Bool (is_event e.sender e.serial x))

pub fewer_behind : (g m : ℕ) (x : Event) (xs : List Event) → occurrences g m (x ∷ xs) ≤ 1 → occurrences g m xs ≤ 1
fewer_behind g m x xs o = let o2 : cond (is_event g m x) 1 0 + occurrences g m xs ≤ 1 = rw occurs-cons at o in omega arith

pub each_found : (es : List Event) → ((g m : ℕ) → occurrences g m es ≤ 1) → EachOf (λ (e : Event). find_event e.sender e.serial es ≡ Some e) es
each_found [] once = tt
each_found (x ∷ xs) once = (
  rw (find-cons, event_self x) refl,
  EachOf-weaker (λ (e : Event). find_event e.sender e.serial xs ≡ Some e) (λ (e : Event). find_event e.sender e.serial (x ∷ xs) ≡ Some e) xs (λ (e : Event) found. found_later x e xs (once e.sender e.serial) found)
      (each_found xs (λ g m. fewer_behind g m x xs (once g m))),
)

-- ---- the bag
-- what is found on the wire and in the two queues, before and after
demote_merge : (p : Event → Bool) (w q r : Option Event) → ((e : Event) → q ≡ Some e → (e.ordered ≡ true) × (w ≡ None) × (r ≡ None))
    → or_else (option_map wire_copy w) (or_else (option_map tso_copy (keep_if (λ e. not (p e)) q)) (option_map ro_copy (or_else r (keep_if p q))))
    ≡ cond (is_some (keep_if p q)) (option_map demoted_copy (or_else (option_map wire_copy w) (or_else (option_map tso_copy q) (option_map ro_copy r)))) (or_else (option_map wire_copy w) (or_else (option_map tso_copy q) (option_map ro_copy r)))
demote_merge p w None r h = ap (λ o. or_else (option_map wire_copy w) (option_map ro_copy o)) (or_else-none r)
demote_merge p w (Some e) r h = let a = h e refl in ⊎_elim
    (λ (y : p e ≡ true). rw (y, a.1, a.2) (rw a.0 refl))
    (λ (n : p e ≡ false). rw n refl)
    (cases_Bool (p e))

find-ordered : (g m : ℕ) (e : Event) (xs : List Event) → IsTsoQueue xs → find_event g m xs ≡ Some e → e.ordered ≡ true
find-ordered g m e [] h f = absurd (not_in_nil g m f)
find-ordered g m e (x ∷ xs) h f = ⊎_elim
    (λ (y : is_event g m x ≡ true). let same : Some x ≡ Some e = rw (find-cons, y) at f in let x_is : x ≡ e = cc in rw (← x_is) h.0)
    (λ (n : is_event g m x ≡ false). find-ordered g m e xs h.2 (rw (find-cons, n) at f))
    (cases_Bool (is_event g m x))

each_ordered : (xs : List Event) → IsTsoQueue xs → EachOf (λ (e : Event). e.ordered ≡ true) xs
each_ordered [] h = tt
each_ordered (x ∷ xs) h = (h.0, each_ordered xs h.2)

module _ (bag : ℕ → ℕ → ℕ → Option Copy) (f : ℕ) (es : List Event) where
  demoted_here : (g m : ℕ) → with_demoted bag f (handles_of es) g m f ≡ cond (is_some (find_event g m es)) (option_map demoted_copy (bag g m f)) (bag g m f)
  unfolding with_demoted
  demoted_here g m = rw (eq-eqb f f refl, among_found g m es) refl

  demoted_else : (g m l : ℕ) → f ≢ l → with_demoted bag f (handles_of es) g m l ≡ bag g m l
  unfolding with_demoted
  demoted_else g m l ne = rw (ne_eqb f l ne) refl

-- the events that p takes move
module _ (s : Components) (f : ℕ) (kept : Kept s) (p : Event → Bool) (stay go : List Event)
    (stays : (g m : ℕ) → find_event g m stay ≡ keep_if (λ e. not (p e)) (find_event g m (s.tso f))) (goes : (g m : ℕ) → find_event g m go ≡ keep_if p (find_event g m (s.tso f))) where
  pub bag_moved : bag_of (record s { tso = upd s.tso f stay; ro = upd s.ro f (s.ro f ++ go) }) ≡ with_demoted (bag_of s) f (handles_of go)
  bag_moved = bag_ext _ _ (λ g m. by_number f _
      (rw (upd_same, upd_same, demoted_here (bag_of s) f go g m, find-append, stays g m, goes g m)
      (demote_merge p (find_event g m (events (s.wire g f))) (find_event g m (s.tso f)) (find_event g m (s.ro f))
      (λ e is. let a = alone_tso s kept.copies g m f e is in (find-ordered g m e (s.tso f) (kept.time.queues f) is, a.0, a.1))))
      (λ l ne. rw (upd_other, upd_other, demoted_else (bag_of s) f go g m l ne) refl))

  -- each of them is a copy in time-stamp order
  pub moved_tso : (P : ℕ → Type 0) (es : List Event) → EachOf (λ (e : Event). (find_event e.sender e.serial (s.tso f) ≡ Some e) × P e.stamp) es → AreTso (central s) f P (handles_of es)
  unfolding handles_of
  moved_tso P [] h = All-nil _
  moved_tso P (e ∷ es) h = All-cons (λ (x : EventHandle). (k : Copy) × IsCopy (central s) f x k × (k.order ≡ Tso) × P k.stamp) (handle_of e) (handles_of es) (tso_copy e, copy_tso s kept.copies e.sender e.serial f e h.0.0, refl, h.0.1) (moved_tso P es h.1)

pub once_tso : (s : Components) (f : ℕ) → Kept s → (g m : ℕ) → occurrences g m (s.tso f) ≤ 1
once_tso s f kept g m = omega (arith, kept.copies.once g m f)

keep_all : (o : Option Event) → o ≡ keep_if (λ _. true) o
keep_all None = refl
keep_all (Some e) = refl

keep_none : (o : Option Event) → None ≡ keep_if (λ (e : Event). false) o
keep_none None = refl
keep_none (Some e) = refl

nothing_found : (g m : ℕ) → find_event g m [] ≡ None
unfolding find_event
nothing_found g m = refl

nothing_occurs : (g m : ℕ) → occurrences g m [] ≡ 0
unfolding occurrences
nothing_occurs g m = refl

-- ---- constraint is disabled
pub step_cease : (s : Components) (f : ℕ) → Kept s → refusal (components_seen s) (Call f service.DisableTimeConstrained) ≡ None → IsKeptStep s (Call f service.DisableTimeConstrained) (step_outcome s (Call f service.DisableTimeConstrained))
step_cease s f kept none =
    let idle : (s.row f).advance ≡ None = at_rest (s.row f) (clear_call (components_seen s) f service.DisableTimeConstrained none).0 in
    let r = record (s.row f) { constrained = Disabled } in
    let old = kept.time.rows f in
    record {
      kept = record {
        directory = kept.directory;
        wired = kept.wired;
        time = time_local s f r [] kept.time (record {
          queue = tt;
          in_order = tt;
          ahead = λ _. tt;
          same_role = λ e. e;
          promised = λ reg. subst (λ x. s.last_announced f ≤ x) (sym (idle_fresh r [] (local_bound s f) idle)) (idle_last s f kept idle reg);
          barred = λ e. absurd (cc);
          row = record { idle = old.idle; resting = λ e. absurd (cc); asks = old.asks; flushes = old.flushes; barred = λ e. absurd (cc); steady = λ e. absurd (cc) };
        });
        copies = copies_local s f [] (s.ro f ++ s.tso f) kept.copies (λ g m. omega (arith, nothing_occurs g m, occurs-append g m (s.ro f) (s.tso f)))
            (λ g. serials-between g (s.ro f) (s.tso f) (events (s.wire g f)) (each_ordered (s.tso f) (kept.time.queues f)) (kept.copies.serials g f)) (λ _. tt);
        objects = objects_queues s.directory s.wire s.tso s.ro s.controls f [] (s.ro f ++ s.tso f) tt (EachOf-append _ (s.ro f) (s.tso f) (kept.objects.plain f) (kept.objects.ordered f)) kept.objects;
      };
      allowed = (
        none,
        moved_tso s f kept (λ _. true) [] (s.tso f) (λ g m. nothing_found g m ∙ keep_none (find_event g m (s.tso f))) (λ g m. keep_all (find_event g m (s.tso f))) (λ _. Unit {0}) (s.tso f)
            (EachOf-weaker (λ (e : Event). find_event e.sender e.serial (s.tso f) ≡ Some e) (λ (e : Event). (find_event e.sender e.serial (s.tso f) ≡ Some e) × Unit {0}) (s.tso f) (λ (e : Event) h. (h, tt)) (each_found (s.tso f) (once_tso s f kept))),
      );
      follows = central_ext _ _ refl refl refl refl (bag_moved s f kept (λ _. true) [] (s.tso f) (λ g m. nothing_found g m ∙ keep_none (find_event g m (s.tso f))) (λ g m. keep_all (find_event g m (s.tso f))))
          (λ _ _. refl) (λ _ _ _. refl) (λ _ _ _. refl) (λ _. refl);
    }

-- ---- constraint is enabled
Above-kept : (t : ℕ) (xs : List Event) → Above t (filter (λ e. not (is_below t e)) xs)
Above-kept t [] = tt
Above-kept t (x ∷ xs) = cond_both (not (is_below t x)) (x ∷ filter (λ e. not (is_below t e)) xs) (filter (λ e. not (is_below t e)) xs) (Above t) (λ y. (ltb-false x.stamp t (not-true _ y), Above-kept t xs)) (λ _. Above-kept t xs)

pub step_constrains : (s : Components) (f : ℕ) → Kept s → s.directory.joined f ≡ true → s.controls f ≡ [] → refusal (components_seen s) (Tick f) ≡ None
    → (is_pending (s.row f).constrained ≡ true) × (is_pending (s.row f).regulating ≡ false) × ((s.row f).time ≤ local_bound s f) → IsKeptStep s (Tick f) (pick_outcome s f PickConstrains)
step_constrains s f kept member free none facts =
    let t = (s.row f).time in
    let old = kept.time.rows f in
    let idle : (s.row f).advance ≡ None = old.resting facts.0 in
    let stay = filter (λ e. not (is_below t e)) (s.tso f) in
    let go = filter (is_below t) (s.tso f) in
    let stays : (g m : ℕ) → find_event g m stay ≡ keep_if (λ e. not (is_below t e)) (find_event g m (s.tso f)) = λ g m. find-filter (λ e. not (is_below t e)) g m (s.tso f) (once_tso s f kept g m) in
    let goes : (g m : ℕ) → find_event g m go ≡ keep_if (is_below t) (find_event g m (s.tso f)) = λ g m. find-filter (is_below t) g m (s.tso f) (once_tso s f kept g m) in
    let among : (g m : ℕ) (e : Event) → find_event g m (s.tso f) ≡ Some e → e.stamp < t → is_among (handles_of go) g m ≡ true = λ g m e found low. rw (among_found g m go, goes g m, found) (rw (lt-ltb e.stamp t low) refl) in
    record {
      kept = record {
        directory = kept.directory;
        wired = kept.wired;
        time = time_local s f (row_after_constraint_enabled (s.row f)) stay kept.time (record {
          queue = IsTsoQueue-filter _ (s.tso f) (kept.time.queues f);
          in_order = IsInKeyOrder-filter _ (s.tso f) (kept.time.ordered f);
          ahead = λ _. Above-kept t (s.tso f);
          same_role = λ e. e;
          promised = λ reg. subst (λ x. s.last_announced f ≤ x) (sym (idle_fresh (row_after_constraint_enabled (s.row f)) stay (local_bound s f) idle)) (idle_last s f kept idle reg);
          barred = λ _. facts.2;
          row = record { idle = λ _. idle; resting = λ _. idle; asks = old.asks; flushes = old.flushes; barred = λ _. omega arith; steady = λ _ p. let n = facts.1 in absurd (cc) };
        });
        copies = copies_local s f stay (s.ro f ++ go) kept.copies (λ g m. omega (arith, occurs-append g m (s.ro f) go, occurs-filter g m (is_below t) (s.tso f)))
            (λ g. serials-between g (s.ro f) go (events (s.wire g f)) (EachOf-filter _ (is_below t) (s.tso f) (each_ordered (s.tso f) (kept.time.queues f))) (kept.copies.serials g f))
            (λ g. EachOf-filter _ _ (s.tso f) (kept.copies.earlier g f));
        objects = objects_queues s.directory s.wire s.tso s.ro s.controls f stay (s.ro f ++ go) (EachOf-filter _ _ (s.tso f) (kept.objects.ordered f))
            (EachOf-append _ (s.ro f) go (kept.objects.plain f) (EachOf-filter _ (is_below t) (s.tso f) (kept.objects.ordered f))) kept.objects;
      };
      allowed = (
        none,
        (
          (
            refl,
            facts.0,
            facts.1,
            below_bound s f t kept member facts.2,
            (
              moved_tso s f kept (is_below t) stay go stays goes (λ x. x < t) go (both go (EachOf-filter _ (is_below t) (s.tso f) (each_found (s.tso f) (once_tso s f kept))) (EachOf-passed (is_below t) (s.tso f))),
              λ g m k is live tso low. ⊎_elim
                  (λ (w : (e : Event) × (find_event g m (events (s.wire g f)) ≡ Some e) × (wire_copy e ≡ k)).
                  let high = wire_above s g f m w.0 kept w.1 (tso_of_copy w.0 (rw (← w.2) at tso)) in
                  let low2 : w.0.stamp < t = rw (← w.2) at low in absurd (omega (arith, high, low2, facts.2)))
                  (⊎_elim
                  (λ (w : (e : Event) × (find_event g m (s.tso f) ≡ Some e) × (tso_copy e ≡ k)). let low2 : w.0.stamp < t = rw (← w.2) at low in among g m w.0 w.1 low2)
                  (λ (w : (e : Event) × (find_event g m (s.ro f) ≡ Some e) × (ro_copy e ≡ k)). absurd (not_ro_copy w.0 (rw (← w.2) at tso))))
                  (copy_cases g m (s.wire g f) (s.tso f) (s.ro f) k is),
            ),
          ),
          nothing_due s f free,
        ),
      );
      follows = central_ext _ _ refl refl refl refl (bag_moved s f kept (is_below t) stay go stays goes) (λ _ _. refl) (λ _ _ _. refl) (λ _ _ _. refl) (λ _. refl);
    }
  where
    both : (es : List Event) → EachOf (λ (e : Event). find_event e.sender e.serial (s.tso f) ≡ Some e) es → EachOf (λ (e : Event). is_below (s.row f).time e ≡ true) es
        → EachOf (λ (e : Event). (find_event e.sender e.serial (s.tso f) ≡ Some e) × (e.stamp < (s.row f).time)) es
    both [] a b = tt
    both (e ∷ es) a b = ((a.0, ltb-true _ _ b.0), both es a.1 b.1)
