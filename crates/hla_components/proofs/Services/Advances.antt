-- Ticks that enable regulation, give a message in time-stamp order, or grant an advance
use Rattle.std.proofs.Common.{◌≡◌, ◌⊎◌, ℕ, ◌+◌, ◌≤◌, ◌<◌, min, max, cond, eqb, not, ◌&&◌, Bool, true, false, refl, sym, le_trans, ap, ◌∙◌, inr, subst, ⊎_elim, arith, eqb-true, List, [], ◌∷◌, Option, Some, None, IfSome}
use Rattle.std.proofs.lemmas.Bool.{cond_both, and_parts, cases_Bool}
use Rattle.hla_base.specs.declared.content.Event.{Event}
use Rattle.hla_base.specs.declared.row.AdvanceKind.{AdvanceKind}
use Rattle.hla_base.specs.declared.row.AdvanceKind.TheVariants.{TimeAdvance, TimeAdvanceAvailable, NextEvent, NextEventAvailable, FlushQueue}
use Rattle.hla_base.specs.declared.row.AdvanceRequest.{AdvanceRequest}
use Rattle.hla_base.specs.declared.row.Role.{Role}
use Rattle.hla_base.specs.declared.row.Role.TheVariants.{Disabled, Pending, Enabled}
use Rattle.hla_base.specs.declared.row.TimeRow.{TimeRow}
use Rattle.hla_base.specs.Tables.{upd, or_else, when}
use Rattle.hla_base.specs.Rows.{is_strict, is_next, is_flush, is_constrained, is_disabled, is_pending, next_request, width, keep_if, row_after_regulation_enabled, row_after_pick, row_after_grant, bar_after, least_of, first_or, grant_time, reach}
use Rattle.hla_callbacks.specs.declared.callback.Delivery.TheVariants as delivery
use Rattle.hla_machine.specs.declared.step.Step.TheVariants.{Tick}
use Rattle.hla_machine.specs.declared.step.Choice.TheVariants as choice
use Rattle.hla_machine.specs.Central.{Reached, at_key}
use Rattle.hla_machine.specs.Callbacks.{IsLeastKey, IsFirstOfStamp, MayPick, MayGrantFlush, row_after, after_delivery}
use Rattle.hla_machine.specs.Callbacks as machine
use Rattle.hla_machine.specs.Refusals.{refusal}
use Rattle.hla_component_rules.specs.Queues.{find_event, is_event, handle_of, first_stamp}
use Rattle.hla_null_message.specs.Wires.{events, retractions}
use Rattle.hla_components.specs.Components.{Components}
use Rattle.hla_null_message.specs.Promise.{promise_in}
use Rattle.hla_components.specs.Component.{local_bound}
use Rattle.hla_component_rules.specs.Picking.{is_first_fit, PickRegulates, PickTso, PickGrant}
use Rattle.hla_components.specs.Next.{components_seen, pick_outcome}
use Rattle.hla_components.specs.CentralOf.{central, bag_of, wire_copy, tso_copy, ro_copy}
use Rattle.hla_components.specs.Invariant.{EachOf, Above, IsTsoQueue, IsInKeyOrder, AreEarlier, IsWaiting, CopyInv, ObjectInv, is_wire, stamps, Kept}
use Rattle.hla_machine.specs.CentralInvariant.{CentralInv}
use Rattle.hla_components.specs.Headline.{IsKeptStep}
use Rattle.hla_base.proofs.Tables.{upd_self, least_le, least_le-forever}
use Rattle.hla_machine.proofs.Basics.GrantCases.{grant_by_cases}
use Rattle.hla_components.proofs.Wiring.Keys.{find-key_order}
use Rattle.hla_components.proofs.Wiring.Queues.{Above-weaker, find-key, find-cons, occurs-cons, first_rest}
use Rattle.hla_components.proofs.Wiring.Wires.{retractions-nil}
use Rattle.hla_components.proofs.Wiring.Carries.{Carries-retraction}
use Rattle.hla_components.proofs.Upkeep.Times.{KeepsRow, time_local, time_le_bound}
use Rattle.hla_components.proofs.Basics.Each.{EachOf-find}
use Rattle.hla_components.proofs.Wiring.Copies.{copies_local}
use Rattle.hla_components.proofs.Upkeep.Objects.{objects_queues}
use Rattle.hla_components.proofs.Upkeep.Bounds.{below_all, below_bound, copy_cases, wire_above, wire_from, tso_of_copy, not_ro_copy}
use Rattle.hla_machine.proofs.Basics.Bags.{central_ext}
use Rattle.hla_components.proofs.Wiring.Bags.{copy_tso, find_first, bag_tso_picked}
use Rattle.hla_components.proofs.Refinement.Picks.{TsoFacts, GrantFacts}
use Rattle.hla_components.proofs.Services.Ticks.{nothing_due, discovered, may_give, after_give}
use Rattle.hla_components.proofs.Services.TimeSteps.{kept_row, idle_fresh}

row_after_is : (r : TimeRow) (o : Option AdvanceRequest) (q : AdvanceRequest) (step : AdvanceRequest → TimeRow) → o ≡ Some q → row_after r o step ≡ step q
row_after_is r o q step e = rw e refl

-- ---- regulation is enabled
pending_regulator : (r : Role) → is_pending r ≡ true → not (is_disabled r) ≡ true
pending_regulator Disabled e = absurd (cc)
pending_regulator Pending e = refl
pending_regulator Enabled e = absurd (cc)

pub step_regulates : (s : Components) (f : ℕ) → Kept s → s.controls f ≡ [] → refusal (components_seen s) (Tick f) ≡ None → is_pending (s.row f).regulating ≡ true → IsKeptStep s (Tick f) (pick_outcome s f PickRegulates)
step_regulates s f kept free none was =
    let old = kept.time.rows f in
    let idle : (s.row f).advance ≡ None = old.idle was in
    record {
      kept = kept_row s f (row_after_regulation_enabled (s.row f)) kept (record {
        queue = kept.time.queues f;
        in_order = kept.time.ordered f;
        ahead = λ c. subst (λ t. Above t (s.tso f)) (sym (old.steady c was)) (kept.time.ahead f c);
        same_role = λ _. pending_regulator (s.row f).regulating was;
        promised = λ _. kept.time.promised f (pending_regulator (s.row f).regulating was);
        barred = kept.time.bars f;
        row = record {
          idle = λ e. absurd (cc);
          resting = old.resting;
          asks = λ q e. absurd (cc);
          flushes = λ q t e _. absurd (cc);
          barred = λ c. omega (arith, old.steady c was, old.barred c);
          steady = λ _ e. absurd (cc);
        };
      });
      allowed = (none, ((was, refl), nothing_due s f free));
      follows = refl;
    }

-- ---- grants
next_not_flush : (k : AdvanceKind) → is_next k ≡ true → is_flush k ≡ false
next_not_flush TimeAdvance e = refl
next_not_flush TimeAdvanceAvailable e = refl
next_not_flush NextEvent e = refl
next_not_flush NextEventAvailable e = refl
next_not_flush FlushQueue e = absurd (cc)

flush_not_strict : (k : AdvanceKind) → is_flush k ≡ true → is_strict k ≡ false
flush_not_strict TimeAdvance e = absurd (cc)
flush_not_strict TimeAdvanceAvailable e = refl
flush_not_strict NextEvent e = absurd (cc)
flush_not_strict NextEventAvailable e = refl
flush_not_strict FlushQueue e = refl

le_reach : (k : AdvanceKind) (t : ℕ) → t ≤ reach k t
le_reach k t = cond_both (is_strict k) (t + 1) t (λ x. t ≤ x) (λ _. omega arith) (λ _. omega arith)

Above-first : (t : ℕ) (xs : List Event) → IsTsoQueue xs → t ≤ first_stamp xs → Above t xs
Above-first t [] h l = tt
Above-first t (x ∷ xs) h l = (l, Above-weaker x.stamp t xs l h.1)

-- a promise is at most the floor after the grant
grant_floor : (r : TimeRow) (b : Bool) (q : AdvanceRequest) (queued bound t : ℕ) → (b ≡ true → is_next q.kind ≡ true → first_or r.first_pick q.asked ≤ t)
    → promise_in r (when b (keep_if (λ q. is_next q.kind) (Some q))) queued bound ≤ max r.floor (t + width r.lookahead q.kind)
grant_floor r false q queued bound t h = omega arith
grant_floor r true q queued bound t h = ⊎_elim
    (λ (y : is_next q.kind ≡ true). rw y (omega (arith, h refl y)))
    (λ (n : is_next q.kind ≡ false). rw n (omega arith))
    (cases_Bool (is_next q.kind))

flush_le : (first : ℕ) (o : Option ℕ) → least_of first o ≤ first
flush_le first None = omega arith
flush_le first (Some t) = omega arith

flush_ge : (first : ℕ) (o : Option ℕ) (x : ℕ) → x ≤ first → ((t : ℕ) → o ≡ Some t → x ≤ t) → x ≤ least_of first o
flush_ge first None x a b = a
flush_ge first (Some t) x a b = omega (arith, b t refl)

-- a flush is granted no less where its bound is no less
flush_least : (a b : ℕ) (o : Option ℕ) → a ≤ b → least_of a o ≤ least_of b o
flush_least a b None h = h
flush_least a b (Some t) h = omega arith

flush_below : (first : ℕ) (o : Option ℕ) (t : ℕ) → t ≡ least_of first o → IfSome o (λ s. t ≤ s)
flush_below first None t e = tt
flush_below first (Some x) t e = omega arith

module _ (s : Components) (f : ℕ) (q : AdvanceRequest) (t : ℕ) (kept : Kept s) (facts : GrantFacts (s.row f) (s.tso f) (local_bound s f) q t) where
  -- the reach of the grant of a constrained federate is within its bound, and nothing waits before it
  grant_reach : is_constrained (s.row f) ≡ true → (reach q.kind t ≤ local_bound s f) × (t ≤ first_stamp (s.tso f))
  grant_reach c = ⊎_elim
      (λ (y : is_flush q.kind ≡ true). let e = facts.flushed c y in
      let low : t ≤ local_bound s f = omega (arith, e.1, flush_le (min q.asked (local_bound s f)) (s.row f).flushed) in
      (rw (flush_not_strict q.kind y) low, subst (λ es. t ≤ first_stamp es) (sym e.0) (le_trans low (least_le-forever s.directory.next_federate (s.bound f)))))
      (λ (n : is_flush q.kind ≡ false). let e = facts.reached c n in (e.1, le_trans (le_reach q.kind t) e.2))
      (cases_Bool (is_flush q.kind))

  first_le : is_constrained (s.row f) ≡ true → is_next q.kind ≡ true → first_or (s.row f).first_pick q.asked ≤ t
  first_le c y = let e = facts.reached c (next_not_flush q.kind y) in
      let same : t ≡ cond (is_next q.kind && is_constrained (s.row f)) (first_or (s.row f).first_pick q.asked) q.asked = e.0 in
      let at : t ≡ first_or (s.row f).first_pick q.asked = rw (y, c) at same in omega arith

  grant_flush : s.directory.joined f ≡ true → is_constrained (s.row f) ≡ true → is_flush q.kind ≡ true → MayGrantFlush (central s) f q t
  grant_flush member c y =
      let e = facts.flushed c y in
      let row = kept.time.rows f in
      let reached = grant_reach c in
      let low : t ≤ local_bound s f = le_trans (le_reach q.kind t) reached.0 in (
        subst (λ x. (s.row f).time ≤ x) (sym e.1) (flush_ge (min q.asked (local_bound s f)) (s.row f).flushed (s.row f).time (omega (arith, row.asks q facts.asks, time_le_bound s f kept.time c)) (λ x is. row.flushes q x facts.asks is)),
        omega (arith, e.1, flush_le (min q.asked (local_bound s f)) (s.row f).flushed),
        flush_below (min q.asked (local_bound s f)) (s.row f).flushed t e.1,
        below_bound s f t kept member low,
        below_all s f t kept reached.1 low,
        subst (λ x. least_of (min q.asked (s.row f).bar) (s.row f).flushed ≤ x) (sym e.1) (flush_least (min q.asked (s.row f).bar) (min q.asked (local_bound s f)) (s.row f).flushed (omega (arith, kept.time.bars f c))),
      )

  grant_plain : s.directory.joined f ≡ true → is_constrained (s.row f) ≡ true → is_flush q.kind ≡ false → (t ≡ grant_time (s.row f) q) × Reached (central s) f q.kind t
  grant_plain member c n = let e = facts.reached c n in (e.0, (below_bound s f (reach q.kind t) kept member e.1, below_all s f (reach q.kind t) kept e.2 e.1))

  pub step_grant : s.directory.joined f ≡ true → s.controls f ≡ [] → refusal (components_seen s) (Tick f) ≡ None → IsKeptStep s (Tick f) (pick_outcome s f (PickGrant q t))
  step_grant member free none =
      let r = row_after_grant (s.row f) q t in
      let old = kept.time.rows f in
      record {
        kept = kept_row s f r kept (record {
          queue = kept.time.queues f;
          in_order = kept.time.ordered f;
          ahead = λ c. Above-first t (s.tso f) (kept.time.queues f) (grant_reach c).1;
          same_role = λ e. e;
          promised = λ reg. subst (λ x. s.last_announced f ≤ x) (sym (idle_fresh r (s.tso f) (local_bound s f) refl))
              (le_trans (kept.time.promised f reg) (rw facts.asks (grant_floor (s.row f) (is_constrained (s.row f)) q (first_stamp (s.tso f)) (local_bound s f) t first_le)));
          barred = λ c. cond_both (is_constrained (s.row f)) (bar_after (s.row f) q.kind t) (s.row f).bar (λ x. x ≤ local_bound s f) (λ _. omega (arith, kept.time.bars f c, (grant_reach c).0)) (λ _. kept.time.bars f c);
          row = record {
            idle = λ _. refl;
            resting = λ _. refl;
            asks = λ p e. absurd (cc);
            flushes = λ p x e. absurd (cc);
            barred = λ c. cond_both (is_constrained (s.row f)) (bar_after (s.row f) q.kind t) (s.row f).bar (λ x. t ≤ x) (λ _. omega (arith, le_reach q.kind t)) (λ n. absurd (cc));
            steady = λ _ p. let e = old.idle p in let e2 = facts.asks in absurd (cc);
          };
        });
        allowed = (none, ((q, facts.asks, grant_by_cases (central s) f q t (grant_flush member) (grant_plain member) facts.free), nothing_due s f free));
        follows = ap (λ (r : TimeRow). machine.with_central_row (central s) f r) (sym (row_after_is (s.row f) (s.row f).advance q (λ q. row_after_grant (s.row f) q t) facts.asks));
      }

-- ---- a message in time-stamp order
pick_fresh : (r : TimeRow) (k : AdvanceRequest) (o : Option AdvanceRequest) (s p bound : ℕ) → min s bound ≤ p → promise_in r o s bound ≤ promise_in (row_after_pick r k s) o p bound
pick_fresh r k None s p bound h = omega arith
pick_fresh r k (Some x) s p bound h = cond_both (is_flush k.kind) r.first_pick (or_else r.first_pick (Some s))
    (λ first. max r.floor (min (first_or r.first_pick x.asked) (min x.asked (min s bound)) + width r.lookahead x.kind) ≤ max r.floor (min (first_or first x.asked) (min x.asked (min p bound)) + width r.lookahead x.kind))
    (λ _. omega arith) (λ _. first r.first_pick)
  where
    first : (o : Option ℕ) → max r.floor (min (first_or o x.asked) (min x.asked (min s bound)) + width r.lookahead x.kind) ≤ max r.floor (min (first_or (or_else o (Some s)) x.asked) (min x.asked (min p bound)) + width r.lookahead x.kind)
    first None = omega arith
    first (Some a) = omega arith

fits_tells : (k : AdvanceKind) (first : Option ℕ) (s : ℕ) → is_first_fit k first s ≡ true → is_next k ≡ true → IfSome first (λ p. s ≡ p)
fits_tells k None s h n = tt
fits_tells k (Some p) s h n = let h2 : eqb s p ≡ true = rw n at h in eqb-true s p h2

flushed_above : (t s : ℕ) (o : Option ℕ) (x : ℕ) → t ≤ s → ((y : ℕ) → o ≡ Some y → t ≤ y) → Some (least_of s o) ≡ Some x → t ≤ x
flushed_above t s o x a b e = let same : least_of s o ≡ x = cc in subst (λ x. t ≤ x) same (flush_ge s o t a b)

module _ (s : Components) (f : ℕ) (q : AdvanceRequest) (e : Event) (rest : List Event) (kept : Kept s) (facts : TsoFacts (s.row f) (s.tso f) (local_bound s f) q e rest) where
  copy_here : bag_of s e.sender e.serial f ≡ Some (tso_copy e)
  copy_here = copy_tso s kept.copies e.sender e.serial f e (find_first e (s.tso f) rest facts.front)

  sorted : IsTsoQueue (e ∷ rest)
  sorted = rw facts.front at (kept.time.queues f)

  in_order : IsInKeyOrder (e ∷ rest)
  in_order = rw facts.front at (kept.time.ordered f)

  ahead : Above (s.row f).time (e ∷ rest)
  ahead = rw facts.front at (kept.time.ahead f facts.constrained)

  -- what is picked at or below the bound is not retracted: its retraction would lie on a wire above the bound
  live : CentralInv (central s) → e.stamp ≤ local_bound s f → (s.sent e.sender e.serial).retracted ≡ false
  live laws low = ⊎_elim
      (λ (y : (s.sent e.sender e.serial).retracted ≡ true).
      let owed = laws.followed e.sender e.serial f (tso_copy e) copy_here y in
      let high = Carries-retraction _ (s.last_announced e.sender) (s.known_epoch f e.sender) e.sender (stamps s e.sender) (s.serial e.sender) (s.wire e.sender f) (s.bound f e.sender) e.serial (kept.time.wires e.sender f) owed in
      let same = laws.stamped e.sender e.serial f (tso_copy e) copy_here (laws.marked e.sender e.serial y) refl in
      absurd (omega (arith, high, least_le s.directory.next_federate (s.bound f) e.sender (owed_from owed), same)))
      (λ n. n)
      (cases_Bool (s.sent e.sender e.serial).retracted)
    where
      -- a wire with a retraction comes from one that joined once
      owed_from : 1 ≤ retractions e.serial (s.wire e.sender f) → e.sender < s.directory.next_federate
      owed_from owed = ⊎_elim
          (λ (y : is_wire s.directory e.sender f ≡ true). wire_from s e.sender f y)
          (λ (n : is_wire s.directory e.sender f ≡ false).
          let o : 1 ≤ 0 = rw (kept.wired e.sender f n, retractions-nil) at owed in absurd (omega arith))
          (cases_Bool (is_wire s.directory e.sender f))

  -- at equal stamps what waits in key order has a key that is no smaller
  queued_after : (h n : ℕ) (x : Event) → find_event h n (s.tso f) ≡ Some x → x.stamp ≡ e.stamp → (e.sender < h) ⊎ ((e.sender ≡ h) × (e.serial ≤ n))
  queued_after h n x is same =
      let found : cond (is_event h n e) (Some e) (find_event h n rest) ≡ Some x = rw (facts.front, find-cons) at is in
      ⊎_elim
      (λ (y : is_event h n e ≡ true). let p = and_parts _ _ y in inr (sym (eqb-true h e.sender p.0), omega (arith, eqb-true n e.serial p.1)))
      (λ (o : is_event h n e ≡ false). find-key_order h n e x rest in_order.0 (rw o at found) same)
      (cases_Bool (is_event h n e))

  -- at equal stamps a strict pick takes the least key: what lies on a wire has a larger stamp
  strict_key : reach q.kind e.stamp ≤ local_bound s f → IsLeastKey (central s) f q (handle_of e) e.stamp
  strict_key low strict h n k is live tso same =
      let below : e.stamp + 1 ≤ local_bound s f = rw strict at low in
      ⊎_elim
      (λ (w : (x : Event) × (find_event h n (events (s.wire h f)) ≡ Some x) × (wire_copy x ≡ k)).
      let high = wire_above s h f n w.0 kept w.1 (tso_of_copy w.0 (rw (← w.2) at tso)) in
      let same2 : w.0.stamp ≡ e.stamp = rw (← w.2) at same in
      absurd (omega (arith, high)))
      (⊎_elim
      (λ (w : (x : Event) × (find_event h n (s.tso f) ≡ Some x) × (tso_copy x ≡ k)).
      queued_after h n w.0 w.1 (rw (← w.2) at same))
      (λ (w : (x : Event) × (find_event h n (s.ro f) ≡ Some x) × (ro_copy x ≡ k)). absurd (not_ro_copy w.0 (rw (← w.2) at tso))))
      (copy_cases h n (s.wire h f) (s.tso f) (s.ro f) k is)

  -- what its sender sent before it, with its stamp, waits no more: it would have come before it, and stand before it in the order of keys
  first_of_stamp : IsFirstOfStamp (central s) f (handle_of e) e.stamp
  first_of_stamp n k low is tso same =
      let at : AreEarlier e.sender (events (s.wire e.sender f)) (e ∷ rest) = rw facts.front at (kept.copies.earlier e.sender f) in
      ⊎_elim
      (λ (w : (x : Event) × (find_event e.sender n (events (s.wire e.sender f)) ≡ Some x) × (wire_copy x ≡ k)).
      let key = find-key e.sender n w.0 (events (s.wire e.sender f)) w.1 in
      let up = EachOf-find _ e.sender n w.0 (events (s.wire e.sender f)) w.1 (at.0 refl) key.0 in
      omega (arith, key.1))
      (⊎_elim
      (λ (w : (x : Event) × (find_event e.sender n (s.tso f) ≡ Some x) × (tso_copy x ≡ k)).
      ⊎_elim (λ (l : e.sender < e.sender). omega arith) (λ (p : (e.sender ≡ e.sender) × (e.serial ≤ n)). omega (arith, p.1)) (queued_after e.sender n w.0 w.1 (rw (← w.2) at same)))
      (λ (w : (x : Event) × (find_event e.sender n (s.ro f) ≡ Some x) × (ro_copy x ≡ k)). absurd (not_ro_copy w.0 (rw (← w.2) at tso))))
      (copy_cases e.sender n (s.wire e.sender f) (s.tso f) (s.ro f) k is)

  picks_plain : CentralInv (central s) → s.directory.joined f ≡ true → is_flush q.kind ≡ false → MayPick (central s) f q (handle_of e) e.stamp
  picks_plain laws member n =
      let fits = facts.fits n in
      let low : e.stamp ≤ local_bound s f = le_trans (le_reach q.kind e.stamp) fits.1 in
      record {
        unretracted = live laws low;
        asked = fits.0;
        bound = below_bound s f (reach q.kind e.stamp) kept member fits.1;
        first = below_all s f e.stamp kept (rw facts.front (omega arith)) low;
        at_first_pick = fits_tells q.kind (s.row f).first_pick e.stamp fits.2;
        least_key = strict_key fits.1;
      }

  tso_row : KeepsRow s f (row_after_pick (s.row f) q e.stamp) rest
  tso_row =
      let old = kept.time.rows f in
      record {
        queue = sorted.2;
        in_order = in_order.1;
        ahead = λ _. ahead.1;
        same_role = λ e. e;
        promised = λ reg. let last_announced : s.last_announced f ≤ promise_in (s.row f) (next_request (s.row f)) e.stamp (local_bound s f) = rw facts.front at (kept.time.promised f reg) in
            le_trans last_announced (pick_fresh (s.row f) q (next_request (s.row f)) e.stamp (first_stamp rest) (local_bound s f) (first_rest e.stamp (local_bound s f) rest sorted.1 (least_le-forever s.directory.next_federate (s.bound f))));
        barred = λ c. cond_both (is_flush q.kind) (s.row f).bar (bar_after (s.row f) q.kind e.stamp) (λ x. x ≤ local_bound s f) (λ _. kept.time.bars f c) (λ n. omega (arith, kept.time.bars f c, (facts.fits n).1));
        row = record {
          idle = old.idle;
          resting = old.resting;
          asks = old.asks;
          flushes = λ p t asks. cond_both (is_flush q.kind) (Some (least_of e.stamp (s.row f).flushed)) (s.row f).flushed (λ o. o ≡ Some t → (s.row f).time ≤ t)
              (λ _ is. flushed_above (s.row f).time e.stamp (s.row f).flushed t ahead.0 (λ y i. old.flushes p y asks i) is) (λ _ is. old.flushes p t asks is);
          barred = λ c. cond_both (is_flush q.kind) (s.row f).bar (bar_after (s.row f) q.kind e.stamp) (λ x. (s.row f).time ≤ x) (λ _. old.barred c) (λ _. omega (arith, old.barred c));
          steady = old.steady;
        };
      }

  told : IsWaiting s.directory s.wire f e
  told = let at : EachOf (IsWaiting s.directory s.wire f) (e ∷ rest) = rw facts.front at (kept.objects.ordered f) in at.0

  tso_kept : Kept (record s { row = upd s.row f (row_after_pick (s.row f) q e.stamp); tso = upd s.tso f rest })
  tso_kept = record {
    directory = kept.directory;
    wired = kept.wired;
    time = time_local s f (row_after_pick (s.row f) q e.stamp) rest kept.time tso_row;
    copies = subst (λ (o : ℕ → List Event). CopyInv s.serial s.wire (upd s.tso f rest) o) (upd_self s.ro f) (copies_local s f rest (s.ro f) kept.copies (λ g m. rw (facts.front, occurs-cons) (omega arith)) (λ g. kept.copies.serials g f)
        (λ g. let at : AreEarlier g (events (s.wire g f)) (e ∷ rest) = rw facts.front at (kept.copies.earlier g f) in at.1));
    objects = subst (λ (o : ℕ → List Event). ObjectInv s.directory s.wire (upd s.tso f rest) o s.controls) (upd_self s.ro f) (objects_queues s.directory s.wire s.tso s.ro s.controls f rest (s.ro f)
        (let at : EachOf (IsWaiting s.directory s.wire f) (e ∷ rest) = rw facts.front at (kept.objects.ordered f) in at.1) (kept.objects.plain f) kept.objects);
  }

  pub step_tso : CentralInv (central s) → s.directory.joined f ≡ true → s.controls f ≡ [] → refusal (components_seen s) (Tick f) ≡ None → IsKeptStep s (Tick f) (pick_outcome s f (PickTso q e rest))
  step_tso laws member free none = record {
    kept = tso_kept;
    allowed = (none, may_give (central s) f (delivery.TimeStamp e.stamp) (handle_of e) e.content choice.None (facts.constrained, discovered s f kept free e told, copy_here, (q, facts.asks, ((λ _. ahead.0), picks_plain laws member)), first_of_stamp) (nothing_due s f free));
    follows = central_ext _ (after_delivery (central s) f (handle_of e) (delivery.TimeStamp e.stamp)) refl
        (ap (λ (r : TimeRow). upd s.row f r) (sym (row_after_is (s.row f) (s.row f).advance q (λ q. row_after_pick (s.row f) q e.stamp) facts.asks))) refl refl
        (subst (λ (o : ℕ → List Event). bag_of (record s { tso = upd s.tso f rest; ro = o }) ≡ at_key (bag_of s) e.sender e.serial f None) (upd_self s.ro f) (bag_tso_picked s f e rest kept.copies facts.front))
        (λ _ _. refl) (λ _ _ _. refl) (λ _ _ _. refl) (λ _. refl)
        ∙ after_give (central s) f (delivery.TimeStamp e.stamp) (handle_of e) e.content choice.None;
  }
