-- Steps of time management: requests, roles and announcements
use Rattle.std.proofs.Common.{◌≡◌, ℕ, ◌+◌, ◌≤◌, max, ltb, not, ◌&&◌, ◌||◌, Bool, true, false, refl, sym, le_trans, ap, subst, arith, List, ◌++◌, Option, Some, None}
use Rattle.std.proofs.lemmas.Bool.{cond_both, and_parts, ltb-true, ltb-false}
use Rattle.hla_base.specs.declared.content.Event.{Event}
use Rattle.hla_base.specs.declared.row.AdvanceKind.{AdvanceKind}
use Rattle.hla_base.specs.declared.row.AdvanceKind.TheVariants as kind
use Rattle.hla_base.specs.declared.row.AdvanceRequest.{AdvanceRequest}
use Rattle.hla_base.specs.declared.row.Role.TheVariants.{Disabled, Pending}
use Rattle.hla_base.specs.declared.row.TimeRow.{TimeRow}
use Rattle.hla_null_message.specs.declared.message.Message.TheVariants as message
use Rattle.hla_base.specs.Tables.{forever, upd, upd_row}
use Rattle.hla_base.specs.Rows.{is_next, is_flush, is_regulator, is_constrained, is_pending, is_none_of, is_advancing, next_request, width, row_after_request}
use Rattle.hla_machine.specs.declared.service.Service.TheVariants as service
use Rattle.hla_machine.specs.declared.step.Step.TheVariants.{Call, Announce}
use Rattle.hla_machine.specs.declared.step.Answer.TheVariants as answer
use Rattle.hla_base.specs.RowRefusals.{request_tests}
use Rattle.hla_machine.specs.Refusals.{refusal}
use Rattle.hla_null_message.specs.Wires.{events, discoveries, retractions, put_behind}
use Rattle.hla_component_rules.specs.Controls.{discoveries_from}
use Rattle.hla_component_rules.specs.Queues.{first_stamp}
use Rattle.hla_components.specs.Components.{Components}
use Rattle.hla_null_message.specs.Promise.{promise_in}
use Rattle.hla_components.specs.Component.{promise, local_bound}
use Rattle.hla_component_rules.specs.Promising.{promise_of}
use Rattle.hla_components.specs.Next.{answer_outcome, components_seen, step_outcome, with_row, with_null_announced}
use Rattle.hla_components.specs.CentralOf.{central}
use Rattle.hla_components.specs.Invariant.{Tells, CopyInv, ObjectInv, Kept}
use Rattle.hla_components.specs.Headline.{IsKeptStep}
use Rattle.hla_base.proofs.Tables.{upd_row_each}
use Rattle.hla_components.proofs.Wiring.Wires.{events-put_null, discoveries-put_null, retractions-put_null}
use Rattle.hla_components.proofs.Upkeep.Times.{KeepsRow, time_row, time_announced}
use Rattle.hla_components.proofs.Upkeep.Epochs.{next_none, time_stops}
use Rattle.hla_components.proofs.Wiring.Copies.{copies_wires}
use Rattle.hla_components.proofs.Upkeep.Objects.{objects_wires, tells_null}
use Rattle.hla_components.proofs.Upkeep.Bounds.{below_out}
use Rattle.hla_machine.proofs.Basics.Bags.{central_ext}
use Rattle.hla_components.proofs.Wiring.Bags.{bag_same_wires}
use Rattle.hla_machine.proofs.Basics.Tests.{AllClear, clear_call, caller_joined, announcer_joined}
use Rattle.hla_components.proofs.Services.Steps.{wired_row}

-- ---- a change of one row alone
pub kept_row : (s : Components) (f : ℕ) (r : TimeRow) → Kept s → KeepsRow s f r (s.tso f) → Kept (with_row s f r)
kept_row s f r kept keeps = record {
  directory = kept.directory;
  wired = kept.wired;
  time = time_row s f r kept.time keeps;
  copies = kept.copies;
  objects = kept.objects;
}

none_from : (o : Option AdvanceRequest) → not (is_none_of o) ≡ false → o ≡ None
none_from None h = refl
none_from (Some q) h = absurd (cc)

pub at_rest : (r : TimeRow) → is_advancing r ≡ false → r.advance ≡ None
at_rest r h = none_from r.advance h

-- an idle federate promises its floor
pub idle_fresh : (r : TimeRow) (tso : List Event) (bound : ℕ) → r.advance ≡ None → promise_of r tso bound ≡ r.floor
idle_fresh r tso bound e = rw (next_none r e) refl

floor_le : (r : TimeRow) (o : Option AdvanceRequest) (queued bound : ℕ) → r.floor ≤ promise_in r o queued bound
floor_le r None queued bound = omega arith
floor_le r (Some x) queued bound = omega arith

-- what an idle regulator announced last is at most its floor
pub idle_last : (s : Components) (f : ℕ) → Kept s → (s.row f).advance ≡ None → is_regulator (s.row f) ≡ true → s.last_announced f ≤ (s.row f).floor
idle_last s f kept idle r = subst (λ x. s.last_announced f ≤ x) (idle_fresh (s.row f) (s.tso f) (local_bound s f) idle) (kept.time.promised f r)

-- ---- requests to advance
asked_is : (k : AdvanceKind) (a : ℕ) (q : AdvanceRequest) → Some (record { kind = k; asked = a }) ≡ Some q → a ≡ q.asked
asked_is k a q e = cc

pub kept_asks : (s : Components) (f : ℕ) (k : AdvanceKind) (a : ℕ) → Kept s → AllClear (request_tests (s.row f) a) → Kept (with_row s f (row_after_request (s.row f) k a))
kept_asks s f k a kept clear =
    let idle : (s.row f).advance ≡ None = at_rest (s.row f) clear.0 in
    let c1 = clear.1 in let c2 = c1.1 in let c3 = c2.1 in let c4 = c3.1 in
    let later : (s.row f).time ≤ a = ltb-false a (s.row f).time c4.0 in
    kept_row s f (row_after_request (s.row f) k a) kept (record {
      queue = kept.time.queues f;
      in_order = kept.time.ordered f;
      ahead = kept.time.ahead f;
      same_role = λ e. e;
      promised = λ r. le_trans (idle_last s f kept idle r)
          (le_trans (cond_both ((is_next k || is_flush k) && is_constrained (s.row f)) (s.row f).floor (max (s.row f).floor (a + width (s.row f).lookahead k)) (λ x. (s.row f).floor ≤ x) (λ _. omega arith) (λ _. omega arith))
          (floor_le (row_after_request (s.row f) k a) _ _ _));
      barred = kept.time.bars f;
      row = record {
        idle = λ e. let n : is_pending (s.row f).regulating ≡ false = c1.0 in absurd (cc);
        resting = λ e. let n : is_pending (s.row f).constrained ≡ false = c2.0 in absurd (cc);
        asks = λ q e. subst (λ x. (s.row f).time ≤ x) (asked_is k a q e) later;
        flushes = λ q t _ e. absurd (cc);
        barred = (kept.time.rows f).barred;
        steady = (kept.time.rows f).steady;
      };
    })

module _ (s : Components) (f time : ℕ) (kept : Kept s) where
  pub step_advance : refusal (components_seen s) (Call f (service.TimeAdvanceRequest time)) ≡ None → IsKeptStep s (Call f (service.TimeAdvanceRequest time)) (step_outcome s (Call f (service.TimeAdvanceRequest time)))
  step_advance none = record { kept = kept_asks s f kind.TimeAdvance time kept (clear_call (components_seen s) f (service.TimeAdvanceRequest time) none); allowed = (none, tt); follows = refl }

  pub step_advance_available : refusal (components_seen s) (Call f (service.TimeAdvanceRequestAvailable time)) ≡ None → IsKeptStep s (Call f (service.TimeAdvanceRequestAvailable time)) (step_outcome s (Call f (service.TimeAdvanceRequestAvailable time)))
  step_advance_available none = record { kept = kept_asks s f kind.TimeAdvanceAvailable time kept (clear_call (components_seen s) f (service.TimeAdvanceRequestAvailable time) none); allowed = (none, tt); follows = refl }

  pub step_next : refusal (components_seen s) (Call f (service.NextEventRequest time)) ≡ None → IsKeptStep s (Call f (service.NextEventRequest time)) (step_outcome s (Call f (service.NextEventRequest time)))
  step_next none = record { kept = kept_asks s f kind.NextEvent time kept (clear_call (components_seen s) f (service.NextEventRequest time) none); allowed = (none, tt); follows = refl }

  pub step_next_available : refusal (components_seen s) (Call f (service.NextEventRequestAvailable time)) ≡ None → IsKeptStep s (Call f (service.NextEventRequestAvailable time)) (step_outcome s (Call f (service.NextEventRequestAvailable time)))
  step_next_available none = record { kept = kept_asks s f kind.NextEventAvailable time kept (clear_call (components_seen s) f (service.NextEventRequestAvailable time) none); allowed = (none, tt); follows = refl }

  pub step_flush : refusal (components_seen s) (Call f (service.FlushQueueRequest time)) ≡ None → IsKeptStep s (Call f (service.FlushQueueRequest time)) (step_outcome s (Call f (service.FlushQueueRequest time)))
  step_flush none = record { kept = kept_asks s f kind.FlushQueue time kept (clear_call (components_seen s) f (service.FlushQueueRequest time) none); allowed = (none, tt); follows = refl }

-- ---- roles, lookahead and delivery
module _ (s : Components) (f : ℕ) (kept : Kept s) where
  pub step_constrain : refusal (components_seen s) (Call f service.EnableTimeConstrained) ≡ None → IsKeptStep s (Call f service.EnableTimeConstrained) (step_outcome s (Call f service.EnableTimeConstrained))
  step_constrain none =
      let idle : (s.row f).advance ≡ None = at_rest (s.row f) (clear_call (components_seen s) f service.EnableTimeConstrained none).0 in
      record {
        kept = kept_row s f (record (s.row f) { constrained = Pending }) kept (record {
          queue = kept.time.queues f;
          in_order = kept.time.ordered f;
          ahead = λ e. absurd (cc);
          same_role = λ e. e;
          promised = λ r. subst (λ x. s.last_announced f ≤ x) (sym (idle_fresh (record (s.row f) { constrained = Pending }) (s.tso f) (local_bound s f) idle)) (idle_last s f kept idle r);
          barred = λ e. absurd (cc);
          row = record {
            idle = λ _. idle;
            resting = λ _. idle;
            asks = (kept.time.rows f).asks;
            flushes = (kept.time.rows f).flushes;
            barred = λ e. absurd (cc);
            steady = λ e. absurd (cc);
          };
        });
        allowed = (none, tt);
        follows = refl;
      }

  pub step_lookahead : (lookahead : ℕ) → refusal (components_seen s) (Call f (service.ModifyLookahead lookahead)) ≡ None → IsKeptStep s (Call f (service.ModifyLookahead lookahead)) (step_outcome s (Call f (service.ModifyLookahead lookahead)))
  step_lookahead lookahead none =
      let clear = clear_call (components_seen s) f (service.ModifyLookahead lookahead) none in
      let c1 = clear.1 in
      let idle : (s.row f).advance ≡ None = at_rest (s.row f) c1.0 in
      record {
        kept = kept_row s f (record (s.row f) { lookahead = lookahead }) kept (record {
          queue = kept.time.queues f;
          in_order = kept.time.ordered f;
          ahead = kept.time.ahead f;
          same_role = λ e. e;
          promised = λ r. subst (λ x. s.last_announced f ≤ x) (sym (idle_fresh (record (s.row f) { lookahead = lookahead }) (s.tso f) (local_bound s f) idle)) (idle_last s f kept idle r);
          barred = kept.time.bars f;
          row = let r = kept.time.rows f in record { idle = r.idle; resting = r.resting; asks = r.asks; flushes = r.flushes; barred = r.barred; steady = r.steady };
        });
        allowed = (none, tt);
        follows = refl;
      }

  kept_asynchronous : (b : Bool) → Kept (with_row s f (record (s.row f) { asynchronous = b }))
  kept_asynchronous b = kept_row s f (record (s.row f) { asynchronous = b }) kept (record {
    queue = kept.time.queues f;
    in_order = kept.time.ordered f;
    ahead = kept.time.ahead f;
    same_role = λ e. e;
    promised = kept.time.promised f;
    barred = kept.time.bars f;
    row = let r = kept.time.rows f in record { idle = r.idle; resting = r.resting; asks = r.asks; flushes = r.flushes; barred = r.barred; steady = r.steady };
  })

  pub step_asynchronous : refusal (components_seen s) (Call f service.EnableAsynchronousDelivery) ≡ None → IsKeptStep s (Call f service.EnableAsynchronousDelivery) (step_outcome s (Call f service.EnableAsynchronousDelivery))
  step_asynchronous none = record { kept = kept_asynchronous true; allowed = (none, tt); follows = refl }

  pub step_synchronous : refusal (components_seen s) (Call f service.DisableAsynchronousDelivery) ≡ None → IsKeptStep s (Call f service.DisableAsynchronousDelivery) (step_outcome s (Call f service.DisableAsynchronousDelivery))
  step_synchronous none = record { kept = kept_asynchronous false; allowed = (none, tt); follows = refl }

-- ---- null messages
module _ (s : Components) (f j v : ℕ) where
  pub null_events : (g k : ℕ) → events (upd_row s.wire s.directory.joined f (λ _. put_behind (message.Null j v)) g k) ≡ events (s.wire g k)
  null_events = upd_row_each s.wire s.directory.joined f (λ _. put_behind (message.Null j v)) (λ g k ms. events ms ≡ events (s.wire g k)) (λ k _. events-put_null j v (s.wire f k)) (λ _ _. refl)

  pub null_discoveries : (g k : ℕ) → discoveries (s.wire g k) ≡ discoveries (upd_row s.wire s.directory.joined f (λ _. put_behind (message.Null j v)) g k)
  null_discoveries = upd_row_each s.wire s.directory.joined f (λ _. put_behind (message.Null j v)) (λ g k ms. discoveries (s.wire g k) ≡ discoveries ms) (λ k _. sym (discoveries-put_null j v (s.wire f k))) (λ _ _. refl)

  pub null_retractions : (g m k : ℕ) → retractions m (upd_row s.wire s.directory.joined f (λ _. put_behind (message.Null j v)) g k) ≡ retractions m (s.wire g k)
  null_retractions g m k = upd_row_each s.wire s.directory.joined f (λ _. put_behind (message.Null j v)) (λ g k ms. retractions m ms ≡ retractions m (s.wire g k)) (λ k _. retractions-put_null j v m (s.wire f k)) (λ _ _. refl) g k

  pub null_tells : Kept s → (g k : ℕ) → Tells s.directory g k (upd_row s.wire s.directory.joined f (λ _. put_behind (message.Null j v)) g k)
  null_tells kept = upd_row_each s.wire s.directory.joined f (λ _. put_behind (message.Null j v)) (Tells s.directory) (λ k _. tells_null s.directory f k (s.wire f k) j v (kept.objects.tells f k)) kept.objects.tells

  pub null_copies : Kept s → CopyInv s.serial (upd_row s.wire s.directory.joined f (λ _. put_behind (message.Null j v))) s.tso s.ro
  null_copies kept = copies_wires s (upd_row s.wire s.directory.joined f (λ _. put_behind (message.Null j v))) null_events kept.copies

  pub null_objects : Kept s → ObjectInv s.directory (upd_row s.wire s.directory.joined f (λ _. put_behind (message.Null j v))) s.tso s.ro s.controls
  null_objects kept = objects_wires s.directory s.wire (upd_row s.wire s.directory.joined f (λ _. put_behind (message.Null j v))) s.tso s.ro s.controls (null_tells kept) null_discoveries kept.objects

  -- the central state doesn't see null messages
  pub null_central : (row : ℕ → TimeRow) → central (record s { row = row; wire = upd_row s.wire s.directory.joined f (λ _. put_behind (message.Null j v)) }) ≡ central (record s { row = row })
  null_central row = central_ext _ _ refl refl refl refl (bag_same_wires s (upd_row s.wire s.directory.joined f (λ _. put_behind (message.Null j v))) null_events)
      (λ g k. ap (λ ds. discoveries_from g (s.controls k) ++ ds) (sym (null_discoveries g k))) null_retractions (λ _ _ _. refl) (λ _. refl)

-- a promise is at least the floor
floor_promised : (r : TimeRow) (o : Option AdvanceRequest) (queued bound : ℕ) → r.floor ≤ promise_in r o queued bound
floor_promised r None queued bound = omega arith
floor_promised r (Some q) queued bound = omega arith

pub step_announce : (s : Components) (f : ℕ) → Kept s → refusal (components_seen s) (Announce f) ≡ None → IsKeptStep s (Announce f) (step_outcome s (Announce f))
step_announce s f kept none = cond_both (is_regulator (s.row f) && ltb (s.last_announced f) (promise s f))
    (answer_outcome (answer.Announced (Some (promise s f))) (with_null_announced s f (promise s f)))
    (answer_outcome (answer.Announced None) s) (IsKeptStep s (Announce f))
    (λ y. let p = and_parts _ _ y in let l = ltb-true _ _ p.1 in record {
      kept = record {
        directory = kept.directory;
        wired = wired_row s f _ kept (announcer_joined (components_seen s) f none);
        time = time_announced s f (promise s f) kept.time (omega arith) (omega arith);
        copies = null_copies s f (s.epoch f) (promise s f) kept;
        objects = null_objects s f (s.epoch f) (promise s f) kept;
      };
      allowed = (none, (p.0, below_out s f (promise s f) kept (omega arith), floor_promised (s.row f) (next_request (s.row f)) (first_stamp (s.tso f)) (local_bound s f)));
      follows = null_central s f (s.epoch f) (promise s f) s.row;
    })
    (λ n. record { kept = kept; allowed = (none, tt); follows = refl })

pub step_stop : (s : Components) (f : ℕ) → Kept s → refusal (components_seen s) (Call f service.DisableTimeRegulation) ≡ None → IsKeptStep s (Call f service.DisableTimeRegulation) (step_outcome s (Call f service.DisableTimeRegulation))
step_stop s f kept none = record {
  kept = record {
    directory = kept.directory;
    wired = wired_row s f _ kept (caller_joined (components_seen s) f service.DisableTimeRegulation none);
    time = time_stops s f kept.time;
    copies = null_copies s f (s.epoch f) forever kept;
    objects = null_objects s f (s.epoch f) forever kept;
  };
  allowed = (none, tt);
  follows = null_central s f (s.epoch f) forever (upd s.row f (record (s.row f) { regulating = Disabled }));
}
