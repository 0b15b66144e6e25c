-- Enabling and disabling time regulation, and retractions, keep what the components know of time
use Rattle.std.proofs.Common.{◌≡◌, ◌≢◌, ℕ, ◌+◌, ◌-◌, ◌≤◌, ◌<◌, min, not, ◌&&◌, Bool, true, false, refl, le_trans, subst, ⊎_elim, arith, List, ◌∷◌, Option, Some, None}
use Rattle.std.proofs.lemmas.Bool.{cases_lt, cond_both, and_parts, and_from, cases_Bool}
use Rattle.hla_base.specs.declared.row.TimeRow.{TimeRow}
use Rattle.hla_base.specs.declared.row.Role.{Role}
use Rattle.hla_base.specs.declared.row.Role.TheVariants.{Disabled, Pending, Enabled}
use Rattle.hla_base.specs.declared.row.AdvanceRequest.{AdvanceRequest}
use Rattle.hla_null_message.specs.declared.message.Message.{Message}
use Rattle.hla_null_message.specs.declared.message.Message.TheVariants as message
use Rattle.hla_base.specs.Tables.{forever, upd, upd_row, upd_column, is_other, least, when}
use Rattle.hla_base.specs.Rows.{is_regulator, is_constrained, is_pending, is_disabled, is_enabled, next_request, width, row_with_entry}
use Rattle.hla_component_rules.specs.Queues.{remove_event}
use Rattle.hla_components.specs.Components.{Components}
use Rattle.hla_null_message.specs.Promise.{promise_in}
use Rattle.hla_components.specs.Component.{local_bound}
use Rattle.hla_component_rules.specs.Promising.{promise_of}
use Rattle.hla_null_message.specs.Wires.{put_behind}
use Rattle.hla_components.specs.Next.{put_retraction, with_regulation_enabled, with_regulation_disabled, with_event_retracted, with_retraction_accepted}
use Rattle.hla_components.specs.Invariant.{Above, IsTsoQueue, IsInKeyOrder, Carries, RowInv, IsTimed, stamps}
use Rattle.hla_components.proofs.Wiring.Keys.{IsInKeyOrder-remove}
use Rattle.hla_components.proofs.Wiring.Queues.{IsTsoQueue-remove, first_stamp-remove, Above-remove}
use Rattle.hla_components.proofs.Wiring.Carries.{Carries-at, Carries-later, Carries-null, Carries-enter, Carries-retract}
use Rattle.hla_components.proofs.Upkeep.Times.{CarriesIn, fresh_in-mono}
use Rattle.hla_base.proofs.Tables.{upd_each, upd_same, upd_other, by_number, upd2_each, upd_row_each, upd_row_here, upd_row_self, upd_row_other, upd_column_here, upd_column_self, upd_column_other, upd_column_each, least_le, le_least, least_le-forever}
use Rattle.hla_retraction.specs.SentEvents.{SentEvent}

-- ---- a federate enables regulation
when_none : (b : Bool) → when {X = AdvanceRequest} b None ≡ None
when_none true = refl
when_none false = refl

pub next_none : (r : TimeRow) → r.advance ≡ None → next_request r ≡ None
next_none r e = rw e (when_none (is_constrained r))

fresh_held : (r : TimeRow) (o : Option AdvanceRequest) (q b d a e : ℕ) → min b e ≤ d → a ≤ promise_in r o q b → ((x : AdvanceRequest) → o ≡ Some x → r.floor < a → a - width r.lookahead x.kind ≤ e) → a ≤ promise_in r o q d
fresh_held r None q b d a e m h held = h
fresh_held r (Some x) q b d a e m h held = ⊎_elim
    (λ (l : r.floor < a). omega (arith, held x refl l))
    (λ (l : a ≤ r.floor). omega arith)
    (cases_lt r.floor a)

enabled_from : (r : Role) → not (is_disabled r) ≡ true → (is_pending r ≡ true → ⊥) → is_enabled r ≡ true
enabled_from Disabled n p = absurd (cc)
enabled_from Pending n p = absurd (p refl)
enabled_from Enabled n p = refl

-- a regulator that waits in a next-event request is no pending one
pub waits_enabled : (r : TimeRow) (q : AdvanceRequest) → RowInv r → is_regulator r ≡ true → next_request r ≡ Some q → is_enabled r.regulating ≡ true
waits_enabled r q inv reg is = enabled_from r.regulating reg (λ (p : is_pending r.regulating ≡ true). let n : next_request r ≡ None = next_none r (inv.idle p) in cc)

-- what the entry keeps
pub record IsEntryKept (s : Components) (f e : ℕ) : Type 0 where
  pub above_bars : (k : ℕ) → s.directory.joined k ≡ true → is_constrained (s.row k) ≡ true → (s.row k).bar ≤ e
  pub above_held : (g : ℕ) → f ≢ g → is_enabled (s.row g).regulating ≡ true → (q : AdvanceRequest) → next_request (s.row g) ≡ Some q → (s.row g).floor < s.last_announced g → s.last_announced g - width (s.row g).lookahead q.kind ≤ e

module _ (s : Components) (f l e : ℕ) (t : IsTimed s) where
  enter_wires : (g k : ℕ) → Carries (is_regulator (upd s.row f (row_with_entry (s.row f) l e) g) && is_other s.directory.joined g k) (upd s.last_announced f e g)
      (upd_column s.known_epoch s.directory.joined f (λ _. s.epoch f + 1) k g) g (stamps s g) (s.serial g) (upd_row s.wire s.directory.joined f (λ _. put_behind (message.Null (s.epoch f + 1) e)) g k) (upd_column s.bound s.directory.joined f (λ b. min b e) k g)
  enter_wires = by_number f _
      (λ k. ⊎_elim
      (λ (other : is_other s.directory.joined f k ≡ true). rw (upd_same, upd_same, upd_column_here, upd_row_here, upd_column_here)
      (Carries-enter _ _ (s.last_announced f) e (s.epoch f) f (stamps s f) (s.serial f) (s.wire f k) (s.bound k f) _ (omega arith) (omega arith) (rw t.epochs at (t.wires f k))))
      (λ (self : is_other s.directory.joined f k ≡ false). rw (upd_same, upd_same, upd_column_self, upd_row_self, upd_column_self, self)
      (Carries-at _ _ (s.last_announced f) e (s.known_epoch k f) f (stamps s f) (s.serial f) (s.wire f k) (s.bound k f) (λ y. absurd (cc)) (t.wires f k)))
      (cases_Bool (is_other s.directory.joined f k)))
      (λ g ne k. rw (upd_other, upd_other, upd_column_other, upd_row_other, upd_column_other) (t.wires g k))

  lowered : (g k : ℕ) → min (s.bound k g) e ≤ upd_column s.bound s.directory.joined f (λ b. min b e) k g
  lowered g k = upd_column_each s.bound s.directory.joined f (λ b. min b e) (λ k g b. min (s.bound k g) e ≤ b) (λ _ _. omega arith) (λ _ _. omega arith) k g

  lower_bound : (k : ℕ) → min (local_bound s k) e ≤ least s.directory.next_federate (upd_column s.bound s.directory.joined f (λ b. min b e) k)
  lower_bound k = le_least s.directory.next_federate _ _ (omega (arith, least_le-forever s.directory.next_federate (s.bound k))) (λ g b. omega (arith, lowered g k, least_le s.directory.next_federate (s.bound k) g b))

  -- a federate that has left sees no new bound
  same_bound : (k : ℕ) → is_other s.directory.joined f k ≡ false → least s.directory.next_federate (s.bound k) ≤ least s.directory.next_federate (upd_column s.bound s.directory.joined f (λ b. min b e) k)
  same_bound k off = le_least s.directory.next_federate _ _ (least_le-forever s.directory.next_federate (s.bound k))
      (by_number f _ (λ b. rw upd_column_self (least_le s.directory.next_federate (s.bound k) f b)) (λ g ne b. rw upd_column_other (least_le s.directory.next_federate (s.bound k) g b)))

  enter_bars : IsEntryKept s f e → s.directory.joined f ≡ true → (k : ℕ) → is_constrained (s.row k) ≡ true → (s.row k).bar ≤ least s.directory.next_federate (upd_column s.bound s.directory.joined f (λ b. min b e) k)
  enter_bars entry member k c = ⊎_elim
      (λ (other : is_other s.directory.joined f k ≡ true). omega (arith, t.bars k c, entry.above_bars k (and_parts _ _ other).1 c, lower_bound k))
      (λ (off : is_other s.directory.joined f k ≡ false). le_trans (t.bars k c) (same_bound k off))
      (cases_Bool (is_other s.directory.joined f k))

  pub time_enters : s.directory.joined f ≡ true → (s.row f).advance ≡ None → is_disabled (s.row f).regulating ≡ true → IsEntryKept s f e → IsTimed (with_regulation_enabled s f l e)
  time_enters member idle was entry = record {
    queues = t.queues;
    ordered = t.ordered;
    ahead = by_number f _ (rw upd_same (t.ahead f)) (λ g ne. rw upd_other (t.ahead g));
    wires = enter_wires;
    epochs = by_number f _ (λ k other. rw (upd_column_here, upd_same) refl) (λ g ne k other. rw (upd_column_other, upd_other) (t.epochs g k other));
    regulators = by_number f _ (λ _. member) (λ g ne. rw upd_other (t.regulators g));
    promised = by_number f _
        (rw (upd_same, upd_same) (λ r. rw (next_none (s.row f) idle) (omega arith)))
        (λ g ne. rw (upd_other, upd_other) (λ r. fresh_held (s.row g) (next_request (s.row g)) _ _ _ _ e (lower_bound g) (t.promised g r)
        (λ x is high. entry.above_held g ne (waits_enabled (s.row g) x (t.rows g) r is) x is high)));
    bars = by_number f _ (rw upd_same (λ c. enter_bars entry member f c)) (λ g ne. rw upd_other (λ c. enter_bars entry member g c));
    rows = upd_each s.row f (row_with_entry (s.row f) l e) (λ _ x. RowInv x) (record {
      idle = λ _. idle;
      resting = λ _. idle;
      asks = (t.rows f).asks;
      flushes = (t.rows f).flushes;
      barred = (t.rows f).barred;
      steady = λ c _. cond_both (is_constrained (s.row f)) (s.row f).time (e - l) (λ x. x ≡ (s.row f).time) (λ _. refl) (λ n. absurd (cc));
    }) (λ g _. t.rows g);
  }

-- ---- a federate promises everything: it does not regulate any more
module _ (s : Components) (f : ℕ) (t : IsTimed s) where
  pub silent : (g k : ℕ) → Carries false forever (s.known_epoch k g) g (stamps s g) (s.serial g) (s.wire g k) (s.bound k g)
  silent g k = Carries-at _ false (s.last_announced g) forever (s.known_epoch k g) g (stamps s g) (s.serial g) (s.wire g k) (s.bound k g) (λ e. absurd (cc)) (t.wires g k)

  pub silent_null : (k : ℕ) → is_other s.directory.joined f k ≡ true → Carries false forever (s.known_epoch k f) f (stamps s f) (s.serial f) (put_behind (message.Null (s.epoch f) forever) (s.wire f k)) (s.bound k f)
  silent_null k other = subst (λ j. Carries false forever (s.known_epoch k f) f (stamps s f) (s.serial f) (put_behind (message.Null j forever) (s.wire f k)) (s.bound k f)) (t.epochs f k other)
      (Carries-null false forever forever (s.known_epoch k f) f (stamps s f) (s.serial f) (s.wire f k) (s.bound k f) (omega arith) (silent f k))

  pub time_stops : IsTimed (with_regulation_disabled s f)
  time_stops = record {
    queues = t.queues;
    ordered = t.ordered;
    ahead = by_number f _ (rw upd_same (t.ahead f)) (λ g ne. rw upd_other (t.ahead g));
    wires = upd_row_each s.wire s.directory.joined f (λ _. put_behind (message.Null (s.epoch f) forever))
        (λ g k ms. Carries (is_regulator (upd s.row f (record (s.row f) { regulating = Disabled }) g) && is_other s.directory.joined g k) (upd s.last_announced f forever g) (s.known_epoch k g) g (stamps s g) (s.serial g) ms (s.bound k g))
        (λ k other. rw (upd_same, upd_same) (silent_null k other))
        (by_number f _ (λ k. rw (upd_same, upd_same) (silent f k)) (λ g ne k. rw (upd_other, upd_other) (t.wires g k)));
    epochs = t.epochs;
    regulators = by_number f _ (rw upd_same (λ e. absurd (cc))) (λ g ne. rw upd_other (t.regulators g));
    promised = by_number f _ (rw upd_same (λ r. absurd (cc))) (λ g ne. rw (upd_other, upd_other) (t.promised g));
    bars = by_number f _ (rw upd_same (t.bars f)) (λ g ne. rw upd_other (t.bars g));
    rows = upd_each s.row f (record (s.row f) { regulating = Disabled }) (λ _ x. RowInv x) (record {
      idle = λ e. absurd (cc);
      resting = (t.rows f).resting;
      asks = (t.rows f).asks;
      flushes = (t.rows f).flushes;
      barred = (t.rows f).barred;
      steady = λ _ e. absurd (cc);
    }) (λ g _. t.rows g);
  }

-- ---- a retraction is put on the wires
module _ (s : Components) (f m : ℕ) where
  retracted_stamps : (g k : ℕ) → stamps s g k ≡ stamps (with_event_retracted s f m) g k
  retracted_stamps = upd2_each s.sent f m (record (s.sent f m) { retracted = true }) (λ g k (x : SentEvent). stamps s g k ≡ x.stamp) refl (λ _ _. refl)

  pub time_retracts : IsTimed s → m < s.serial f → is_regulator (s.row f) ≡ true → s.last_announced f < (s.sent f m).stamp → IsTimed (with_event_retracted s f m)
  time_retracts t old reg high = record {
    queues = t.queues;
    ordered = t.ordered;
    ahead = t.ahead;
    wires = λ g k. Carries-later (is_regulator (s.row g) && is_other s.directory.joined g k) (s.last_announced g) (s.known_epoch k g) g (stamps s g) (stamps (with_event_retracted s f m) g) (s.serial g) (s.serial g)
        (upd_row s.wire s.directory.joined f (put_retraction s.directory f (s.sent f m) m) g k) (s.bound k g) (λ k _. retracted_stamps g k) (omega arith)
        (upd_row_each s.wire s.directory.joined f (put_retraction s.directory f (s.sent f m) m) (CarriesIn s)
        (λ k other. cond_both _ (put_behind (message.Retraction m) (s.wire f k)) (s.wire f k) (CarriesIn s f k)
        (λ _. Carries-retract _ (s.last_announced f) (s.known_epoch k f) f (stamps s f) (s.serial f) (s.wire f k) (s.bound k f) m (and_from _ _ reg other) high old (t.wires f k)) (λ _. t.wires f k))
        t.wires g k);
    epochs = t.epochs;
    regulators = t.regulators;
    promised = t.promised;
    bars = t.bars;
    rows = t.rows;
  }

-- ---- a retraction is carried
pub time_retraction_came : (s : Components) (g f m : ℕ) (ms : List Message) → IsTimed s → s.wire g f ≡ message.Retraction m ∷ ms → IsTimed (with_retraction_accepted s g f m ms)
time_retraction_came s g f m ms t front =
    let at : CarriesIn s g f (message.Retraction m ∷ ms) = rw front at (t.wires g f) in
    let tso = remove_event g m (s.tso f) in
    record {
      queues = upd_each s.tso f tso (λ _ q. IsTsoQueue q) (IsTsoQueue-remove g m (s.tso f) (t.queues f)) (λ h _. t.queues h);
      ordered = upd_each s.tso f tso (λ _ q. IsInKeyOrder q) (IsInKeyOrder-remove g m (s.tso f) (t.ordered f)) (λ h _. t.ordered h);
      ahead = upd_each s.tso f tso (λ h q. is_constrained (s.row h) ≡ true → Above (s.row h).time q) (λ c. Above-remove (s.row f).time g m (s.tso f) (t.ahead f c)) (λ h _. t.ahead h);
      wires = upd2_each s.wire g f ms (CarriesIn s) at.3 t.wires;
      epochs = t.epochs;
      regulators = t.regulators;
      promised = upd_each s.tso f tso (λ h q. is_regulator (s.row h) ≡ true → s.last_announced h ≤ promise_of (s.row h) q (local_bound s h))
          (λ r. le_trans (t.promised f r) (fresh_in-mono (s.row f) (next_request (s.row f)) _ _ _ _ (first_stamp-remove g m (local_bound s f) (s.tso f) (t.queues f) (least_le-forever s.directory.next_federate (s.bound f))) (omega arith)))
          (λ h _. t.promised h);
      bars = t.bars;
      rows = t.rows;
    }
