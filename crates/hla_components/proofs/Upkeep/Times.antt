-- What the components know of time is kept by each change: rows, queues, what is sent, and what arrives
use Rattle.std.proofs.Common.{◌≡◌, ◌≢◌, ◌⊎◌, ℕ, ◌+◌, ◌≤◌, ◌<◌, min, cond, eqb, ◌&&◌, true, refl, le_trans, inl, inr, subst, arith, List, ◌∷◌, Option, Some, None}
use Rattle.std.proofs.lemmas.Bool.{cond_both, and_parts, and_from}
use Rattle.hla_base.specs.declared.content.Content.{Content}
use Rattle.hla_base.specs.declared.content.Event.{Event}
use Rattle.hla_base.specs.declared.content.Discovery.{Discovery}
use Rattle.hla_base.specs.declared.row.TimeRow.{TimeRow}
use Rattle.hla_base.specs.declared.row.AdvanceRequest.{AdvanceRequest}
use Rattle.hla_null_message.specs.declared.message.Message.{Message}
use Rattle.hla_null_message.specs.declared.message.Message.TheVariants as message
use Rattle.hla_base.specs.Tables.{upd, upd2, upd_row, is_other, least}
use Rattle.hla_base.specs.Rows.{is_regulator, is_constrained, next_request}
use Rattle.hla_machine.specs.Directory.{Outgoing, content_for}
use Rattle.hla_machine.specs.Sends.{is_ordered, kept_stamp, sent_event}
use Rattle.hla_component_rules.specs.Queues.{insert_event, first_stamp}
use Rattle.hla_components.specs.Components.{Components}
use Rattle.hla_null_message.specs.Promise.{promise_in}
use Rattle.hla_components.specs.Component.{promise, local_bound}
use Rattle.hla_component_rules.specs.Promising.{promise_of}
use Rattle.hla_lbts.specs.Peers.{null_bound}
use Rattle.hla_null_message.specs.Wires.{put_behind}
use Rattle.hla_components.specs.Next.{put_event, event_of, with_message_sent, with_null_announced, with_null_accepted, with_event_accepted, with_discovery_accepted}
use Rattle.hla_component_rules.specs.Arriving.{is_kept_in_order}
use Rattle.hla_components.specs.Invariant.{Above, IsTsoQueue, IsInKeyOrder, Carries, RowInv, IsTimed, stamps}
use Rattle.hla_components.proofs.Wiring.Keys.{IsInKeyOrder-insert}
use Rattle.hla_components.proofs.Wiring.Queues.{Above-insert, IsTsoQueue-insert, first_stamp-insert}
use Rattle.hla_components.proofs.Wiring.Carries.{raised_ge, Carries-at, Carries-later, Carries-send, Carries-null}
use Rattle.hla_base.proofs.Tables.{upd_each, upd_same, upd_other, by_number, by_pair, upd_self, upd2_same, upd2_other, upd2_each, upd_row_each, least-mono, least_le}

-- ---- a change of one component alone
pub record KeepsRow (s : Components) (f : ℕ) (r : TimeRow) (tso : List Event) : Type 0 where
  pub queue : IsTsoQueue tso
  pub in_order : IsInKeyOrder tso
  pub ahead : is_constrained r ≡ true → Above r.time tso
  pub same_role : is_regulator r ≡ true → is_regulator (s.row f) ≡ true
  pub promised : is_regulator r ≡ true → s.last_announced f ≤ promise_of r tso (local_bound s f)
  pub barred : is_constrained r ≡ true → r.bar ≤ local_bound s f
  pub row : RowInv r

role_kept : (s : Components) (f : ℕ) (r : TimeRow) → (is_regulator r ≡ true → is_regulator (s.row f) ≡ true) → (g : ℕ) → is_regulator (upd s.row f r g) ≡ true → is_regulator (s.row g) ≡ true
role_kept s f r same = upd_each s.row f r (λ g x. is_regulator x ≡ true → is_regulator (s.row g) ≡ true) same (λ _ _ e. e)

pub time_local : (s : Components) (f : ℕ) (r : TimeRow) (tso : List Event) → IsTimed s → KeepsRow s f r tso → IsTimed (record s { row = upd s.row f r; tso = upd s.tso f tso })
time_local s f r tso t keeps = record {
  queues = upd_each s.tso f tso (λ _ q. IsTsoQueue q) keeps.queue (λ g _. t.queues g);
  ordered = upd_each s.tso f tso (λ _ q. IsInKeyOrder q) keeps.in_order (λ g _. t.ordered g);
  ahead = by_number f _ (rw (upd_same, upd_same) keeps.ahead) (λ g ne. rw (upd_other, upd_other) (t.ahead g));
  wires = λ g k. Carries-at _ _ (s.last_announced g) (s.last_announced g) (s.known_epoch k g) g (stamps s g) (s.serial g) (s.wire g k) (s.bound k g)
      (λ e. let p = and_parts _ _ e in (and_from _ _ (role_kept s f r keeps.same_role g p.0) p.1, omega arith)) (t.wires g k);
  epochs = t.epochs;
  regulators = λ g e. t.regulators g (role_kept s f r keeps.same_role g e);
  promised = by_number f _ (rw (upd_same, upd_same) keeps.promised) (λ g ne. rw (upd_other, upd_other) (t.promised g));
  bars = by_number f _ (rw (upd_same) keeps.barred) (λ g ne. rw (upd_other) (t.bars g));
  rows = upd_each s.row f r (λ _ x. RowInv x) keeps.row (λ g _. t.rows g);
}

-- a change of one row alone
pub time_row : (s : Components) (f : ℕ) (r : TimeRow) → IsTimed s → KeepsRow s f r (s.tso f) → IsTimed (record s { row = upd s.row f r })
time_row s f r t keeps = subst (λ (q : ℕ → List Event). IsTimed (record s { row = upd s.row f r; tso = q })) (upd_self s.tso f) (time_local s f r (s.tso f) t keeps)

-- ---- a change of wires that carry the same
abbrev pub CarriesIn : Components → ℕ → ℕ → List Message → Type 0
CarriesIn s g f ms = Carries (is_regulator (s.row g) && is_other s.directory.joined g f) (s.last_announced g) (s.known_epoch f g) g (stamps s g) (s.serial g) ms (s.bound f g)

pub time_wires : (s : Components) (wire : ℕ → ℕ → List Message) → IsTimed s → ((g f : ℕ) → CarriesIn s g f (wire g f)) → IsTimed (record s { wire = wire })
time_wires s wire t carries = record {
  queues = t.queues;
  ordered = t.ordered;
  ahead = t.ahead;
  wires = carries;
  epochs = t.epochs;
  regulators = t.regulators;
  promised = t.promised;
  bars = t.bars;
  rows = t.rows;
}

-- ---- what is sent joins the wires
module _ (s : Components) (f : ℕ) (stamp : Option ℕ) (out : Outgoing) where
  abbrev pub put_for : ℕ → List Message → List Message
  put_for g = put_event f (s.serial f) (s.row f) stamp out (content_for s.directory out.body g)

  Carries-put : (k : ℕ) (o : Option Content) → (is_ordered (s.row f) stamp out ≡ true → (is_regulator (s.row f) ≡ true) × (s.last_announced f ≤ kept_stamp (s.row f) stamp out))
      → is_other s.directory.joined f k ≡ true → CarriesIn s f k (s.wire f k) → CarriesIn s f k (put_event f (s.serial f) (s.row f) stamp out o (s.wire f k))
  Carries-put k None h other c = c
  Carries-put k (Some x) h other c = Carries-send _ (s.last_announced f) (s.known_epoch k f) f (stamps s f) (s.serial f) (s.wire f k) (s.bound k f) (event_of f (s.serial f) (s.row f) stamp out x) (omega arith)
      (λ o. (and_from _ _ (h o).0 other, (h o).1)) refl c

  -- the stamps below the next serial stay
  sent_stamps : (g m : ℕ) → m < s.serial g → stamps s g m ≡ stamps (with_message_sent s f stamp out) g m
  sent_stamps = upd2_each s.sent f (s.serial f) (sent_event s.directory (s.row f) f stamp out) (λ g m x. m < s.serial g → stamps s g m ≡ x.stamp) (λ l. absurd (omega arith)) (λ _ _ _. refl)

  pub time_sent : IsTimed s → (is_ordered (s.row f) stamp out ≡ true → (is_regulator (s.row f) ≡ true) × (s.last_announced f ≤ kept_stamp (s.row f) stamp out)) → IsTimed (with_message_sent s f stamp out)
  time_sent t h = record {
    queues = t.queues;
    ordered = t.ordered;
    ahead = t.ahead;
    wires = λ g k. Carries-later (is_regulator (s.row g) && is_other s.directory.joined g k) (s.last_announced g) (s.known_epoch k g) g (stamps s g) (stamps (with_message_sent s f stamp out) g) (s.serial g) (upd s.serial f (s.serial f + 1) g)
        (upd_row s.wire s.directory.joined f put_for g k) (s.bound k g)
        (sent_stamps g) (upd_each s.serial f (s.serial f + 1) (λ g x. s.serial g ≤ x) (omega arith) (λ _ _. omega arith) g)
        (upd_row_each s.wire s.directory.joined f put_for (CarriesIn s) (λ k other. Carries-put k (content_for s.directory out.body k) h other (t.wires f k)) t.wires g k);
    epochs = t.epochs;
    regulators = t.regulators;
    promised = t.promised;
    bars = t.bars;
    rows = t.rows;
  }

-- ---- an announcement
pub time_announced : (s : Components) (f v : ℕ) → IsTimed s → s.last_announced f ≤ v → v ≤ promise s f → IsTimed (with_null_announced s f v)
time_announced s f v t above within = record {
  queues = t.queues;
  ordered = t.ordered;
  ahead = t.ahead;
  wires = upd_row_each s.wire s.directory.joined f (λ _. put_behind (message.Null (s.epoch f) v))
      (λ g k ms. Carries (is_regulator (s.row g) && is_other s.directory.joined g k) (upd s.last_announced f v g) (s.known_epoch k g) g (stamps s g) (s.serial g) ms (s.bound k g))
      (λ k other. rw upd_same (subst (λ j. Carries (is_regulator (s.row f) && is_other s.directory.joined f k) v (s.known_epoch k f) f (stamps s f) (s.serial f) (put_behind (message.Null j v) (s.wire f k)) (s.bound k f)) (t.epochs f k other)
      (Carries-null _ (s.last_announced f) v (s.known_epoch k f) f (stamps s f) (s.serial f) (s.wire f k) (s.bound k f) above (t.wires f k))))
      (by_number f _
      (λ k. rw upd_same (Carries-at _ _ (s.last_announced f) v (s.known_epoch k f) f (stamps s f) (s.serial f) (s.wire f k) (s.bound k f) (λ e. (e, above)) (t.wires f k)))
      (λ g ne k. rw upd_other (t.wires g k)));
  epochs = t.epochs;
  regulators = t.regulators;
  promised = by_number f _ (λ r. rw upd_same within) (λ g ne r. rw upd_other (t.promised g r));
  bars = t.bars;
  rows = t.rows;
}

-- ---- a promise doesn't fall where the bound and the queue don't
pub fresh_in-mono : (r : TimeRow) (o : Option AdvanceRequest) (q p b d : ℕ) → min q b ≤ p → min q b ≤ d → promise_in r o q b ≤ promise_in r o p d
fresh_in-mono r None q p b d i j = omega arith
fresh_in-mono r (Some x) q p b d i j = omega arith

swapped_sides : {i j k l : ℕ} → (i ≢ k) ⊎ (j ≢ l) → (j ≢ l) ⊎ (i ≢ k)
swapped_sides (inl a) = inr a
swapped_sides (inr b) = inl b

-- ---- a null is carried
pub time_null_came : (s : Components) (g f k v : ℕ) (ms : List Message) → IsTimed s → s.wire g f ≡ message.Null k v ∷ ms → IsTimed (with_null_accepted s g f k v ms)
time_null_came s g f k v ms t front =
    let at : CarriesIn s g f (message.Null k v ∷ ms) = rw front at (t.wires g f) in
    let raised : (h l : ℕ) → s.bound h l ≤ upd2 s.bound f g (null_bound (s.known_epoch f g) (s.bound f g) k v) h l = upd2_each s.bound f g (null_bound (s.known_epoch f g) (s.bound f g) k v) (λ h l b. s.bound h l ≤ b) (raised_ge (eqb k (s.known_epoch f g)) (s.bound f g) v) (λ h l. omega arith) in
    let more : (h : ℕ) → least s.directory.next_federate (s.bound h) ≤ least s.directory.next_federate (upd2 s.bound f g (null_bound (s.known_epoch f g) (s.bound f g) k v) h) = λ h. least-mono s.directory.next_federate _ _ (λ l _. raised h l) in
    record {
      queues = t.queues;
      ordered = t.ordered;
      ahead = t.ahead;
      wires = by_pair g f _ (rw (upd2_same, upd2_same) at.1) (λ h l ne. let en = swapped_sides ne in rw (upd2_other, upd2_other) (t.wires h l));
      epochs = t.epochs;
      regulators = t.regulators;
      promised = λ h r. le_trans (t.promised h r) (fresh_in-mono (s.row h) (next_request (s.row h)) _ _ _ _ (omega arith) (omega (arith, more h)));
      bars = λ h c. omega (arith, t.bars h c, more h);
      rows = t.rows;
    }

-- ---- an event is carried
-- the bound of a constrained federate is not below its time
pub time_le_bound : (s : Components) (f : ℕ) → IsTimed s → is_constrained (s.row f) ≡ true → (s.row f).time ≤ local_bound s f
time_le_bound s f t c = le_trans ((t.rows f).barred c) (t.bars f c)

pub time_event_came : (s : Components) (g f : ℕ) (e : Event) (ms : List Message) → IsTimed s → g < s.directory.next_federate → s.wire g f ≡ message.Event e ∷ ms → IsTimed (with_event_accepted s g f e ms)
time_event_came s g f e ms t old front =
    let at : CarriesIn s g f (message.Event e ∷ ms) = rw front at (t.wires g f) in
    let b = is_kept_in_order (s.row f) e in
    let tso = insert_event e (s.tso f) in
    let queue = cond b tso (s.tso f) in
    let high : b ≡ true → local_bound s f ≤ e.stamp = λ y. le_trans (least_le s.directory.next_federate (s.bound f) g old) (at.0 (and_parts _ _ y).0) in
    record {
      queues = upd_each s.tso f queue (λ _ q. IsTsoQueue q) (cond_both b tso (s.tso f) IsTsoQueue (λ y. IsTsoQueue-insert e (s.tso f) (and_parts _ _ y).0 (t.queues f)) (λ _. t.queues f)) (λ h _. t.queues h);
      ordered = upd_each s.tso f queue (λ _ q. IsInKeyOrder q) (cond_both b tso (s.tso f) IsInKeyOrder (λ _. IsInKeyOrder-insert e (s.tso f) (t.ordered f)) (λ _. t.ordered f)) (λ h _. t.ordered h);
      ahead = upd_each s.tso f queue (λ h q. is_constrained (s.row h) ≡ true → Above (s.row h).time q)
          (λ c. cond_both b tso (s.tso f) (Above (s.row f).time) (λ y. Above-insert (s.row f).time e (s.tso f) (le_trans (time_le_bound s f t c) (high y)) (t.ahead f c)) (λ _. t.ahead f c)) (λ h _. t.ahead h);
      wires = upd2_each s.wire g f ms (CarriesIn s) at.2 t.wires;
      epochs = t.epochs;
      regulators = t.regulators;
      promised = upd_each s.tso f queue (λ h q. is_regulator (s.row h) ≡ true → s.last_announced h ≤ promise_of (s.row h) q (local_bound s h))
          (λ r. le_trans (t.promised f r) (fresh_in-mono (s.row f) (next_request (s.row f)) _ _ _ _
          (cond_both b tso (s.tso f) (λ q. min (first_stamp (s.tso f)) (local_bound s f) ≤ first_stamp q) (λ y. first_stamp-insert e (s.tso f) _ (omega (arith, high y)) (omega arith)) (λ _. omega arith)) (omega arith)))
          (λ h _. t.promised h);
      bars = t.bars;
      rows = t.rows;
    }

-- ---- a discovery is carried
pub time_discovery_came : (s : Components) (g f : ℕ) (d : Discovery) (ms : List Message) → IsTimed s → s.wire g f ≡ message.Discovery d ∷ ms → IsTimed (with_discovery_accepted s g f d ms)
time_discovery_came s g f d ms t front =
    let at : CarriesIn s g f (message.Discovery d ∷ ms) = rw front at (t.wires g f) in
    time_wires s (upd2 s.wire g f ms) t (upd2_each s.wire g f ms (CarriesIn s) at t.wires)
