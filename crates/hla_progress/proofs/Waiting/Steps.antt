-- Each step brings the callback, or leaves the federate waiting with no more due
use Rattle.std.proofs.Common.{◌≡◌, ◌≢◌, ℕ, ◌+◌, ◌≤◌, ltb, not, ◌&&◌, true, refl, sym, ap, subst, ◌⊎◌, inl, inr, ⊎_elim, arith, eq-eqb, ne_eqb, suc, List, [], ◌∷◌, length, Option, Some, None, false, eqb}
use Rattle.std.proofs.lemmas.Bool.{cases_eq, cond_both, and_parts, ltb-true}
use Rattle.hla_base.specs.declared.content.Event.{Event}
use Rattle.hla_base.specs.declared.fault.Fault.{Fault}
use Rattle.hla_base.specs.declared.row.AdvanceRequest.{AdvanceRequest}
use Rattle.hla_base.specs.declared.row.TimeRow.{TimeRow}
use Rattle.hla_base.specs.Rows.{is_regulator, row_after_pick}
use Rattle.hla_base.specs.Tables.{one_if, upd, upd2}
use Rattle.hla_base.proofs.Tables.{upd_same, upd_other, upd2_same, upd2_other, upd_row_each, upd2_each, least-mono}
use Rattle.hla_callbacks.specs.declared.callback.Callback.{Callback}
use Rattle.hla_callbacks.specs.declared.callback.Callback.TheVariants as callback
use Rattle.hla_null_message.specs.declared.message.Message.{Message}
use Rattle.hla_null_message.specs.declared.message.Message.TheVariants as message
use Rattle.hla_component_rules.specs.declared.control.Control.{Control}
use Rattle.hla_component_rules.specs.declared.control.Control.TheVariants.{ToDiscover, ToRetract, ToTell}
use Rattle.hla_component_rules.specs.Picking.{Pick, NoPick, PickControl, PickRo, PickRegulates, PickConstrains, PickTso, PickGrant, pick}
use Rattle.hla_machine.specs.declared.step.Step.{Step}
use Rattle.hla_machine.specs.declared.step.Step.TheVariants.{Join, Call, Carry, Announce, Tick}
use Rattle.hla_machine.specs.declared.step.Answer.TheVariants as answer
use Rattle.hla_machine.specs.Refusals.{refusal}
use Rattle.hla_synchronization.specs.Points.{Point, points_after_notice}
use Rattle.hla_machine.specs.Directory.{with_points}
use Rattle.hla_components.specs.Components.{Components}
use Rattle.hla_components.specs.Component.{local_bound, promise}
use Rattle.hla_components.specs.Invariant.{Inv}
use Rattle.hla_components.specs.Headline.{happening}
use Rattle.hla_components.specs.Next.{Outcomes, answer_outcome, next, announce_outcome, carry_outcome, pick_outcome, tick_outcome, unless_refused, components_seen, with_null_announced}
use Rattle.hla_components.proofs.Services.Steps.{wired_taken}
use Rattle.hla_components.proofs.Wiring.Carries.{raised_ge}
use Rattle.hla_lbts.specs.Peers.{null_bound}
use Rattle.hla_components.proofs.Refinement.Picks.{PickFacts, pick_tells}
use Rattle.hla_progress.specs.Rounds.{IsOfRounds, is_tick_of, IsGiven}
use Rattle.hla_progress.specs.AtOnce.{WaitsForNobody, IsAwaited, is_ro_due, is_tso_due, due_in_order, due_of, due_on_wire, due_in_queues, due_up_to, total}
use Rattle.hla_progress.proofs.Waiting.Counts.{total-same, total-changed, due_on_wire-null, due_event, due_control, due_retraction}
use Rattle.hla_progress.proofs.Waiting.Picks.{IsDuePick}

-- a state in which f waits on as in s, with at least x fewer due before its callback
pub record WaitsOn (s t : Components) (f limit x : ℕ) : Type 0 where
  pub joined : t.directory.joined f ≡ s.directory.joined f
  pub waits : WaitsForNobody (s.row f) → WaitsForNobody (t.row f)
  pub same : (k : Callback) → IsAwaited (t.row f) k → IsAwaited (s.row f) k
  pub less : due_up_to t f limit + x ≤ due_up_to s f limit
  pub advance : (t.row f).advance ≡ (s.row f).advance
  pub constrained : (t.row f).constrained ≡ (s.row f).constrained
  pub regulating : (t.row f).regulating ≡ (s.row f).regulating
  pub time : (t.row f).time ≡ (s.row f).time
  pub regulation : (t.row f).regulation_time ≡ (s.row f).regulation_time
  pub bounds : (g : ℕ) → s.bound f g ≤ t.bound f g
  pub numbers : t.directory.next_federate ≡ s.directory.next_federate

-- f is given its callback, or waits on; if it ticked, it was given something, and less is due
abbrev pub BringsOrWaits : Components → Step → ℕ → ℕ → (Callback → Type 0) → Outcomes → Type 0
BringsOrWaits s step f limit P o = IsGiven (happening step o) f P ⊎ ((is_tick_of f step ≡ true → IsGiven (happening step o) f (λ _. Unit {0})) × WaitsOn s o.state f limit (one_if (is_tick_of f step)))

-- what it knows of its peers does not fall
pub bound_rises : (s t : Components) (f limit x : ℕ) → WaitsOn s t f limit x → local_bound s f ≤ local_bound t f
bound_rises s t f limit x w = rw w.numbers (least-mono s.directory.next_federate (s.bound f) (t.bound f) (λ g _. w.bounds g))

-- ---- steps that do not touch f
pub record IsUntouched (s t : Components) (f : ℕ) : Type 0 where
  pub joined : t.directory.joined f ≡ s.directory.joined f
  pub numbers : t.directory.next_federate ≡ s.directory.next_federate
  pub row : t.row f ≡ s.row f
  pub controls : t.controls f ≡ s.controls f
  pub ro : t.ro f ≡ s.ro f
  pub tso : t.tso f ≡ s.tso f
  pub bounds : (g : ℕ) → s.bound f g ≤ t.bound f g
  pub wires : (r : TimeRow) (limit g : ℕ) → due_on_wire r limit (t.wire g f) ≡ due_on_wire r limit (s.wire g f)

due_untouched : (s t : Components) (f limit : ℕ) → IsUntouched s t f → due_up_to t f limit ≡ due_up_to s f limit
due_untouched s t f limit u = rw (u.row, u.controls, u.ro, u.tso, u.numbers)
    (ap (λ (n : ℕ). due_in_queues (s.row f) limit (s.controls f) (s.ro f) (s.tso f) + n)
    (total-same s.directory.next_federate (λ g. due_on_wire (s.row f) limit (t.wire g f)) (λ g. due_on_wire (s.row f) limit (s.wire g f)) (λ g _. u.wires (s.row f) limit g)))

waits_untouched : (s t : Components) (f limit : ℕ) → IsUntouched s t f → WaitsOn s t f limit 0
waits_untouched s t f limit u = record {
  joined = u.joined;
  waits = λ w. rw u.row w;
  same = λ k a. subst (λ (r : TimeRow). IsAwaited r k) u.row a;
  less = omega (arith, due_untouched s t f limit u);
  advance = ap (λ (r : TimeRow). r.advance) u.row;
  constrained = ap (λ (r : TimeRow). r.constrained) u.row;
  regulating = ap (λ (r : TimeRow). r.regulating) u.row;
  time = ap (λ (r : TimeRow). r.time) u.row;
  regulation = ap (λ (r : TimeRow). r.regulation_time) u.row;
  bounds = u.bounds;
  numbers = u.numbers;
}

pub unchanged : (s : Components) (f limit : ℕ) → WaitsOn s s f limit 0
unchanged s f limit = record { joined = refl; waits = λ w. w; same = λ k a. a; less = omega arith; advance = refl; constrained = refl; regulating = refl; time = refl; regulation = refl; bounds = λ g. omega arith; numbers = refl }

announce_untouched : (s : Components) (g f : ℕ) → IsUntouched s (announce_outcome s g).state f
announce_untouched s g f = cond_both (is_regulator (s.row g) && ltb (s.last_announced g) (promise s g))
    (answer_outcome (answer.Announced (Some (promise s g))) (with_null_announced s g (promise s g)))
    (answer_outcome (answer.Announced None) s) (λ (o : Outcomes). IsUntouched s o.state f)
    (λ _. record {
      joined = refl;
      numbers = refl;
      bounds = λ g. omega arith;
      row = refl;
      controls = refl;
      ro = refl;
      tso = refl;
      wires = λ r limit h. upd_row_each s.wire s.directory.joined g _ (λ h l ms. due_on_wire r limit ms ≡ due_on_wire r limit (s.wire h l)) (λ l _. due_on_wire-null r limit (s.epoch g) (promise s g) (s.wire g l)) (λ _ _. refl) h f;
    })
    (λ _. record { joined = refl; numbers = refl; bounds = λ g. omega arith; row = refl; controls = refl; ro = refl; tso = refl; wires = λ r limit h. refl })

-- what comes to another
carry_untouched : (s : Components) (g l f : ℕ) (ms : List Message) → l ≢ f → IsUntouched s (carry_outcome s g l ms).state f
carry_untouched s g l f [] ne = record { joined = refl; numbers = refl; bounds = λ g. omega arith; row = refl; controls = refl; ro = refl; tso = refl; wires = λ r limit h. refl }
carry_untouched s g l f (message.Event e ∷ ms) ne = record { joined = refl; numbers = refl; bounds = λ g. omega arith; row = refl; controls = refl; ro = upd_other s.ro l _ f ne; tso = upd_other s.tso l _ f ne; wires = λ r limit h. ap (due_on_wire r limit) (upd2_other s.wire g l ms h f (inr ne)) }
carry_untouched s g l f (message.Null k v ∷ ms) ne = record { joined = refl; numbers = refl; bounds = λ h. omega (arith, upd2_other s.bound l g (null_bound (s.known_epoch l g) (s.bound l g) k v) f h (inl ne)); row = refl; controls = refl; ro = refl; tso = refl; wires = λ r limit h. ap (due_on_wire r limit) (upd2_other s.wire g l ms h f (inr ne)) }
carry_untouched s g l f (message.Retraction m ∷ ms) ne = record { joined = refl; numbers = refl; bounds = λ g. omega arith; row = refl; controls = upd_other s.controls l _ f ne; ro = upd_other s.ro l _ f ne; tso = upd_other s.tso l _ f ne; wires = λ r limit h. ap (due_on_wire r limit) (upd2_other s.wire g l ms h f (inr ne)) }
carry_untouched s g l f (message.Discovery d ∷ ms) ne = record { joined = refl; numbers = refl; bounds = λ g. omega arith; row = refl; controls = upd_other s.controls l _ f ne; ro = refl; tso = refl; wires = λ r limit h. ap (due_on_wire r limit) (upd2_other s.wire g l ms h f (inr ne)) }

-- what another picks up
pick_untouched : (s : Components) (g f : ℕ) (p : Pick) → g ≢ f → IsUntouched s (pick_outcome s g p).state f
pick_untouched s g f NoPick ne = record { joined = refl; numbers = refl; bounds = λ g. omega arith; row = refl; controls = refl; ro = refl; tso = refl; wires = λ r limit h. refl }
pick_untouched s g f (PickControl (ToDiscover from d) rest) ne = record { joined = refl; numbers = refl; bounds = λ g. omega arith; row = refl; controls = upd_other s.controls g _ f ne; ro = refl; tso = refl; wires = λ r limit h. refl }
pick_untouched s g f (PickControl (ToRetract e) rest) ne = record { joined = refl; numbers = refl; bounds = λ g. omega arith; row = refl; controls = upd_other s.controls g _ f ne; ro = refl; tso = refl; wires = λ r limit h. refl }
pick_untouched s g f (PickControl (ToTell n) rest) ne = record { joined = refl; numbers = refl; bounds = λ g. omega arith; row = refl; controls = upd_other s.controls g _ f ne; ro = refl; tso = refl; wires = λ r limit h. refl }
pick_untouched s g f (PickRo e rest) ne = record { joined = refl; numbers = refl; bounds = λ g. omega arith; row = refl; controls = refl; ro = upd_other s.ro g _ f ne; tso = refl; wires = λ r limit h. refl }
pick_untouched s g f PickRegulates ne = record { joined = refl; numbers = refl; bounds = λ g. omega arith; row = upd_other s.row g _ f ne; controls = refl; ro = refl; tso = refl; wires = λ r limit h. refl }
pick_untouched s g f PickConstrains ne = record { joined = refl; numbers = refl; bounds = λ g. omega arith; row = upd_other s.row g _ f ne; controls = refl; ro = upd_other s.ro g _ f ne; tso = upd_other s.tso g _ f ne; wires = λ r limit h. refl }
pick_untouched s g f (PickTso q e rest) ne = record { joined = refl; numbers = refl; bounds = λ g. omega arith; row = upd_other s.row g _ f ne; controls = refl; ro = refl; tso = upd_other s.tso g _ f ne; wires = λ r limit h. refl }
pick_untouched s g f (PickGrant q t) ne = record { joined = refl; numbers = refl; bounds = λ g. omega arith; row = upd_other s.row g _ f ne; controls = refl; ro = refl; tso = refl; wires = λ r limit h. refl }

-- ---- what comes to f
module _ (s : Components) (g f limit : ℕ) (m : Message) (ms : List Message) (inv : Inv s) (front : s.wire g f ≡ m ∷ ms) where
  -- the message is due no more on its wire
  wire_less : total s.directory.next_federate (λ h. due_on_wire (s.row f) limit (upd2 s.wire g f ms h f)) + due_of (s.row f) limit m ≡ total s.directory.next_federate (λ h. due_on_wire (s.row f) limit (s.wire h f))
  wire_less =
      let known = and_parts _ _ (wired_taken s g f m ms inv.kept front).0 in
      let changed = total-changed s.directory.next_federate (λ h. due_on_wire (s.row f) limit (s.wire h f)) (λ h. due_on_wire (s.row f) limit (upd2 s.wire g f ms h f)) g (ltb-true g s.directory.next_federate known.0)
      (λ h ne. ap (due_on_wire (s.row f) limit) (upd2_other s.wire g f ms h f (inl ne))) in
      let before : due_on_wire (s.row f) limit (s.wire g f) ≡ due_of (s.row f) limit m + due_on_wire (s.row f) limit ms = ap (due_on_wire (s.row f) limit) front in
      let now : due_on_wire (s.row f) limit (upd2 s.wire g f ms g f) ≡ due_on_wire (s.row f) limit ms = ap (due_on_wire (s.row f) limit) (upd2_same s.wire g f ms) in
      omega (arith, changed, before, now)

carry_waits : (s : Components) (g f limit : ℕ) (ms : List Message) → Inv s → s.wire g f ≡ ms → WaitsOn s (carry_outcome s g f ms).state f limit 0
carry_waits s g f limit [] inv front = unchanged s f limit
carry_waits s g f limit (message.Event e ∷ ms) inv front = record {
  joined = refl;
  advance = refl;
  constrained = refl;
  regulating = refl;
  time = refl;
  regulation = refl;
  bounds = λ g. omega arith;
  numbers = refl;
  waits = λ w. w;
  same = λ k a. a;
  less = rw (upd_same, upd_same) (omega (arith, wire_less s g f limit (message.Event e) ms inv front, due_event (s.row f) limit (s.controls f) (s.ro f) (s.tso f) e));
}
carry_waits s g f limit (message.Null k v ∷ ms) inv front = record {
  joined = refl;
  advance = refl;
  constrained = refl;
  regulating = refl;
  time = refl;
  regulation = refl;
  bounds = λ h. upd2_each s.bound f g _ (λ l h b. s.bound l h ≤ b) (raised_ge (eqb k (s.known_epoch f g)) (s.bound f g) v) (λ _ _. omega arith) f h;
  numbers = refl;
  waits = λ w. w;
  same = λ k a. a;
  less = omega (arith, wire_less s g f limit (message.Null k v) ms inv front);
}
carry_waits s g f limit (message.Retraction m ∷ ms) inv front = record {
  joined = refl;
  advance = refl;
  constrained = refl;
  regulating = refl;
  time = refl;
  regulation = refl;
  bounds = λ g. omega arith;
  numbers = refl;
  waits = λ w. w;
  same = λ k a. a;
  less = rw (upd_same, upd_same, upd_same) (omega (arith, wire_less s g f limit (message.Retraction m) ms inv front, due_retraction (s.row f) limit (s.controls f) (s.ro f) (s.tso f) g m));
}
carry_waits s g f limit (message.Discovery d ∷ ms) inv front = record {
  joined = refl;
  advance = refl;
  constrained = refl;
  regulating = refl;
  time = refl;
  regulation = refl;
  bounds = λ g. omega arith;
  numbers = refl;
  waits = λ w. w;
  same = λ k a. a;
  less = rw upd_same (omega (arith, wire_less s g f limit (message.Discovery d) ms inv front, due_control (s.row f) limit (s.controls f) (s.ro f) (s.tso f) (ToDiscover g d)));
}

-- ---- what f picks up
module _ (s : Components) (f limit : ℕ) (P : Callback → Type 0) where
  -- with something given, and one fewer due
  gives_one : (k : Callback) (t : Components) → WaitsOn s t f limit 1 → BringsOrWaits s (Tick f) f limit P (answer_outcome (answer.Ticked (Some k)) t)
  gives_one k t on = inr (λ _. (k, (refl, refl), tt), rw (eq-eqb f f refl) on)

  queue_less : (controls : List Control) (ro tso : List Event) → due_in_queues (s.row f) limit controls ro tso + 1 ≤ due_in_queues (s.row f) limit (s.controls f) (s.ro f) (s.tso f)
      → due_in_queues (s.row f) limit controls ro tso + total s.directory.next_federate (λ g. due_on_wire (s.row f) limit (s.wire g f)) + 1 ≤ due_up_to s f limit
  queue_less controls ro tso l = omega (arith, l)

  -- a control is given, and the points may change with it
  pub told_less : (points : List Point) (k : Control) (rest : List Control) → s.controls f ≡ k ∷ rest → WaitsOn s (record s { directory = with_points s.directory points; controls = upd s.controls f rest }) f limit 1
  told_less points k rest front = record {
    joined = refl;
    advance = refl;
    constrained = refl;
    regulating = refl;
    time = refl;
    regulation = refl;
    bounds = λ g. omega arith;
    numbers = refl;
    waits = λ w. w;
    same = λ k a. a;
    less = rw upd_same (queue_less rest (s.ro f) (s.tso f) (let l : length (s.controls f) ≡ suc (length rest) = ap length front in omega (arith, l)));
  }

  pub control_less : (k : Control) (rest : List Control) → s.controls f ≡ k ∷ rest → WaitsOn s (record s { controls = upd s.controls f rest }) f limit 1
  control_less k rest front = told_less s.directory.points k rest front

  pub ro_less : (e : Event) (rest : List Event) → s.ro f ≡ e ∷ rest → is_ro_due (s.row f) ≡ true → WaitsOn s (record s { ro = upd s.ro f rest }) f limit 1
  ro_less e rest front y = record {
    joined = refl;
    advance = refl;
    constrained = refl;
    regulating = refl;
    time = refl;
    regulation = refl;
    bounds = λ g. omega arith;
    numbers = refl;
    waits = λ w. w;
    same = λ k a. a;
    less = rw upd_same (queue_less (s.controls f) rest (s.tso f) (let l : length (s.ro f) ≡ suc (length rest) = ap length front in rw y (omega (arith, l))));
  }

  tso_less : (q : AdvanceRequest) (e : Event) (rest : List Event) → s.tso f ≡ e ∷ rest → is_tso_due (s.row f) limit e ≡ true
      → WaitsOn s (record s { row = upd s.row f (row_after_pick (s.row f) q e.stamp); tso = upd s.tso f rest }) f limit 1
  tso_less q e rest front y = record {
    joined = refl;
    advance = rw upd_same refl;
    constrained = rw upd_same refl;
    regulating = rw upd_same refl;
    time = rw upd_same refl;
    regulation = rw upd_same refl;
    bounds = λ g. omega arith;
    numbers = refl;
    waits = λ w. rw upd_same w;
    same = λ k a. same_row k (let b : IsAwaited (row_after_pick (s.row f) q e.stamp) k = rw upd_same at a in b);
    less = rw (upd_same, upd_same) (queue_less (s.controls f) (s.ro f) rest (let l : due_in_order (s.row f) limit (s.tso f) ≡ one_if (is_tso_due (s.row f) limit e) + due_in_order (s.row f) limit rest = ap (due_in_order (s.row f) limit) front in let m : one_if (is_tso_due (s.row f) limit e) ≡ 1 = rw y refl in omega (arith, l, m)));
  }
    where
      same_row : (k : Callback) → IsAwaited (row_after_pick (s.row f) q e.stamp) k → IsAwaited (s.row f) k
      same_row k a = a

  pick_brings : (p : Pick) → PickFacts (s.controls f) (s.row f) (s.ro f) (s.tso f) (local_bound s f) p → IsDuePick (s.row f) limit P p → BringsOrWaits s (Tick f) f limit P (pick_outcome s f p)
  pick_brings NoPick facts due = absurd due
  pick_brings (PickControl (ToDiscover from d) rest) facts due = gives_one _ _ (control_less (ToDiscover from d) rest facts)
  pick_brings (PickControl (ToRetract e) rest) facts due = gives_one _ _ (control_less (ToRetract e) rest facts)
  pick_brings (PickControl (ToTell n) rest) facts due = gives_one _ _ (told_less (points_after_notice f n s.directory.points) (ToTell n) rest facts)
  pick_brings (PickRo e rest) facts due = gives_one _ _ (ro_less e rest facts.1 (ap not facts.2))
  pick_brings PickRegulates facts due = inl (callback.TimeRegulationEnabled (s.row f).regulation_time, (refl, refl), due)
  pick_brings PickConstrains facts due = inl (callback.TimeConstrainedEnabled (s.row f).time, (refl, refl), due)
  pick_brings (PickTso q e rest) facts due = gives_one _ _ (tso_less q e rest facts.1.front due)
  pick_brings (PickGrant q t) facts due = inl (callback.TimeAdvanceGrant t, (refl, refl), due)

-- ---- any step
abbrev pub picked_at : Components → ℕ → Pick
picked_at s f = pick (s.controls f) (s.row f) (s.ro f) (s.tso f) (local_bound s f)

-- a step that is refused leaves all as it is
unless : (s : Components) (f limit : ℕ) (o : Option Fault) (t : Outcomes) → WaitsOn s t.state f limit 0 → WaitsOn s (unless_refused o s t).state f limit 0
unless s f limit None t on = on
unless s f limit (Some e) t on = unchanged s f limit

carry_on : (s : Components) (f limit g l : ℕ) → Inv s → WaitsOn s (carry_outcome s g l (s.wire g l)).state f limit 0
carry_on s f limit g l inv = ⊎_elim
    (λ (e : l ≡ f). subst (λ h. WaitsOn s (carry_outcome s g h (s.wire g h)).state f limit 0) (sym e) (carry_waits s g f limit (s.wire g f) inv refl))
    (λ (ne : l ≢ f). waits_untouched s _ f limit (carry_untouched s g l f (s.wire g l) ne))
    (cases_eq l f)

-- a step but its own tick leaves f waiting
pub other_waits : (s : Components) (f limit : ℕ) (step : Step) → Inv s → IsOfRounds step → is_tick_of f step ≡ false → WaitsOn s (next s step).state f limit 0
other_waits s f limit (Join name) inv of off = absurd of
other_waits s f limit (Call g x) inv of off = absurd of
other_waits s f limit (Carry g l) inv of off = unless s f limit (refusal (components_seen s) (Carry g l)) (carry_outcome s g l (s.wire g l)) (carry_on s f limit g l inv)
other_waits s f limit (Announce g) inv of off = unless s f limit (refusal (components_seen s) (Announce g)) (announce_outcome s g) (waits_untouched s _ f limit (announce_untouched s g f))
other_waits s f limit (Tick g) inv of off = unless s f limit (refusal (components_seen s) (Tick g)) (tick_outcome s g)
    (waits_untouched s _ f limit (pick_untouched s g f (picked_at s g) (λ (e : g ≡ f). absurd (let y : eqb f g ≡ true = eq-eqb f g (sym e) in cc))))

module _ (s : Components) (f limit : ℕ) (P : Callback → Type 0) (inv : Inv s) where
  other_brings : (step : Step) → IsOfRounds step → is_tick_of f step ≡ false → BringsOrWaits s step f limit P (next s step)
  other_brings step of off = inr (rw off ((λ y. absurd (cc)), other_waits s f limit step inv of off))

  module _ (member : s.directory.joined f ≡ true) (due : IsDuePick (s.row f) limit P (picked_at s f)) where
    -- a joined federate's tick is not refused
    own_next : BringsOrWaits s (Tick f) f limit P (next s (Tick f))
    own_next = rw member (pick_brings s f limit P _ (pick_tells (s.controls f) (s.row f) (s.ro f) (s.tso f) (local_bound s f)) due)

    pub step_brings : (step : Step) → IsOfRounds step → BringsOrWaits s step f limit P (next s step)
    step_brings (Join name) of = absurd of
    step_brings (Call g x) of = absurd of
    step_brings (Carry g l) of = other_brings (Carry g l) of refl
    step_brings (Announce g) of = other_brings (Announce g) of refl
    step_brings (Tick g) of = ⊎_elim
        (λ (e : f ≡ g). subst (λ h. BringsOrWaits s (Tick h) f limit P (next s (Tick h))) e own_next)
        (λ (ne : f ≢ g). other_brings (Tick g) of (ne_eqb f g ne))
        (cases_eq f g)

  -- where a pick is due or there is none, the callback comes or f waits on
  abbrev pub GivenOrWaits : Step → Outcomes → Type 0
  GivenOrWaits step o = IsGiven (happening step o) f P ⊎ WaitsOn s o.state f limit 0

  module _ (member : s.directory.joined f ≡ true) (due : (picked_at s f ≡ NoPick) ⊎ IsDuePick (s.row f) limit P (picked_at s f)) where
    no_pick : picked_at s f ≡ NoPick → GivenOrWaits (Tick f) (tick_outcome s f)
    no_pick none = inr (rw none (unchanged s f limit))

    own_given : GivenOrWaits (Tick f) (next s (Tick f))
    own_given = rw member (⊎_elim no_pick
        (λ (d : IsDuePick (s.row f) limit P (picked_at s f)). weaker (pick_brings s f limit P _ (pick_tells (s.controls f) (s.row f) (s.ro f) (s.tso f) (local_bound s f)) d))
        due)
      where
        weaker : BringsOrWaits s (Tick f) f limit P (tick_outcome s f) → GivenOrWaits (Tick f) (tick_outcome s f)
        weaker (inl given) = inl given
        weaker (inr on) = inr (record {
          joined = on.1.joined;
          waits = on.1.waits;
          same = on.1.same;
          less = omega (arith, on.1.less);
          advance = on.1.advance;
          constrained = on.1.constrained;
          regulating = on.1.regulating;
          time = on.1.time;
          regulation = on.1.regulation;
          bounds = on.1.bounds;
          numbers = on.1.numbers;
        })

    pub step_goes : (step : Step) → IsOfRounds step → GivenOrWaits step (next s step)
    step_goes (Join name) of = absurd of
    step_goes (Call g x) of = absurd of
    step_goes (Carry g l) of = inr (other_waits s f limit (Carry g l) inv of refl)
    step_goes (Announce g) of = inr (other_waits s f limit (Announce g) inv of refl)
    step_goes (Tick g) of = ⊎_elim
        (λ (e : f ≡ g). subst (λ h. GivenOrWaits (Tick h) (next s (Tick h))) e own_given)
        (λ (ne : f ≢ g). inr (other_waits s f limit (Tick g) inv of (ne_eqb f g ne)))
        (cases_eq f g)
