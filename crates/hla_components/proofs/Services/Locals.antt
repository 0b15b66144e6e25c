-- What a tick and a message do to the state is what they do to one federate's component
use Rattle.std.proofs.Common.{◌≡◌, ◌≤◌, ◌<◌, ⊎_elim, ℕ, ◌+◌, eqb, true, false, Option, Some, None, IsSome, List, ◌∷◌, refl, sym, ap, subst, ◌∙◌, arith}
use Rattle.std.proofs.lemmas.Bool.{cases_Bool, cases_lt}
use Rattle.std.proofs.lemmas.Bool.Decides.{nat_tests}
use Rattle.std.proofs.Math.Path.{fun_ext}
use Rattle.hla_base.specs.declared.content.Event.{Event}
use Rattle.hla_base.specs.declared.row.TimeRow.{TimeRow}
use Rattle.hla_base.specs.Limits.{max_joins}
use Rattle.hla_base.specs.Tables.{forever, upd, upd2, least}
use Rattle.hla_base.proofs.Tables.{upd_self, least_le, le_least, least_le-forever}
use Rattle.hla_lbts.specs.declared.row.PeerRow.{PeerRow}
use Rattle.hla_lbts.specs.Peers.{PeersValue, peers_of, null_bound}
use Rattle.hla_null_message.specs.declared.message.Message.{Message}
use Rattle.hla_null_message.specs.declared.message.Message.TheVariants as message
use Rattle.hla_component_rules.specs.declared.control.Control.{Control}
use Rattle.hla_component_rules.specs.declared.control.Control.TheVariants.{ToDiscover, ToRetract, ToTell}
use Rattle.hla_component_rules.specs.Queues.{find_event, occurrences, is_event}
use Rattle.hla_null_message.specs.Wires.{events}
use Rattle.hla_component_rules.specs.LocalValue.{LocalValue}
use Rattle.hla_component_rules.specs.Picking.{Pick, NoPick, PickControl, PickRo, PickRegulates, PickConstrains, PickTso, PickGrant, pick, picked_by, local_pick, local_picking, least_bound}
use Rattle.hla_component_rules.specs.Arriving.{MayCome, local_accepting, peers_accepting}
use Rattle.hla_machine.specs.declared.step.Answer.TheVariants as answer
use Rattle.hla_machine.specs.Directory.{with_points}
use Rattle.hla_synchronization.specs.Points.{points_after_notice}
use Rattle.hla_components.specs.Components.{Components}
use Rattle.hla_components.specs.Component.{local_bound}
use Rattle.hla_components.specs.Invariant.{Inv}
use Rattle.hla_components.specs.Next.{Outcomes, answer_outcome, chosen_outcome, carry_outcome, pick_outcome, tick_outcome}
use Rattle.hla_components.specs.Locals.{local_of, KnowsPeers, with_local, callback_given, choice_given, carried_by, EachTickIsLocal, EachArrivalIsLocal, EachMessageMayCome, points_given}
use Rattle.hla_components.proofs.Wiring.Queues.{find-none, find-occurs, occurs-cons}

-- ---- the least bound
-- bounds of FOREVER beyond a number leave the least as it is
least_beyond : (n k : ℕ) (t : ℕ → ℕ) → n ≤ k → ((g : ℕ) → n ≤ g → t g ≡ forever) → least n t ≡ least k t
least_beyond n k t within top = omega (arith, below, above)
  where
    below : least n t ≤ least k t
    below = le_least k t (least n t) (least_le-forever n t) (λ g l. ⊎_elim
        (λ (b : g < n). least_le n t g b)
        (λ (b : n ≤ g). omega (arith, top g b, least_le-forever n t))
        (cases_lt g n))

    above : least k t ≤ least n t
    above = le_least n t (least k t) (least_le-forever k t) (λ g l. least_le k t g (omega arith))

-- ---- one component of the state
module _ (s : Components) (f : ℕ) (peers : List PeerRow) (known : KnowsPeers s f peers) where
  abbrev l : LocalValue
  l = local_of s f peers

  bounds : upd s.bound f (peers_of peers).bound ≡ s.bound
  bounds = ap (λ (p : PeersValue). upd s.bound f p.bound) known.tables ∙ upd_self s.bound f

  epochs : upd s.known_epoch f (peers_of peers).known_epoch ≡ s.known_epoch
  epochs = ap (λ (p : PeersValue). upd s.known_epoch f p.known_epoch) known.tables ∙ upd_self s.known_epoch f

  -- what changes but for its peers
  changed : (row : TimeRow) (ro tso : List Event) (controls : List Control) → with_local s f (record l { row = row; ro = ro; tso = tso; controls = controls })
      ≡ record s { row = upd s.row f row; ro = upd s.ro f ro; tso = upd s.tso f tso; controls = upd s.controls f controls }
  changed row ro tso controls = λ i. record s {
    row = upd s.row f row;
    ro = upd s.ro f ro;
    tso = upd s.tso f tso;
    controls = upd s.controls f controls;
    bound = bounds i;
    known_epoch = epochs i;
    last_announced = upd_self s.last_announced f i;
    epoch = upd_self s.epoch f i;
  }

  with_row_changed : (row : TimeRow) → with_local s f (record l { row = row }) ≡ record s { row = upd s.row f row }
  with_row_changed row = changed row (s.ro f) (s.tso f) (s.controls f)
      ∙ (λ i. record s { row = upd s.row f row; ro = upd_self s.ro f i; tso = upd_self s.tso f i; controls = upd_self s.controls f i })

  with_queues_changed : (row : TimeRow) (ro tso : List Event) → with_local s f (record l { row = row; ro = ro; tso = tso }) ≡ record s { row = upd s.row f row; ro = upd s.ro f ro; tso = upd s.tso f tso }
  with_queues_changed row ro tso = changed row ro tso (s.controls f)
      ∙ (λ i. record s { row = upd s.row f row; ro = upd s.ro f ro; tso = upd s.tso f tso; controls = upd_self s.controls f i })

  with_controls_changed : (ks : List Control) → with_local s f (record l { controls = ks }) ≡ record s { controls = upd s.controls f ks }
  with_controls_changed ks = changed (s.row f) (s.ro f) (s.tso f) ks
      ∙ (λ i. record s { row = upd_self s.row f i; ro = upd_self s.ro f i; tso = upd_self s.tso f i; controls = upd s.controls f ks })

  with_waiting_changed : (ro tso : List Event) (ks : List Control) → with_local s f (record l { ro = ro; tso = tso; controls = ks }) ≡ record s { ro = upd s.ro f ro; tso = upd s.tso f tso; controls = upd s.controls f ks }
  with_waiting_changed ro tso ks = changed (s.row f) ro tso ks
      ∙ (λ i. record s { row = upd_self s.row f i; ro = upd s.ro f ro; tso = upd s.tso f tso; controls = upd s.controls f ks })

  with_events_changed : (ro tso : List Event) → with_local s f (record l { ro = ro; tso = tso }) ≡ record s { ro = upd s.ro f ro; tso = upd s.tso f tso }
  with_events_changed ro tso = with_waiting_changed ro tso (s.controls f)
      ∙ (λ i. record s { ro = upd s.ro f ro; tso = upd s.tso f tso; controls = upd_self s.controls f i })

  unchanged : with_local s f l ≡ s
  unchanged = with_row_changed (s.row f) ∙ (λ i. record s { row = upd_self s.row f i })

  with_ro_changed : (ro : List Event) → with_local s f (record l { ro = ro }) ≡ record s { ro = upd s.ro f ro }
  with_ro_changed ro = with_queues_changed (s.row f) ro (s.tso f) ∙ (λ i. record s { row = upd_self s.row f i; ro = upd s.ro f ro; tso = upd_self s.tso f i })

  with_tso_changed : (row : TimeRow) (tso : List Event) → with_local s f (record l { row = row; tso = tso }) ≡ record s { row = upd s.row f row; tso = upd s.tso f tso }
  with_tso_changed row tso = with_queues_changed row (s.ro f) tso ∙ (λ i. record s { row = upd s.row f row; ro = upd_self s.ro f i; tso = upd s.tso f tso })

  abbrev picked_outcome : Pick → Outcomes
  picked_outcome p = chosen_outcome (answer.Ticked (callback_given (picked_by l.row p))) (choice_given l p)
      (record (with_local s f (local_picking l p)) { directory = with_points s.directory (points_given f (picked_by l.row p) s.directory.points) })

  given : (p : Pick) → pick_outcome s f p ≡ picked_outcome p
  given NoPick = ap (λ (t : Components). answer_outcome (answer.Ticked None) t) (sym unchanged)
  given (PickControl (ToDiscover from d) rest) = ap (λ (t : Components). record (picked_outcome (PickControl (ToDiscover from d) rest)) { state = t }) (sym (with_controls_changed rest))
  given (PickControl (ToRetract e) rest) = ap (λ (t : Components). record (picked_outcome (PickControl (ToRetract e) rest)) { state = t }) (sym (with_controls_changed rest))
  given (PickControl (ToTell n) rest) = ap (λ (t : Components). record (picked_outcome (PickControl (ToTell n) rest)) { state = record t { directory = with_points s.directory (points_after_notice f n s.directory.points) } })
      (sym (with_controls_changed rest))
  given (PickRo e rest) = ap (λ (t : Components). record (picked_outcome (PickRo e rest)) { state = t }) (sym (with_ro_changed rest))
  given PickRegulates = ap (λ (t : Components). record (picked_outcome PickRegulates) { state = t }) (sym (with_row_changed _))
  given PickConstrains = ap (λ (t : Components). record (picked_outcome PickConstrains) { state = t }) (sym (with_queues_changed _ _ _))
  given (PickTso q e rest) = ap (λ (t : Components). record (picked_outcome (PickTso q e rest)) { state = t }) (sym (with_tso_changed _ rest))
  given (PickGrant q t) = ap (λ (u : Components). record (picked_outcome (PickGrant q t)) { state = u }) (sym (with_row_changed _))

  pub bound_is : local_bound s f ≡ least_bound l
  bound_is = least_beyond s.directory.next_federate (max_joins + 1) (s.bound f) known.few known.unmet ∙ ap (λ (p : PeersValue). least (max_joins + 1) p.bound) (sym known.tables)

  pub ticked : tick_outcome s f ≡ picked_outcome (local_pick l)
  ticked = given (pick (s.controls f) (s.row f) (s.ro f) (s.tso f) (local_bound s f)) ∙ ap (λ (b : ℕ). picked_outcome (pick (s.controls f) (s.row f) (s.ro f) (s.tso f) b)) bound_is

  -- ---- a message that comes
  one_bound : (g x : ℕ) → upd s.bound f (upd (s.bound f) g x) ≡ upd2 s.bound f g x
  unfolding upd upd2
  one_bound g x = fun_ext (λ h. fun_ext (λ k. ⊎_elim
      (λ (y : eqb f h ≡ true). let e : f ≡ h = grind (arith, nat_tests) in ⊎_elim
      (λ (z : eqb g k ≡ true). rw (y, z) refl)
      (λ (z : eqb g k ≡ false). rw (y, z) (ap (λ (j : ℕ). s.bound j k) e))
      (cases_Bool (eqb g k)))
      (λ (n : eqb f h ≡ false). rw n refl)
      (cases_Bool (eqb f h))))

  module _ (g : ℕ) (after : List PeerRow) (ms : List Message) where
    same_peers : (m : LocalValue) → m.peers ≡ peers → peers_of after ≡ peers_of peers → with_local s f (record m { peers = after }) ≡ with_local s f m
    same_peers m own is = λ i. record (with_local s f m) {
      bound = (ap (λ (p : PeersValue). upd s.bound f p.bound) is ∙ ap (λ (ps : List PeerRow). upd s.bound f (peers_of ps).bound) (sym own)) i;
      known_epoch = (ap (λ (p : PeersValue). upd s.known_epoch f p.known_epoch) is ∙ ap (λ (ps : List PeerRow). upd s.known_epoch f (peers_of ps).known_epoch) (sym own)) i;
    }

    abbrev accepted : Message → Outcomes
    accepted m = answer_outcome (answer.Carried (carried_by g m)) (record (with_local s f (record (local_accepting g m l) { peers = after })) { wire = upd2 s.wire g f ms })

    abbrev carried_to : Message → Components → Outcomes
    carried_to m t = answer_outcome (answer.Carried (carried_by g m)) (record t { wire = upd2 s.wire g f ms })

    pub came : (m : Message) → peers_of after ≡ peers_accepting g m (peers_of peers) → carry_outcome s g f (m ∷ ms) ≡ accepted m
    came (message.Event e) is = ap (carried_to (message.Event e)) (sym (same_peers (local_accepting g (message.Event e) l) refl is ∙ with_events_changed _ _))
    came (message.Null k v) is = ap (carried_to (message.Null k v)) (sym (λ i. record s {
      row = upd_self s.row f i;
      ro = upd_self s.ro f i;
      tso = upd_self s.tso f i;
      controls = upd_self s.controls f i;
      bound = (ap (λ (p : PeersValue). upd s.bound f p.bound) is ∙ ap (λ (p : PeersValue). upd s.bound f (upd p.bound g (null_bound (p.known_epoch g) (p.bound g) k v))) known.tables ∙ one_bound g (null_bound (s.known_epoch f g) (s.bound f g) k v)) i;
      known_epoch = (ap (λ (p : PeersValue). upd s.known_epoch f p.known_epoch) is ∙ epochs) i;
      last_announced = upd_self s.last_announced f i;
      epoch = upd_self s.epoch f i;
    }))
    came (message.Retraction m) is = ap (carried_to (message.Retraction m)) (sym (same_peers (local_accepting g (message.Retraction m) l) refl is ∙ with_waiting_changed _ _ _))
    came (message.Discovery d) is = ap (carried_to (message.Discovery d)) (sym (same_peers (local_accepting g (message.Discovery d) l) refl is ∙ with_controls_changed _))

-- ---- which messages may come
not_there : (a b c : ℕ) → a + (b + c) ≤ 1 → 1 ≤ a → b ≡ 0
not_there a b c once here = omega (arith, once, here)

itself : (e : Event) (ms : List Event) → 1 ≤ occurrences e.sender e.serial (e ∷ ms)
itself e ms = let y : is_event e.sender e.serial e ≡ true = grind (arith, nat_tests) in rw (occurs-cons, y) (omega arith)

apart : (g m : ℕ) (tso ro : List Event) (o : Option Event) → find_event g m tso ≡ o → occurrences g m tso + occurrences g m ro ≤ 1 → IsSome o → find_event g m ro ≡ None
apart g m tso ro None is once some = absurd (cc)
apart g m tso ro (Some e) is once some = find-none g m ro (let there = find-occurs g m e tso is in omega (arith, once, there))

pub may_come : (s : Components) (g f : ℕ) (peers : List PeerRow) (m : Message) (ms : List Message) → Inv s → s.wire g f ≡ m ∷ ms → MayCome g m (local_of s f peers)
unfolding events
may_come s g f peers (message.Event e) ms inv is =
    let wires = inv.kept.time.wires g f in
    let carries = rw is at wires in
    let copies = inv.kept.copies.once g e.serial f in
    let once = rw is at copies in
    let sent : e.sender ≡ g = carries.1 in
    let here : 1 ≤ occurrences g e.serial (e ∷ events ms) = subst (λ (h : ℕ). 1 ≤ occurrences h e.serial (e ∷ events ms)) sent (itself e (events ms)) in
    find-none e.sender e.serial (s.tso f) (ap (λ (h : ℕ). occurrences h e.serial (s.tso f)) sent ∙ not_there (occurrences g e.serial (e ∷ events ms)) (occurrences g e.serial (s.tso f)) (occurrences g e.serial (s.ro f)) once here)
may_come s g f peers (message.Null k v) ms inv is = tt
may_come s g f peers (message.Retraction m) ms inv is = λ some. apart g m (s.tso f) (s.ro f) (find_event g m (s.tso f)) refl (omega (arith, inv.kept.copies.once g m f)) some
may_come s g f peers (message.Discovery d) ms inv is = tt

-- ---- each of them
pub each_tick : EachTickIsLocal
each_tick s f peers known = ticked s f peers known

pub each_arrival : EachArrivalIsLocal
each_arrival s g f peers after m ms known is = came s f peers known g after ms m is

pub each_message : EachMessageMayCome
each_message = may_come
