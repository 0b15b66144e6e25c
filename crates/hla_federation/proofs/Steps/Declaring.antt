-- What the parts are after a step is what the next-state function says
use Rattle.std.proofs.Common.{◌≡◌, ◌≢◌, ◌≤◌, ◌<◌, ◌⊎◌, ⊎_elim, ℕ, ◌+◌, cond, eqb, ltb, not, ◌&&◌, ◌||◌, Bool, true, false, None, Some, List, [], ◌∷◌, drop, map, refl, sym, ap, ◌∙◌, arith}
use Rattle.std.proofs.lemmas.Bool.{cases_Bool}
use Rattle.std.proofs.lemmas.Bool.Decides.{nat_tests}
use Rattle.std.proofs.Math.Path.{fun_ext}
use Rattle.hla_base.specs.declared.fault.Fault.{Fault}
use Rattle.hla_base.specs.declared.fault.Fault.TheVariants as fault
use Rattle.hla_base.specs.declared.row.TimeRow.{TimeRow}
use Rattle.hla_base.specs.Tables.{forever, upd, upd2, upd_new, is_other}
use Rattle.hla_base.proofs.Tables.{upd_other, upd_each}
use Rattle.hla_catalogue.specs.CatalogueValue.{CatalogueValue}
use Rattle.hla_declaration.specs.Declarations.{DeclarationsValue}
use Rattle.hla_machine.specs.Registered.{RegistryValue}
use Rattle.hla_lbts.specs.Peers.{PeersValue, peers_of}
use Rattle.hla_null_message.specs.declared.message.Message.{Message}
use Rattle.hla_null_message.specs.declared.message.Message.TheVariants as message
use Rattle.hla_component_rules.specs.LocalValue.{LocalValue, new_local}
use Rattle.hla_component_rules.specs.Picking.{Pick, NoPick, PickControl, PickRo, PickRegulates, PickConstrains, PickTso, PickGrant, pick, picked_by, local_pick, local_picking, least_bound}
use Rattle.hla_machine.specs.declared.step.Answer.TheVariants as answer
use Rattle.hla_machine.specs.declared.step.Carried.TheVariants as carried
use Rattle.hla_components.specs.Components.{Components}
use Rattle.hla_components.specs.Invariant.{Inv}
use Rattle.hla_components.specs.Component.{local_bound}
use Rattle.hla_components.specs.Locals.{with_local, KnowsPeers, callback_given, choice_given, points_given, carried_by}
use Rattle.hla_components.specs.Next.{Outcomes, next, answer_outcome, chosen_outcome, tick_outcome, carry_outcome, with_federate_joined}
use Rattle.hla_components.proofs.Services.Locals.{ticked, may_come, bound_is}
use Rattle.hla_machine.specs.declared.step.Step.TheVariants.{Tick}
use Rattle.hla_synchronization.specs.Points.{Point, announcement_of}
use Rattle.hla_component_rules.specs.Telling.{local_told}
use Rattle.hla_component_rules.specs.declared.control.Control.{Control}
use Rattle.hla_machine.specs.Directory.{with_points}
use Rattle.hla_federation.proofs.Steps.Notifying.{told_newcomer}
use Rattle.hla_federation.specs.Steps.Memory.{takes_memory, pick_takes_memory}
use Rattle.hla_components.proofs.Services.Locals.{came as each_came}
use Rattle.hla_execution.specs.MemberValue.{MemberTables}
use Rattle.hla_members.specs.Members.{with_member_admitted, with_component, carried_of, MayArrive, HasAccepted}
use Rattle.hla_federation.specs.Steps.State.{state_from, AreWhole, IsUnmet}
use Rattle.hla_members.proofs.MemberTables.{upd-self, upd-field}
use Rattle.hla_federation.proofs.Steps.Doing.{does_next}

pub and-false : (b : Bool) → b && false ≡ false
and-false true = refl
and-false false = refl

pub upd2-self : {X : Type 0} (t : ℕ → ℕ → X) (i j : ℕ) (x : X) → x ≡ t i j → upd2 t i j x ≡ t
unfolding upd2
upd2-self t i j x same = fun_ext (λ k. fun_ext (λ l. ⊎_elim
    (λ (y : eqb i k && eqb j l ≡ true). let ik : i ≡ k = grind (arith, nat_tests) in let jl : j ≡ l = grind (arith, nat_tests) in rw y (same ∙ ap (λ (a : ℕ). t a j) ik ∙ ap (t k) jl))
    (λ (n : eqb i k && eqb j l ≡ false). rw n refl)
    (cases_Bool (eqb i k && eqb j l))))

module _ (c : CatalogueValue) (points : List Point) (d : DeclarationsValue) (r : RegistryValue) (m : MemberTables) where
  abbrev s : Components
  s = state_from c points d r m

  -- ---- one component changes
  pub component_changed : (f : ℕ) (l : LocalValue) → state_from c points d r (with_component m f l) ≡ with_local s f l
  component_changed f l = λ i. record s {
    row = upd-field (λ (x : LocalValue). x.row) m.local f l i;
    ro = upd-field (λ (x : LocalValue). x.ro) m.local f l i;
    tso = upd-field (λ (x : LocalValue). x.tso) m.local f l i;
    controls = upd-field (λ (x : LocalValue). x.controls) m.local f l i;
    bound = upd-field (λ (x : LocalValue). (peers_of x.peers).bound) m.local f l i;
    known_epoch = upd-field (λ (x : LocalValue). (peers_of x.peers).known_epoch) m.local f l i;
    last_announced = upd-field (λ (x : LocalValue). x.last_announced) m.local f l i;
    epoch = upd-field (λ (x : LocalValue). x.epoch) m.local f l i;
  }

  knows : AreWhole c d m → (f : ℕ) → KnowsPeers s f (m.local f).peers
  knows whole f = record { tables = refl; few = whole.few; unmet = λ g beyond. (whole.unmet f g beyond).bound }

  -- ---- picking up
  pub picked : (f : ℕ) → AreWhole c d m → let p = local_pick (m.local f) in
      tick_outcome s f ≡ chosen_outcome (answer.Ticked (callback_given (picked_by (m.local f).row p))) (choice_given (m.local f) p) (state_from c (points_given f (picked_by (m.local f).row p) points) d r (with_component m f (local_picking (m.local f) p)))
  picked f whole = let p = local_pick (m.local f) in
      ticked s f (m.local f).peers (knows whole f)
      ∙ ap (λ (t : Components). chosen_outcome (answer.Ticked (callback_given (picked_by (m.local f).row p))) (choice_given (m.local f) p)
      (record t { directory = with_points t.directory (points_given f (picked_by (m.local f).row p) points) })) (sym (component_changed f (local_picking (m.local f) p)))

  -- its bound, and what a tick would choose
  pub bound_of : (f : ℕ) → AreWhole c d m → local_bound s f ≡ least_bound (m.local f)
  bound_of f whole = bound_is s f (m.local f).peers (knows whole f)

  pub picked_choice : (f : ℕ) → AreWhole c d m → m.joined f ≡ true → (next s (Tick f)).choice ≡ choice_given (m.local f) (local_pick (m.local f))
  picked_choice f whole joined = ap (λ (o : Outcomes). o.choice) (does_next s (Tick f) (rw joined refl) ∙ picked f whole)

  pub pick_memory : (f : ℕ) → AreWhole c d m → local_pick (m.local f) ≡ PickConstrains → takes_memory s (Tick f) ≡ true
  pick_memory f whole enters = ap pick_takes_memory (ap (λ (b : ℕ). pick (s.controls f) (s.row f) (s.ro f) (s.tso f) b) (bound_is s f (m.local f).peers (knows whole f)) ∙ enters)

  -- ---- arriving
  pub came : (g f : ℕ) (after : LocalValue) (ms : List Message) → AreWhole c d m → m.wire g f ≡ ms → HasAccepted g ms (m.local f) after
      → carry_outcome s g f ms ≡ answer_outcome (answer.Carried (carried_of g ms)) (state_from c points d r (record m { local = upd m.local f after; wire = upd2 m.wire g f (drop 1 ms) }))
  came g f after [] whole is same = λ i. answer_outcome (answer.Carried carried.Nothing) (state_from c points d r (record m {
    local = sym (upd-self m.local f after same) i;
    wire = sym (upd2-self m.wire g f [] (sym is)) i;
  }))
  came g f after (x ∷ ms) whole is accepted =
      each_came s f (m.local f).peers (knows whole f) g after.peers ms x accepted.1
      ∙ ap (λ (t : Components). answer_outcome (answer.Carried (carried_by g x)) (record t { wire = upd2 m.wire g f ms }))
      (ap (λ (l : LocalValue). with_local s f l) (sym accepted.0) ∙ sym (component_changed f after))

  pub may_arrive : (g f : ℕ) (ms : List Message) → Inv s → m.wire g f ≡ ms → MayArrive g ms (m.local f)
  may_arrive g f [] inv is = tt
  may_arrive g f (x ∷ ms) inv is = may_come s g f (m.local f).peers x ms inv is

  -- ---- joining
  quiet_wires : Inv s → upd_new m.wire m.next_federate (λ _. []) (λ _. []) ≡ m.wire
  unfolding upd_new
  quiet_wires inv = fun_ext (λ k. fun_ext (λ l. ⊎_elim
      (λ (y : eqb m.next_federate k ≡ true). let e : m.next_federate ≡ k = grind (arith, nat_tests) in
      let no : ltb m.next_federate m.next_federate ≡ false = grind (arith, nat_tests) in
      rw y (sym (ap (λ (a : ℕ). m.wire a l) (sym e) ∙ inv.kept.wired m.next_federate l (rw no refl))))
      (λ (n : eqb m.next_federate k ≡ false). rw n (⊎_elim
      (λ (z : eqb m.next_federate l ≡ true). let e : m.next_federate ≡ l = grind (arith, nat_tests) in
      rw z (sym (ap (m.wire k) (sym e) ∙ inv.kept.wired k m.next_federate (nobody inv k (cases_Bool (m.joined m.next_federate))))))
      (λ (z : eqb m.next_federate l ≡ false). rw z refl)
      (cases_Bool (eqb m.next_federate l))))
      (cases_Bool (eqb m.next_federate k))))
    where
      nobody : Inv s → (k : ℕ) → (m.joined m.next_federate ≡ true) ⊎ (m.joined m.next_federate ≡ false) → ltb k m.next_federate && is_other m.joined k m.next_federate ≡ false
      nobody inv k = ⊎_elim
          (λ (y : m.joined m.next_federate ≡ true). absurd (omega (arith, inv.kept.directory.members m.next_federate y)))
          (λ (n : m.joined m.next_federate ≡ false). rw (n, and-false, and-false) refl)

  -- the row of a newcomer, and what the others know of it
  met : {X : Type 0} (t : ℕ → ℕ → X) (i : ℕ) (own : ℕ → X) (x : X) → ((k : ℕ) → t k i ≡ x) → upd_new t i own (λ _. x) ≡ upd t i own
  unfolding upd_new upd
  met t i own x others = fun_ext (λ k. fun_ext (λ l. ⊎_elim
      (λ (y : eqb i k ≡ true). rw y refl)
      (λ (n : eqb i k ≡ false). rw n (⊎_elim
      (λ (z : eqb i l ≡ true). let e : i ≡ l = grind (arith, nat_tests) in rw z (sym (others k) ∙ ap (t k) e))
      (λ (z : eqb i l ≡ false). rw z refl)
      (cases_Bool (eqb i l))))
      (cases_Bool (eqb i k))))

  -- what of the tables is written what it has
  kept_field : {X : Type 0} (p : LocalValue → X) (local : LocalValue) → p (m.local m.next_federate) ≡ p local → upd (λ f. p (m.local f)) m.next_federate (p local) ≡ (λ f. p (m.local f))
  kept_field p local is = upd-self (λ f. p (m.local f)) m.next_federate (p local) (sym is)

  pub joined_state : (name : List ℕ) (local : LocalValue) → Inv s → ((f g : ℕ) → m.next_federate ≤ g → IsUnmet (peers_of (m.local f).peers) g)
      → m.local m.next_federate ≡ new_local [] → local ≡ local_told (map announcement_of points) (new_local local.peers) → peers_of local.peers ≡ record { bound = s.last_announced; known_epoch = s.epoch }
      → with_federate_joined s name ≡ state_from c points (record d { federates = d.federates + 1 }) r (with_member_admitted m name local)
  joined_state name local inv unmet nobody new met_is =
      let n = m.next_federate in
      let epoch_none : s.epoch n ≡ 0 = ap (λ (l : LocalValue). l.epoch) nobody in
      λ i. record (state_from c points d r (with_member_admitted m name local)) {
        row = (ap (λ (x : TimeRow). upd s.row n x) (ap (λ (l : LocalValue). l.row) (sym new)) ∙ sym (upd-field (λ (l : LocalValue). l.row) m.local n local)) i;
        ro = (sym (kept_field (λ l. l.ro) local (ap (λ (l : LocalValue). l.ro) nobody ∙ ap (λ (l : LocalValue). l.ro) (sym new))) ∙ sym (upd-field (λ (l : LocalValue). l.ro) m.local n local)) i;
        tso = (sym (kept_field (λ l. l.tso) local (ap (λ (l : LocalValue). l.tso) nobody ∙ ap (λ (l : LocalValue). l.tso) (sym new))) ∙ sym (upd-field (λ (l : LocalValue). l.tso) m.local n local)) i;
        controls = (told_newcomer (λ g. (m.local g).controls) n (map announcement_of points) (ap (λ (l : LocalValue). l.controls) nobody) ∙ ap (λ (cs : List Control). upd (λ g. (m.local g).controls) n cs) (ap (λ (l : LocalValue). l.controls) (sym new)) ∙ sym (upd-field (λ (l : LocalValue). l.controls) m.local n local)) i;
        last_announced = (sym (kept_field (λ l. l.last_announced) local (ap (λ (l : LocalValue). l.last_announced) nobody ∙ ap (λ (l : LocalValue). l.last_announced) (sym new))) ∙ sym (upd-field (λ (l : LocalValue). l.last_announced) m.local n local)) i;
        epoch = (sym (kept_field (λ l. l.epoch) local (ap (λ (l : LocalValue). l.epoch) nobody ∙ ap (λ (l : LocalValue). l.epoch) (sym new))) ∙ sym (upd-field (λ (l : LocalValue). l.epoch) m.local n local)) i;
        wire = quiet_wires inv i;
        bound = (met s.bound n s.last_announced forever (λ k. (unmet k n (omega arith)).bound) ∙ ap (λ (p : PeersValue). upd s.bound n p.bound) (sym met_is) ∙ sym (upd-field (λ (l : LocalValue). (peers_of l.peers).bound) m.local n local)) i;
        known_epoch = (ap (λ (e : ℕ). upd_new s.known_epoch n s.epoch (λ _. e)) epoch_none ∙ met s.known_epoch n s.epoch 0 (λ k. (unmet k n (omega arith)).epoch) ∙ ap (λ (p : PeersValue). upd s.known_epoch n p.known_epoch) (sym met_is) ∙ sym (upd-field (λ (l : LocalValue). (peers_of l.peers).known_epoch) m.local n local)) i;
      }

-- ---- what a pick-up and an arrival leave alone
pub picking_peers : (l : LocalValue) (p : Pick) → (local_picking l p).peers ≡ l.peers
picking_peers l NoPick = refl
picking_peers l (PickControl k rest) = refl
picking_peers l (PickRo e rest) = refl
picking_peers l PickRegulates = refl
picking_peers l PickConstrains = refl
picking_peers l (PickTso q e rest) = refl
picking_peers l (PickGrant q t) = refl

pub unmet_picked : (m : MemberTables) (f k g : ℕ) → ((j : ℕ) → IsUnmet (peers_of (m.local j).peers) g) → IsUnmet (peers_of (upd m.local f (local_picking (m.local f) (local_pick (m.local f))) k).peers) g
unmet_picked m f k g unmet = upd_each m.local f (local_picking (m.local f) (local_pick (m.local f))) (λ j x. IsUnmet (peers_of x.peers) g)
    (rw (picking_peers (m.local f) (local_pick (m.local f))) (unmet f)) (λ j ne. unmet j) k

-- nothing more is known of who has never joined
pub accepted_unmet : (g h : ℕ) (ms : List Message) (old new : LocalValue) → HasAccepted g ms old new → g ≢ h → IsUnmet (peers_of old.peers) h → IsUnmet (peers_of new.peers) h
accepted_unmet g h [] old new same ne unmet = rw same unmet
accepted_unmet g h (message.Event e ∷ ms) old new accepted ne unmet = rw accepted.1 unmet
accepted_unmet g h (message.Null k v ∷ ms) old new accepted ne unmet = rw accepted.1 (record { bound = upd_other (peers_of old.peers).bound g _ h ne ∙ unmet.bound; epoch = unmet.epoch })
accepted_unmet g h (message.Retraction m ∷ ms) old new accepted ne unmet = rw accepted.1 unmet
accepted_unmet g h (message.Discovery d ∷ ms) old new accepted ne unmet = rw accepted.1 unmet

pub unmet_arrived : (m : MemberTables) (g f : ℕ) (after : LocalValue) (k h : ℕ) → g ≢ h → HasAccepted g (m.wire g f) (m.local f) after → ((j : ℕ) → IsUnmet (peers_of (m.local j).peers) h)
    → IsUnmet (peers_of (upd m.local f after k).peers) h
unmet_arrived m g f after k h ne accepted unmet = upd_each m.local f after (λ j x. IsUnmet (peers_of x.peers) h) (accepted_unmet g h (m.wire g f) (m.local f) after accepted ne (unmet f)) (λ j other. unmet j) k

-- who carries has joined
not_below : (a b c d : Bool) (e : Fault) → cond (a || b || c || not d) (Some e) None ≡ None → d ≡ true
not_below a b c true e none = refl
not_below true b c false e none = absurd (cc)
not_below false true c false e none = absurd (cc)
not_below false false true false e none = absurd (cc)
not_below false false false false e none = absurd (cc)

pub carries_below : (m : MemberTables) (g f : ℕ) → cond (not (m.joined f) || eqb g f || eqb g 0 || not (ltb g m.next_federate)) (Some fault.FederateNotExecutionMember) None ≡ None → g < m.next_federate
carries_below m g f none = let b = not_below (not (m.joined f)) (eqb g f) (eqb g 0) (ltb g m.next_federate) fault.FederateNotExecutionMember none in grind (arith, nat_tests)

-- a tick that was refused for want of memory takes memory
pub tick_refused : (c : CatalogueValue) (points : List Point) (d : DeclarationsValue) (r : RegistryValue) (m : MemberTables) (f : ℕ) → AreWhole c d m → local_pick (m.local f) ≡ PickConstrains → takes_memory (state_from c points d r m) (Tick f) ≡ true
tick_refused c points d r m f whole enters = pick_memory c points d r m f whole enters
