-- Discoveries: carried, given, and made by subscriptions and registrations
use Rattle.std.proofs.Common.{◌≡◌, ◌≢◌, ◌⊎◌, ℕ, ◌<◌, cond, eqb, not, ◌&&◌, Bool, true, false, refl, sym, ap, ◌∙◌, inl, inr, subst, ⊎_elim, arith, eqb-true, eq-eqb, ne_eqb, is_some, List, [], ◌∷◌, ◌++◌, Option, Some, None, option_map, drop}
use Rattle.std.proofs.lemmas.Bool.{and_parts, and_from, or_right, not-true, not_from_false, cases_Bool, lt-ltb}
use Rattle.std.proofs.lemmas.List.{append_assoc, append-nil}
use Rattle.std.proofs.lemmas.List.Folds.{Any-from_list_any}
use Rattle.std.specs.List.{Any, list_any, filter_map, cons_option}
use Rattle.hla_base.specs.declared.content.Content.{Content}
use Rattle.hla_base.specs.declared.content.Discovery.{Discovery}
use Rattle.hla_base.specs.declared.number.EventHandle.{EventHandle}
use Rattle.hla_null_message.specs.declared.message.Message.{Message}
use Rattle.hla_null_message.specs.declared.message.Message.TheVariants as message
use Rattle.hla_base.specs.Tables.{numbers_below, upd, upd2, when}
use Rattle.hla_machine.specs.declared.service.Service.TheVariants as service
use Rattle.hla_machine.specs.declared.step.Step.TheVariants.{Call, Carry, Tick}
use Rattle.hla_machine.specs.Directory.{Directory, served_object, discovery_at, discovery_of, discoveries_of, with_discoveries_made, with_subscribed}
use Rattle.hla_machine.specs.Central.{is_key}
use Rattle.hla_machine.specs.Callbacks.{IsNextDiscovery}
use Rattle.hla_machine.specs.Machine.{after_subscribe}
use Rattle.hla_machine.specs.Refusals.{refusal}
use Rattle.hla_component_rules.specs.declared.control.Control.{Control}
use Rattle.hla_component_rules.specs.declared.control.Control.TheVariants.{ToDiscover, ToRetract}
use Rattle.hla_null_message.specs.Wires.{events, discoveries, retractions}
use Rattle.hla_component_rules.specs.Controls.{discoveries_from}
use Rattle.hla_components.specs.Components.{Components}
use Rattle.hla_component_rules.specs.Picking.{PickControl}
use Rattle.hla_components.specs.Next.{components_seen, step_outcome, put_discoveries, with_class_subscribed, carry_outcome, pick_outcome}
use Rattle.hla_components.specs.CentralOf.{central}
use Rattle.hla_components.specs.Invariant.{EachOf, Tells, IsTold, IsBehind, IsKnownOf, IsControl, is_wire, Kept}
use Rattle.hla_components.specs.Headline.{IsKeptStep}
use Rattle.hla_base.proofs.Tables.{by_number, upd_same, upd_other, upd2_same, upd2_other, upd2_each, upd_each}
use Rattle.hla_components.proofs.Wiring.Wires.{events-put_discoveries, events-discovery, discoveries-put_discoveries, discoveries-discovery, retractions-put_discoveries, retractions-discovery}
use Rattle.hla_components.proofs.Wiring.Carries.{Carries-discover}
use Rattle.hla_components.proofs.Upkeep.Times.{CarriesIn, time_wires, time_discovery_came}
use Rattle.hla_components.proofs.Wiring.Copies.{copies_wires}
use Rattle.hla_components.proofs.Upkeep.Objects.{AreNew, objects_shift, objects_controls, objects_discovery_came, behind_put, tells_discover, tells_grows}
use Rattle.hla_components.proofs.Upkeep.Directories.{directory_subscribed, grows_subscribed}
use Rattle.hla_machine.proofs.Basics.Bags.{option_map-some, by_key, at3_here, at3_else, central_ext}
use Rattle.hla_components.proofs.Wiring.Bags.{bag_same_wires}
use Rattle.hla_components.proofs.Services.Retractions.{same_key_one, key_turned, dues-retract, dues-discover, dues-append, dues-nil, from-retract, from-discover, from-append, from-nil}
use Rattle.hla_machine.proofs.Basics.Tests.{caller_joined}
use Rattle.hla_components.proofs.Services.Steps.{wired_taken}
use Rattle.hla_components.proofs.Services.Telling.{notices-retract, notices-discover, notices-put_discover}

-- ---- what waits among the controls is given
module _ (s : Components) (f : ℕ) (rest : List Control) (kept : Kept s) where
  controls_kept : (k : Control) → s.controls f ≡ k ∷ rest → Kept (record s { controls = upd s.controls f rest })
  controls_kept k front = record {
    directory = kept.directory;
    wired = kept.wired;
    time = kept.time;
    copies = kept.copies;
    objects = objects_controls s.directory s.wire s.tso s.ro s.controls f rest (let at : EachOf (IsControl s.directory f) (k ∷ rest) = rw front at (kept.objects.due f) in at.1) kept.objects;
  }

  pub step_request : (e : EventHandle) → s.controls f ≡ ToRetract e ∷ rest → refusal (components_seen s) (Tick f) ≡ None → IsKeptStep s (Tick f) (pick_outcome s f (PickControl (ToRetract e) rest))
  step_request e front none = record {
    kept = controls_kept (ToRetract e) front;
    allowed = (none, (rw (front, dues-retract) (rw same_key_one (omega arith)), tt));
    follows = central_ext _ _ refl refl refl refl refl
        (λ g. by_number f _ (rw (upd_same, front, from-retract) refl) (λ k ne. rw upd_other refl))
        (λ _ _ _. refl)
        (by_key e.sender e.serial _
        (by_number f _ (rw (upd_same, at3_here, front, dues-retract) (rw same_key_one (omega arith))) (λ l ne. let k2 : (is_key e.sender e.serial e.sender e.serial ≡ false) ⊎ (f ≢ l) = inr ne in rw (upd_other, at3_else) refl))
        (λ h n other. by_number f _
        (let k2 : (is_key e.sender e.serial h n ≡ false) ⊎ (f ≢ f) = inl other in rw (upd_same, at3_else, front, dues-retract) (rw (key_turned e.sender e.serial h n, other) (omega arith)))
        (λ l ne. let k2 : (is_key e.sender e.serial h n ≡ false) ⊎ (f ≢ l) = inr ne in rw (upd_other, at3_else) refl)))
        (by_number f _ (rw (upd_same, front, notices-retract) refl) (λ k ne. rw upd_other refl));
  }

  pub step_discover : (from : ℕ) (d : Discovery) → s.controls f ≡ ToDiscover from d ∷ rest → refusal (components_seen s) (Tick f) ≡ None → IsKeptStep s (Tick f) (pick_outcome s f (PickControl (ToDiscover from d) rest))
  step_discover from d front none = record {
    kept = controls_kept (ToDiscover from d) front;
    allowed = (none, (subst (λ g. IsNextDiscovery (discoveries_from g (s.controls f) ++ discoveries (s.wire g f)) d) (sym told.owner) (rw (front, from-discover, eq-eqb from from refl) refl), tt));
    follows = central_ext _ _ refl refl refl refl refl (subst (λ g. (h k : ℕ) → discoveries_from h (upd s.controls f rest k) ++ discoveries (s.wire h k)
        ≡ upd2 (λ g f. discoveries_from g (s.controls f) ++ discoveries (s.wire g f)) g f (drop 1 (discoveries_from g (s.controls f) ++ discoveries (s.wire g f))) h k) (sym told.owner) shorter) (λ _ _ _. refl)
        (λ g m. by_number f _ (rw (upd_same, front, dues-discover) refl) (λ k ne. rw upd_other refl))
        (by_number f _ (rw (upd_same, front, notices-discover) refl) (λ k ne. rw upd_other refl));
  }
    where
      told : IsKnownOf s.directory from f d.object
      told = let at : EachOf (IsControl s.directory f) (ToDiscover from d ∷ rest) = rw front at (kept.objects.due f) in at.0

      off : (h : ℕ) → from ≢ h → discoveries_from h (ToDiscover from d ∷ rest) ≡ discoveries_from h rest
      off h ne = let e : eqb h from ≡ false = ne_eqb h from (λ same. ne (sym same)) in rw (from-discover, e) refl

      first : drop 1 (discoveries_from from (s.controls f) ++ discoveries (s.wire from f)) ≡ discoveries_from from rest ++ discoveries (s.wire from f)
      first = rw (front, from-discover, eq-eqb from from refl) refl

      shorter : (h k : ℕ) → discoveries_from h (upd s.controls f rest k) ++ discoveries (s.wire h k)
          ≡ upd2 (λ g f. discoveries_from g (s.controls f) ++ discoveries (s.wire g f)) from f (drop 1 (discoveries_from from (s.controls f) ++ discoveries (s.wire from f))) h k
      shorter = by_number from _
          (by_number f _ (rw (upd_same, upd2_same) (sym first)) (λ k ne. let w : (from ≢ from) ⊎ (f ≢ k) = inr ne in rw (upd_other, upd2_other) refl))
          (λ h other. by_number f _ (let w : (from ≢ h) ⊎ (f ≢ f) = inl other in rw (upd_same, upd2_other, front, off h other) refl) (λ k ne. let w : (from ≢ h) ⊎ (f ≢ k) = inl other in rw (upd_other, upd2_other) refl))

-- ---- a discovery is carried
list_any-middle : (p : Discovery → Bool) (xs : List Discovery) (y : Discovery) (ys : List Discovery) → p y ≡ true → list_any p (xs ++ y ∷ ys) ≡ true
list_any-middle p [] y ys h = rw h refl
list_any-middle p (x ∷ xs) y ys h = or_right (p x) _ (list_any-middle p xs y ys h)

module _ (s : Components) (g f : ℕ) (d : Discovery) (ms : List Message) (kept : Kept s) (front : s.wire g f ≡ message.Discovery d ∷ ms) where
  come_events : (h k : ℕ) → events (upd2 s.wire g f ms h k) ≡ events (s.wire h k)
  come_events = upd2_each s.wire g f ms (λ h k ns. events ns ≡ events (s.wire h k)) (rw (front, events-discovery) refl) (λ _ _. refl)

  come_retractions : (h m k : ℕ) → retractions m (upd2 s.wire g f ms h k) ≡ retractions m (s.wire h k)
  come_retractions h m k = upd2_each s.wire g f ms (λ h k ns. retractions m ns ≡ retractions m (s.wire h k)) (rw (front, retractions-discovery) refl) (λ _ _. refl) h k

  one_more : (h : ℕ) (ks : List Control) → discoveries_from h (ks ++ ToDiscover g d ∷ []) ≡ discoveries_from h ks ++ cond (eqb h g) (d ∷ []) []
  one_more h ks = from-append h ks (ToDiscover g d ∷ []) ∙ ap (λ ds. discoveries_from h ks ++ ds) (rw (from-discover, from-nil) refl)

  come_here : discoveries_from g (s.controls f ++ ToDiscover g d ∷ []) ++ discoveries ms ≡ discoveries_from g (s.controls f) ++ discoveries (s.wire g f)
  come_here = rw (one_more g (s.controls f), eq-eqb g g refl, front, discoveries-discovery) (append_assoc (discoveries_from g (s.controls f)) (d ∷ []) (discoveries ms))

  come_there : (h : ℕ) → g ≢ h → discoveries_from h (s.controls f ++ ToDiscover g d ∷ []) ≡ discoveries_from h (s.controls f)
  come_there h ne = let e : eqb h g ≡ false = ne_eqb h g (λ same. ne (sym same)) in rw (one_more h (s.controls f), e) (append-nil (discoveries_from h (s.controls f)))

  come_discoveries : (h k : ℕ) → discoveries_from h (upd s.controls f (s.controls f ++ ToDiscover g d ∷ []) k) ++ discoveries (upd2 s.wire g f ms h k) ≡ discoveries_from h (s.controls k) ++ discoveries (s.wire h k)
  come_discoveries = by_number g _
      (by_number f _ (rw (upd_same, upd2_same) come_here) (λ k ne. let w : (g ≢ g) ⊎ (f ≢ k) = inr ne in rw (upd_other, upd2_other) refl))
      (λ h other. by_number f _ (let w : (g ≢ h) ⊎ (f ≢ f) = inl other in rw (upd_same, upd2_other, come_there h other) refl) (λ k ne. let w : (g ≢ h) ⊎ (f ≢ k) = inl other in rw (upd_other, upd2_other) refl))

  come_any : Any (λ (x : Discovery). x.object ≡ d.object) (discoveries_from g (s.controls f) ++ discoveries (s.wire g f))
  come_any = let a = Any-from_list_any (λ (x : Discovery). eqb x.object d.object) (discoveries_from g (s.controls f) ++ discoveries (s.wire g f))
      (rw (front, discoveries-discovery) (list_any-middle (λ (x : Discovery). eqb x.object d.object) (discoveries_from g (s.controls f)) d (discoveries ms) (eq-eqb d.object d.object refl))) in
      (a.0, a.1, a.2, a.3, eqb-true _ _ a.4)

  pub step_discovery : refusal (components_seen s) (Carry g f) ≡ None → IsKeptStep s (Carry g f) (carry_outcome s g f (message.Discovery d ∷ ms))
  step_discovery none = record {
    kept = record {
      directory = kept.directory;
      wired = (wired_taken s g f (message.Discovery d) ms kept front).1;
      time = time_discovery_came s g f d ms kept.time front;
      copies = copies_wires s (upd2 s.wire g f ms) come_events kept.copies;
      objects = objects_discovery_came s g f d ms kept.objects front;
    };
    allowed = (none, come_any);
    follows = central_ext _ _ refl refl refl refl (bag_same_wires s (upd2 s.wire g f ms) come_events) come_discoveries come_retractions
        (λ h m. by_number f _ (rw (upd_same, dues-append, dues-discover, dues-nil) (omega arith)) (λ k ne. rw upd_other refl))
        (by_number f _ (rw (upd_same, notices-put_discover) refl) (λ k ne. rw upd_other refl));
  }

-- ---- the discoveries that are made
-- what one of them tells
pub discovery_tells : (d : Directory) (f h : ℕ) (x : Discovery) → discovery_of d f h ≡ Some x
    → (x.object ≡ h) × ((d.object h).exists ≡ true) × ((d.object h).owner ≢ f) × (d.known h f ≡ false) × (is_some (served_object d f (d.object h).class) ≡ true)
discovery_tells d f h x is = ⊎_elim
    (λ (y : ((d.object h).exists && not (eqb (d.object h).owner f) && not (d.known h f)) ≡ true).
    let p = and_parts _ _ y in let q = and_parts _ _ p.0 in
    let at : option_map (discovery_at d h) (served_object d f (d.object h).class) ≡ Some x = rw y at is in
    let w = option_map-some (discovery_at d h) (served_object d f (d.object h).class) x at in
    (rw (← w.2) refl, q.0, (λ same. no_self (d.object h).owner f same q.1), not-true _ p.1, rw w.1 refl))
    (λ (n : ((d.object h).exists && not (eqb (d.object h).owner f) && not (d.known h f)) ≡ false). absurd (let z : None ≡ Some x = rw n at is in cc))
    (cases_Bool ((d.object h).exists && not (eqb (d.object h).owner f) && not (d.known h f)))
  where
    no_self : (a b : ℕ) → a ≡ b → not (eqb a b) ≡ true → ⊥
    no_self a b same n = let e : eqb a b ≡ true = eq-eqb a b same in cc

-- what holds of each that is made
each_cons : {X : Type 0} (P : X → Type 0) (o : Option X) (xs : List X) → EachOf P xs → ((x : X) → o ≡ Some x → P x) → EachOf P (cons_option o xs)
each_cons P None xs e a = e
each_cons P (Some x) xs e a = (a x refl, e)

each_made : {X : Type 0} (P : X → Type 0) (h : ℕ → Option X) (ns : List ℕ) → ((n : ℕ) (x : X) → h n ≡ Some x → P x) → EachOf P (filter_map h ns)
each_made P h [] all = tt
each_made P h (n ∷ ns) all = each_cons P (h n) (filter_map h ns) (each_made P h ns all) (all n)

pub when_some : {X : Type 0} (b : Bool) (o : Option X) (x : X) → when b o ≡ Some x → (b ≡ true) × (o ≡ Some x)
when_some true o x h = (refl, h)
when_some false o x h = absurd (cc)

-- those on the wire from g
pub each_discovery : (d : Directory) (g f : ℕ) (P : Discovery → Type 0) → ((h : ℕ) (x : Discovery) → (d.object h).owner ≡ g → discovery_of d f h ≡ Some x → P x) → EachOf P (discoveries_of d g f)
each_discovery d g f P all = each_made P (λ h. when (eqb (d.object h).owner g) (discovery_of d f h)) (numbers_below d.next_object)
    (λ h x is. let w = when_some (eqb (d.object h).owner g) (discovery_of d f h) x is in all h x (eqb-true (d.object h).owner g w.0) w.1)

-- ---- f subscribes
module _ (s : Components) (f class : ℕ) (o : Option (List ℕ)) (kept : Kept s) (member : s.directory.joined f ≡ true) where
  abbrev later : Directory
  later = with_discoveries_made (with_subscribed s.directory f class o) f

  abbrev wire : ℕ → ℕ → List Message
  wire = λ g. upd (s.wire g) f (put_discoveries (discoveries_of (with_subscribed s.directory f class o) g f) (s.wire g f))

  made_new : (g : ℕ) → AreNew s.directory f (discoveries_of (with_subscribed s.directory f class o) g f)
  made_new g = each_discovery (with_subscribed s.directory f class o) g f (λ x. s.directory.known x.object f ≡ false)
      (λ h x owner is. let t = discovery_tells (with_subscribed s.directory f class o) f h x is in rw t.0 t.3)

  made_known : (g : ℕ) → EachOf (λ (x : Discovery). IsKnownOf later g f x.object) (discoveries_of (with_subscribed s.directory f class o) g f)
  made_known g = each_discovery (with_subscribed s.directory f class o) g f (λ x. IsKnownOf later g f x.object)
      (λ h x owner is. let t = discovery_tells (with_subscribed s.directory f class o) f h x is in
      let now : (eqb f f && is_some (discovery_of (with_subscribed s.directory f class o) f h)) ≡ true = and_from _ _ (eq-eqb f f refl) (rw is refl) in
      subst (λ h. IsKnownOf later g f h) (sym t.0) (record { owner = owner; known = rw now refl; registered = (kept.directory.owners h t.1).1 }))

  -- nothing is made by one that is no peer
  none_made : (g k : ℕ) → is_wire s.directory g k ≡ false → upd (s.wire g) f (put_discoveries (discoveries_of (with_subscribed s.directory f class o) g f) (s.wire g f)) k ≡ []
  none_made g = by_number f _
      (λ off. rw (upd_same, kept.wired g f off) (nothing (discoveries_of (with_subscribed s.directory f class o) g f) (each_discovery (with_subscribed s.directory f class o) g f (λ _. ⊥)
      (λ h x owner is. let t = discovery_tells (with_subscribed s.directory f class o) f h x is in
      let low : g < s.directory.next_federate = subst (λ g. g < s.directory.next_federate) owner (kept.directory.owners h t.1).0 in
      let ne : g ≢ f = λ same. t.2 (owner ∙ same) in
      let w : is_wire s.directory g f ≡ true = and_from _ _ (lt-ltb _ _ low) (and_from _ _ (not_from_false _ (ne_eqb g f ne)) member) in cc))))
      (λ k ne off. rw upd_other (kept.wired g k off))
    where
      nothing : (ds : List Discovery) → EachOf (λ (x : Discovery). ⊥) ds → put_discoveries ds [] ≡ []
      nothing [] e = refl
      nothing (x ∷ xs) e = absurd e.0

  subscribe_wires : (P : ℕ → ℕ → List Message → Type 0) → ((g : ℕ) → P g f (put_discoveries (discoveries_of (with_subscribed s.directory f class o) g f) (s.wire g f))) → ((g k : ℕ) → P g k (s.wire g k)) → (g k : ℕ)
      → P g k (upd (s.wire g) f (put_discoveries (discoveries_of (with_subscribed s.directory f class o) g f) (s.wire g f)) k)
  subscribe_wires P here there g = upd_each (s.wire g) f (put_discoveries (discoveries_of (with_subscribed s.directory f class o) g f) (s.wire g f)) (P g) (here g) (λ k _. there g k)

  subscribe_events : (g k : ℕ) → events (upd (s.wire g) f (put_discoveries (discoveries_of (with_subscribed s.directory f class o) g f) (s.wire g f)) k) ≡ events (s.wire g k)
  subscribe_events = subscribe_wires (λ g k ms. events ms ≡ events (s.wire g k)) (λ g. events-put_discoveries _ (s.wire g f)) (λ _ _. refl)

  kept_subscribes : Kept (with_class_subscribed s f (with_subscribed s.directory f class o))
  kept_subscribes = record {
    directory = directory_subscribed s.directory f class o kept.directory member;
    wired = none_made;
    time = time_wires s wire kept.time (subscribe_wires (CarriesIn s) (λ g. Carries-discover _ (s.last_announced g) (s.known_epoch f g) g _ (s.serial g) _ (s.wire g f) (s.bound f g) (kept.time.wires g f)) kept.time.wires);
    copies = copies_wires s wire subscribe_events kept.copies;
    objects = objects_shift s.directory later s.wire wire s.tso s.ro s.controls (grows_subscribed s.directory f class o)
        (subscribe_wires (Tells later)
        (λ g. tells_discover s.directory later g f (s.wire g f) _ (grows_subscribed s.directory f class o) (made_known g) (made_new g) (kept.objects.tells g f))
        (λ g k. tells_grows s.directory later g k (s.wire g k) (grows_subscribed s.directory f class o) (kept.objects.tells g k)))
        (subscribe_wires (λ g k ms. (x : Content) → IsTold s.directory g k x → IsBehind x (discoveries (s.wire g k)) → IsBehind x (discoveries ms))
        (λ g x told b. subst (IsBehind x) (sym (discoveries-put_discoveries _ (s.wire g f))) (behind_put s.directory g f x (discoveries (s.wire g f)) _ told (made_new g) b))
        (λ g k x told b. b)) kept.objects;
  }

  subscribe_retractions : (g m k : ℕ) → retractions m (upd (s.wire g) f (put_discoveries (discoveries_of (with_subscribed s.directory f class o) g f) (s.wire g f)) k) ≡ retractions m (s.wire g k)
  subscribe_retractions g m k = subscribe_wires (λ g k ms. retractions m ms ≡ retractions m (s.wire g k)) (λ g. retractions-put_discoveries _ m (s.wire g f)) (λ _ _. refl) g k

  subscribe_discoveries : (g k : ℕ) → discoveries_from g (s.controls k) ++ discoveries (upd (s.wire g) f (put_discoveries (discoveries_of (with_subscribed s.directory f class o) g f) (s.wire g f)) k)
      ≡ upd (λ k. discoveries_from g (s.controls k) ++ discoveries (s.wire g k)) f ((discoveries_from g (s.controls f) ++ discoveries (s.wire g f)) ++ discoveries_of (with_subscribed s.directory f class o) g f) k
  subscribe_discoveries g = by_number f _
      (rw (upd_same, upd_same, discoveries-put_discoveries) (sym (append_assoc (discoveries_from g (s.controls f)) (discoveries (s.wire g f)) (discoveries_of (with_subscribed s.directory f class o) g f))))
      (λ k ne. rw (upd_other, upd_other) refl)

  pub central_subscribes : central (with_class_subscribed s f (with_subscribed s.directory f class o)) ≡ after_subscribe (central s) f class o
  central_subscribes = central_ext _ _ refl refl refl refl (bag_same_wires s wire subscribe_events) subscribe_discoveries subscribe_retractions (λ _ _ _. refl) (λ _. refl)

pub step_subscribe : (s : Components) (f class : ℕ) (attributes : List ℕ) → Kept s → refusal (components_seen s) (Call f (service.SubscribeObjectClassAttributes class attributes)) ≡ None
    → IsKeptStep s (Call f (service.SubscribeObjectClassAttributes class attributes)) (step_outcome s (Call f (service.SubscribeObjectClassAttributes class attributes)))
step_subscribe s f class attributes kept none =
    let member = caller_joined (components_seen s) f (service.SubscribeObjectClassAttributes class attributes) none in
    record { kept = kept_subscribes s f class (Some attributes) kept member; allowed = (none, tt); follows = central_subscribes s f class (Some attributes) kept member }
