-- What a tick gives: nothing, a message in receive order, and what waits among the controls
use Rattle.std.proofs.Common.{◌≡◌, ◌≢◌, ◌⊎◌, inl, inr, not, ◌&&◌, ℕ, cond, Bool, true, false, refl, sym, ap, ◌∙◌, subst, ⊎_elim, arith, eqb-true, List, [], ◌∷◌, ◌++◌, Some, None}
use Rattle.std.proofs.lemmas.Bool.{cases_eq, cases_Bool, and_parts}
use Rattle.std.specs.List.{All}
use Rattle.std.proofs.lemmas.List.Elements.{All-nil, All-cons}
use Rattle.hla_base.specs.declared.content.Content.{Content}
use Rattle.hla_base.specs.declared.content.Content.TheVariants as content
use Rattle.hla_base.specs.declared.content.Event.{Event}
use Rattle.hla_base.specs.declared.content.Discovery.{Discovery}
use Rattle.hla_base.specs.declared.number.EventHandle.{EventHandle}
use Rattle.hla_base.specs.declared.row.TimeRow.{TimeRow}
use Rattle.hla_base.specs.Rows.{is_constrained, is_advancing}
use Rattle.hla_null_message.specs.declared.message.Message.{Message}
use Rattle.hla_null_message.specs.declared.message.Message.TheVariants as message
use Rattle.hla_base.specs.Tables.{upd}
use Rattle.hla_callbacks.specs.declared.callback.Delivery.{Delivery}
use Rattle.hla_callbacks.specs.declared.callback.Delivery.TheVariants as delivery
use Rattle.hla_machine.specs.declared.step.Step.TheVariants.{Tick}
use Rattle.hla_machine.specs.declared.step.Choice.{Choice}
use Rattle.hla_machine.specs.declared.step.Choice.TheVariants as choice
use Rattle.hla_machine.specs.Directory.{Directory}
use Rattle.hla_machine.specs.Central.{Central, Ro, Tso, Demoted, at_key}
use Rattle.hla_machine.specs.Callbacks.{IsDiscovered, IsFirstRo, MayReceive, MayDeliver, NothingIsDue, MayBeGiven, after_delivery, after_pick}
use Rattle.hla_machine.specs.Refusals.{refusal}
use Rattle.hla_component_rules.specs.Queues.{find_event, handle_of, is_event}
use Rattle.hla_null_message.specs.Wires.{events, discoveries}
use Rattle.hla_component_rules.specs.Controls.{discoveries_from, dues, notices_in}
use Rattle.hla_components.specs.Components.{Components}
use Rattle.hla_component_rules.specs.Picking.{NoPick, PickRo, is_held_back}
use Rattle.hla_components.specs.Next.{components_seen, pick_outcome, callback_outcome, event_callback, content_callback}
use Rattle.hla_components.specs.CentralOf.{central, bag_of, wire_copy, tso_copy, ro_copy}
use Rattle.hla_components.specs.Invariant.{EachOf, IsKnownOf, IsTold, IsBehind, Tells, IsWaiting, IsInSerialOrder, CopyInv, ObjectInv, Kept}
use Rattle.hla_machine.specs.CentralInvariant.{CentralInv}
use Rattle.hla_components.specs.Headline.{IsKeptStep}
use Rattle.hla_base.proofs.Tables.{upd_self}
use Rattle.hla_components.proofs.Wiring.Queues.{find-key, find-cons, occurs-cons}
use Rattle.hla_components.proofs.Basics.Each.{EachOf-find, EachOf-parts, EachOf-weaker}
use Rattle.hla_components.proofs.Wiring.Copies.{copies_local}
use Rattle.hla_components.proofs.Refinement.Picks.{RestFacts}
use Rattle.hla_components.proofs.Upkeep.Objects.{objects_queues}
use Rattle.hla_components.proofs.Upkeep.Bounds.{copy_cases}
use Rattle.hla_machine.proofs.Basics.Bags.{central_ext}
use Rattle.hla_components.proofs.Wiring.Bags.{copy_ro, find_first, bag_ro_picked}

pub each_all : {X : Type 0} (P : X → Type 0) (xs : List X) → EachOf P xs → All P xs
each_all P [] a = All-nil P
each_all P (x ∷ xs) a = All-cons P x xs a.0 (each_all P xs a.1)

-- who is not held back may be given a message in receive order
not_held : (constrained advancing asynchronous : Bool) → (constrained && not advancing && not asynchronous) ≡ false → (constrained ≡ false) ⊎ ((advancing ≡ true) ⊎ (asynchronous ≡ true))
not_held false a b e = inl refl
not_held true true b e = inr (inl refl)
not_held true false true e = inr (inr refl)
not_held true false false e = absurd (cc)

free_to_receive : (r : TimeRow) → is_held_back r ≡ false → MayReceive r
free_to_receive r e = not_held (is_constrained r) (is_advancing r) r.asynchronous e

-- ---- discoveries
-- the discoveries on a wire are of its sender's objects
tells_owners : (d : Directory) (g f : ℕ) (ms : List Message) → Tells d g f ms → EachOf (λ (x : Discovery). IsKnownOf d g f x.object) (discoveries ms)
unfolding discoveries
tells_owners d g f [] t = tt
tells_owners d g f (message.Event e ∷ ms) t = tells_owners d g f ms t.2
tells_owners d g f (message.Null k v ∷ ms) t = tells_owners d g f ms t
tells_owners d g f (message.Retraction m ∷ ms) t = tells_owners d g f ms t
tells_owners d g f (message.Discovery x ∷ ms) t = (t.0, tells_owners d g f ms t.1)

no_controls : (g : ℕ) → discoveries_from g [] ≡ []
unfolding discoveries_from
no_controls g = refl

-- all that is due waits among the controls
pub nothing_due : (s : Components) (f : ℕ) → s.controls f ≡ [] → NothingIsDue (central s) f
unfolding dues notices_in
nothing_due s f free = record { told = rw free refl; asked = λ g m. rw free refl }

module _ (s : Components) (f : ℕ) (kept : Kept s) (none : s.controls f ≡ []) where
  -- no discovery of g's object is on any wire where there is none on the wire from g
  no_discovery : (g object : ℕ) → IsKnownOf s.directory g f object → EachOf (λ (d : Discovery). d.object ≢ object) (discoveries (s.wire g f))
      → (h : ℕ) → All (λ (d : Discovery). d.object ≢ object) (discoveries_from h (s.controls f) ++ discoveries (s.wire h f))
  no_discovery g object told behind h = rw (none, no_controls h) (⊎_elim
      (λ (e : g ≡ h). each_all _ (discoveries (s.wire h f)) (subst (λ h. EachOf (λ (d : Discovery). d.object ≢ object) (discoveries (s.wire h f))) e behind))
      (λ (ne : g ≢ h). each_all _ (discoveries (s.wire h f)) (EachOf-weaker (λ (d : Discovery). IsKnownOf s.directory h f d.object) (λ (d : Discovery). d.object ≢ object) (discoveries (s.wire h f))
      (λ (d : Discovery) (k : IsKnownOf s.directory h f d.object) same. ne (sym told.owner ∙ (subst (λ o. (s.directory.object o).owner ≡ h) same k.owner)))
      (tells_owners s.directory h f (s.wire h f) (kept.objects.tells h f))))
      (cases_eq g h))

  discovered_content : (g : ℕ) (x : Content) → IsTold s.directory g f x → IsBehind x (discoveries (s.wire g f)) → IsDiscovered (central s) f x
  discovered_content g (content.Interaction class values) told behind = tt
  discovered_content g (content.Reflection object values) told behind = no_discovery g object told behind
  discovered_content g (content.Removal object) told behind = no_discovery g object told behind

  pub discovered : (e : Event) → IsWaiting s.directory s.wire f e → IsDiscovered (central s) f e.content
  discovered e w = discovered_content e.sender e.content w.0 w.1

-- ---- what is given
pub may_give : (c : Central) (f : ℕ) (d : Delivery) (h : EventHandle) (x : Content) (o : Choice) → MayDeliver c f x h d → NothingIsDue c f → MayBeGiven c f (content_callback d h x) o
may_give c f d h (content.Interaction class values) o m due = (m, due)
may_give c f d h (content.Reflection object values) o m due = (m, due)
may_give c f d h (content.Removal object) o m due = (m, due)

pub after_give : (c : Central) (f : ℕ) (d : Delivery) (h : EventHandle) (x : Content) (o : Choice) → after_delivery c f h d ≡ after_pick c f (content_callback d h x) o
after_give c f d h (content.Interaction class values) o = refl
after_give c f d h (content.Reflection object values) o = refl
after_give c f d h (content.Removal object) o = refl

pub step_no_pick : (s : Components) (f : ℕ) → Kept s → s.controls f ≡ [] → RestFacts (s.row f) → refusal (components_seen s) (Tick f) ≡ None → IsKeptStep s (Tick f) (pick_outcome s f NoPick)
step_no_pick s f kept free rests none = record { kept = kept; allowed = (none, record { due = nothing_due s f free; roles = rests.roles; advance = rests.advance }); follows = refl }

-- ---- a message in receive order
ro_when : (b : Bool) → cond b Tso Ro ≡ Ro → b ≡ false
ro_when true h = absurd (cc)
ro_when false h = refl

demoted_ro_when : (b : Bool) → cond b Demoted Ro ≡ Ro → b ≡ false
demoted_ro_when true h = absurd (cc)
demoted_ro_when false h = refl

module _ (s : Components) (f : ℕ) (e : Event) (rest : List Event) (kept : Kept s) (front : s.ro f ≡ e ∷ rest) where
  -- the first of its sender has the least serial
  first_of_sender : e.ordered ≡ false → IsFirstRo (central s) f (handle_of e)
  first_of_sender plain n k low is ro =
      let at : IsInSerialOrder e.sender (e ∷ rest ++ events (s.wire e.sender f)) = rw front at (kept.copies.serials e.sender f) in
      let after = EachOf-parts _ rest (events (s.wire e.sender f)) (at.0 refl plain) in
      ⊎_elim
      (λ (w : (x : Event) × (find_event e.sender n (events (s.wire e.sender f)) ≡ Some x) × (wire_copy x ≡ k)).
      let key = find-key e.sender n w.0 (events (s.wire e.sender f)) w.1 in
      let up = EachOf-find _ e.sender n w.0 (events (s.wire e.sender f)) w.1 after.1 key.0 (ro_when w.0.ordered (rw (← w.2) at ro)) in omega (arith, key.1))
      (⊎_elim
      (λ (w : (x : Event) × (find_event e.sender n (s.tso f) ≡ Some x) × (tso_copy x ≡ k)). let no : Tso ≡ Ro = rw (← w.2) at ro in cc)
      (λ (w : (x : Event) × (find_event e.sender n (s.ro f) ≡ Some x) × (ro_copy x ≡ k)).
      let key = find-key e.sender n w.0 (s.ro f) w.1 in
      let found : cond (is_event e.sender n e) (Some e) (find_event e.sender n rest) ≡ Some w.0 = rw (front, find-cons) at w.1 in
      ⊎_elim
      (λ (y : is_event e.sender n e ≡ true). let same = eqb-true n e.serial (and_parts _ _ y).1 in omega arith)
      (λ (o : is_event e.sender n e ≡ false). let up = EachOf-find _ e.sender n w.0 rest (rw o at found) after.0 key.0 (demoted_ro_when w.0.ordered (rw (← w.2) at ro)) in omega (arith, key.1))
      (cases_Bool (is_event e.sender n e))))
      (copy_cases e.sender n (s.wire e.sender f) (s.tso f) (s.ro f) k is)

  copy_front : bag_of s e.sender e.serial f ≡ Some (ro_copy e)
  copy_front = copy_ro s kept.copies e.sender e.serial f e (find_first e (s.ro f) rest front)

  kept_ro : Kept (record s { ro = upd s.ro f rest })
  kept_ro = record {
    directory = kept.directory;
    wired = kept.wired;
    time = kept.time;
    copies = subst (λ (q : ℕ → List Event). CopyInv s.serial s.wire q (upd s.ro f rest)) (upd_self s.tso f) (copies_local s f (s.tso f) rest kept.copies
        (λ g m. rw (front, occurs-cons) (omega arith))
        (λ g. let at : IsInSerialOrder g (e ∷ rest ++ events (s.wire g f)) = rw front at (kept.copies.serials g f) in at.1)
        (λ g. kept.copies.earlier g f));
    objects = subst (λ (q : ℕ → List Event). ObjectInv s.directory s.wire q (upd s.ro f rest) s.controls) (upd_self s.tso f) (objects_queues s.directory s.wire s.tso s.ro s.controls f (s.tso f) rest (kept.objects.ordered f)
        (let at : EachOf (IsWaiting s.directory s.wire f) (e ∷ rest) = rw front at (kept.objects.plain f) in at.1) kept.objects);
  }

  bag_ro : bag_of (record s { ro = upd s.ro f rest }) ≡ at_key (bag_of s) e.sender e.serial f None
  bag_ro = subst (λ (q : ℕ → List Event). bag_of (record s { tso = q; ro = upd s.ro f rest }) ≡ at_key (bag_of s) e.sender e.serial f None) (upd_self s.tso f) (bag_ro_picked s f e rest kept.copies front)

  ro_step : CentralInv (central s) → s.controls f ≡ [] → MayReceive (s.row f) → refusal (components_seen s) (Tick f) ≡ None → (b : Bool) → e.ordered ≡ b
      → IsKeptStep s (Tick f) (callback_outcome (event_callback (cond b (delivery.Demoted e.stamp) delivery.Receive) e) (record s { ro = upd s.ro f rest }))
  ro_step laws free may none true is = record {
    kept = kept_ro;
    allowed = (none, may_give (central s) f (delivery.Demoted e.stamp) (handle_of e) e.content choice.None (may, discovered s f kept free e told, copy_front ∙ ap Some (rw is refl)) (nothing_due s f free));
    follows = central_ext _ (after_delivery (central s) f (handle_of e) (delivery.Demoted e.stamp)) refl refl refl refl bag_ro (λ _ _. refl) (λ _ _ _. refl) (λ _ _ _. refl) (λ _. refl)
        ∙ after_give (central s) f (delivery.Demoted e.stamp) (handle_of e) e.content choice.None;
  }
    where
      told : IsWaiting s.directory s.wire f e
      told = let at : EachOf (IsWaiting s.directory s.wire f) (e ∷ rest) = rw front at (kept.objects.plain f) in at.0
  ro_step laws free may none false is = record {
    kept = kept_ro;
    allowed = (none, may_give (central s) f delivery.Receive (handle_of e) e.content choice.None (may, discovered s f kept free e told, copy_front ∙ ap Some plain, first_of_sender is) (nothing_due s f free));
    follows = central_ext _ (after_delivery (central s) f (handle_of e) delivery.Receive) refl refl refl refl bag_ro (λ _ _. refl) (λ _ _ _. refl) (λ _ _ _. refl) (λ _. refl)
        ∙ after_give (central s) f delivery.Receive (handle_of e) e.content choice.None;
  }
    where
      told : IsWaiting s.directory s.wire f e
      told = let at : EachOf (IsWaiting s.directory s.wire f) (e ∷ rest) = rw front at (kept.objects.plain f) in at.0

      plain : ro_copy e ≡ record { order = Ro; stamp = 0; content = e.content }
      plain = let zero : e.stamp ≡ 0 = laws.plain e.sender e.serial f (ro_copy e) copy_front (rw is refl) in rw (is, zero) refl

  pub step_ro : CentralInv (central s) → s.controls f ≡ [] → is_held_back (s.row f) ≡ false → refusal (components_seen s) (Tick f) ≡ None → IsKeptStep s (Tick f) (pick_outcome s f (PickRo e rest))
  step_ro laws free clear none = ro_step laws free (free_to_receive (s.row f) clear) none e.ordered refl
