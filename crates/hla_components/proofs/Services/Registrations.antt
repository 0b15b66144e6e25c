-- A federate registers an object
use Rattle.std.proofs.Common.{◌≡◌, ◌≢◌, ℕ, eqb, ◌&&◌, true, false, refl, sym, subst, ⊎_elim, arith, eq-eqb, is_some, List, ◌++◌, Option, None}
use Rattle.std.proofs.lemmas.Bool.{cases_eq, and_parts, and_from, cases_Bool}
use Rattle.std.proofs.lemmas.List.{append_assoc}
use Rattle.hla_base.specs.declared.content.Content.{Content}
use Rattle.hla_base.specs.declared.content.Discovery.{Discovery}
use Rattle.hla_null_message.specs.declared.message.Message.{Message}
use Rattle.hla_base.specs.Tables.{is_other, upd_row}
use Rattle.hla_machine.specs.declared.service.Service.TheVariants as service
use Rattle.hla_machine.specs.declared.step.Step.TheVariants.{Call}
use Rattle.hla_machine.specs.Directory.{Directory, discovery_of, discoveries_of, with_object_discovered, served_object, with_object, name_or_default}
use Rattle.hla_machine.specs.Machine.{after_register}
use Rattle.hla_machine.specs.Refusals.{refusal}
use Rattle.hla_null_message.specs.Wires.{events, discoveries, retractions}
use Rattle.hla_component_rules.specs.Controls.{discoveries_from}
use Rattle.hla_components.specs.Components.{Components}
use Rattle.hla_components.specs.Next.{components_seen, step_outcome, put_discoveries, with_object_registered}
use Rattle.hla_components.specs.CentralOf.{central}
use Rattle.hla_components.specs.Invariant.{EachOf, DirectoryInv, Tells, IsTold, IsBehind, IsKnownOf, Kept}
use Rattle.hla_components.specs.Headline.{IsKeptStep}
use Rattle.hla_base.proofs.Tables.{by_number, upd_other, upd2_each, upd_row_each, upd_row_here, upd_row_self, upd_row_other}
use Rattle.hla_components.proofs.Wiring.Wires.{events-put_discoveries, discoveries-put_discoveries, retractions-put_discoveries}
use Rattle.hla_components.proofs.Wiring.Carries.{Carries-discover}
use Rattle.hla_components.proofs.Upkeep.Times.{CarriesIn, time_wires}
use Rattle.hla_components.proofs.Wiring.Copies.{copies_wires}
use Rattle.hla_components.proofs.Upkeep.Objects.{AreNew, objects_shift, behind_put, tells_discover, tells_grows}
use Rattle.hla_components.proofs.Upkeep.Directories.{directory_registered, grows_registered}
use Rattle.hla_machine.proofs.Basics.Bags.{central_ext}
use Rattle.hla_components.proofs.Wiring.Bags.{bag_same_wires}
use Rattle.hla_components.proofs.Services.Discoveries.{discovery_tells, each_discovery}
use Rattle.hla_machine.proofs.Basics.Tests.{caller_joined}
use Rattle.hla_components.proofs.Services.Steps.{wired_row}

-- what is known stays known
pub still_known : (d : Directory) (f class : ℕ) (name : List ℕ) (h k : ℕ) → (with_object d f class name).known h k ≡ false → d.known h k ≡ false
still_known d f class name h k n = ⊎_elim
    (λ (y : d.known h k ≡ true). absurd (let z : (with_object d f class name).known h k ≡ true = upd2_each d.known d.next_object f true (λ h k x. d.known h k ≡ true → x ≡ true) (λ _. refl) (λ _ _ e. e) h k y in cc))
    (λ n. n)
    (cases_Bool (d.known h k))

-- only the new object is to be discovered
pub is_new : (d : Directory) (f class : ℕ) (name : List ℕ) → DirectoryInv d → (h k : ℕ) → d.joined k ≡ true → ((with_object d f class name).object h).exists ≡ true → ((with_object d f class name).object h).owner ≢ k
    → (with_object d f class name).known h k ≡ false → is_some (served_object (with_object d f class name) k ((with_object d f class name).object h).class) ≡ true → d.next_object ≡ h
is_new d f class name inv h k j = ⊎_elim
    (λ (e : d.next_object ≡ h) _ _ _ _. e)
    (λ (ne : d.next_object ≢ h). rw upd_other (λ exists other n served. absurd (let y : d.known h k ≡ true = inv.served k h j exists other served in let m = still_known d f class name h k n in cc)))
    (cases_eq d.next_object h)

module _ (s : Components) (f class : ℕ) (name : List ℕ) (kept : Kept s) (member : s.directory.joined f ≡ true) where
  abbrev d : Directory
  d = with_object s.directory f class name

  abbrev later : Directory
  later = with_object_discovered (with_object s.directory f class name) s.directory.next_object

  abbrev put_for : ℕ → List Message → List Message
  put_for k = put_discoveries (discoveries_of (with_object s.directory f class name) f k)

  abbrev wire : ℕ → ℕ → List Message
  wire = upd_row s.wire s.directory.joined f put_for

  new_for : (k : ℕ) → AreNew s.directory k (discoveries_of d f k)
  new_for k = each_discovery d f k (λ x. s.directory.known x.object k ≡ false) (λ h x owner is. let t = discovery_tells d k h x is in subst (λ h. s.directory.known h k ≡ false) (sym t.0) (still_known s.directory f class name h k t.3))

  known_for : (k : ℕ) → s.directory.joined k ≡ true → EachOf (λ (x : Discovery). IsKnownOf later f k x.object) (discoveries_of d f k)
  known_for k j = each_discovery d f k (λ x. IsKnownOf later f k x.object) (λ h x owner is.
      let t = discovery_tells d k h x is in
      let new : s.directory.next_object ≡ h = is_new s.directory f class name kept.directory h k j t.1 t.2 t.3 t.4 in
      let some : is_some (discovery_of d k s.directory.next_object) ≡ true = subst (λ h. is_some (discovery_of d k h) ≡ true) (sym new) (rw is refl) in
      let now : (eqb s.directory.next_object h && s.directory.joined k && is_some (discovery_of d k s.directory.next_object)) ≡ true = and_from _ _ (and_from _ _ (eq-eqb s.directory.next_object h new) j) some in
      subst (λ h. IsKnownOf later f k h) (sym t.0) (record { owner = owner; known = rw now refl; registered = omega arith }))

  register_events : (g k : ℕ) → events (upd_row s.wire s.directory.joined f put_for g k) ≡ events (s.wire g k)
  register_events = upd_row_each s.wire s.directory.joined f put_for (λ g k ms. events ms ≡ events (s.wire g k)) (λ k _. events-put_discoveries (discoveries_of d f k) (s.wire f k)) (λ _ _. refl)

  register_retractions : (g m k : ℕ) → retractions m (upd_row s.wire s.directory.joined f put_for g k) ≡ retractions m (s.wire g k)
  register_retractions g m k = upd_row_each s.wire s.directory.joined f put_for (λ g k ms. retractions m ms ≡ retractions m (s.wire g k)) (λ k _. retractions-put_discoveries (discoveries_of d f k) m (s.wire f k)) (λ _ _. refl) g k

  pub kept_registers : Kept (with_object_registered s f s.directory.next_object (with_object s.directory f class name))
  kept_registers = record {
    directory = directory_registered s.directory f class name kept.directory member;
    wired = wired_row s f put_for kept member;
    time = time_wires s wire kept.time (upd_row_each s.wire s.directory.joined f put_for (CarriesIn s)
        (λ k _. Carries-discover _ (s.last_announced f) (s.known_epoch k f) f _ (s.serial f) (discoveries_of d f k) (s.wire f k) (s.bound k f) (kept.time.wires f k)) kept.time.wires);
    copies = copies_wires s wire register_events kept.copies;
    objects = objects_shift s.directory later s.wire wire s.tso s.ro s.controls (grows_registered s.directory f class name)
        (upd_row_each s.wire s.directory.joined f put_for (Tells later)
        (λ k other. tells_discover s.directory later f k (s.wire f k) (discoveries_of d f k) (grows_registered s.directory f class name) (known_for k (and_parts _ _ other).1) (new_for k) (kept.objects.tells f k))
        (λ g k. tells_grows s.directory later g k (s.wire g k) (grows_registered s.directory f class name) (kept.objects.tells g k)))
        (upd_row_each s.wire s.directory.joined f put_for (λ g k ms. (x : Content) → IsTold s.directory g k x → IsBehind x (discoveries (s.wire g k)) → IsBehind x (discoveries ms))
        (λ k _ x told b. subst (IsBehind x) (sym (discoveries-put_discoveries (discoveries_of d f k) (s.wire f k))) (behind_put s.directory f k x (discoveries (s.wire f k)) (discoveries_of d f k) told (new_for k) b))
        (λ g k x told b. b)) kept.objects;
  }

  register_discoveries : (g k : ℕ) → discoveries_from g (s.controls k) ++ discoveries (upd_row s.wire s.directory.joined f put_for g k)
      ≡ upd_row (λ g k. discoveries_from g (s.controls k) ++ discoveries (s.wire g k)) s.directory.joined f (λ k ds. ds ++ discoveries_of d f k) g k
  register_discoveries = by_number f _
      (λ k. ⊎_elim
      (λ (o : is_other s.directory.joined f k ≡ true). rw (upd_row_here, upd_row_here, discoveries-put_discoveries) (sym (append_assoc (discoveries_from f (s.controls k)) (discoveries (s.wire f k)) (discoveries_of d f k))))
      (λ (o : is_other s.directory.joined f k ≡ false). rw (upd_row_self, upd_row_self) refl)
      (cases_Bool (is_other s.directory.joined f k)))
      (λ g ne k. rw (upd_row_other, upd_row_other) refl)

  pub central_registers : central (with_object_registered s f s.directory.next_object (with_object s.directory f class name)) ≡ after_register (central s) f class name
  central_registers = central_ext _ _ refl refl refl refl (bag_same_wires s wire register_events) register_discoveries register_retractions (λ _ _ _. refl) (λ _. refl)

pub step_register : (s : Components) (f class : ℕ) (name : Option (List ℕ)) → Kept s → refusal (components_seen s) (Call f (service.RegisterObjectInstance class name)) ≡ None
    → IsKeptStep s (Call f (service.RegisterObjectInstance class name)) (step_outcome s (Call f (service.RegisterObjectInstance class name)))
step_register s f class name kept none =
    let member = caller_joined (components_seen s) f (service.RegisterObjectInstance class name) none in
    let given = name_or_default s.directory.next_object name in
    record { kept = kept_registers s f class given kept member; allowed = (none, (refl, refl)); follows = central_registers s f class given kept member }
