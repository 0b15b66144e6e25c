use Rattle.std.proofs.Common.{◌≡◌, ◌≤◌, ℕ, List, [], Some, Bool, true, false, is_some, refl, sym, ap, ◌∙◌, arith}
use Rattle.hla_base.specs.Tables.{upd2}
use Rattle.hla_declaration.specs.Declarations as declared
use Rattle.hla_machine.specs.Directory.{Directory, discovery_of, with_subscribed}
use Rattle.hla_machine.specs.Registered.{Registered, RegistryValue, registry_of}
use Rattle.hla_object_registry.proofs.Unregistered.{no_object_above}
use Rattle.hla_synchronization.specs.OpenPoints.{points_of}
use Rattle.hla_federation.specs.FederationValue.{FederationValue}
use Rattle.hla_execution.specs.MemberValue.{members_of}
use Rattle.hla_federation.specs.Steps.State.{state_of, directory_from}
use Rattle.hla_federation.proofs.Steps.FoundObjects.{known_below, known_first, known_more, known_same, known_all, still_found, is_found}
use Rattle.hla_federation.proofs.parts.Parts.make_found_known.Goals as goal
use Rattle.hla_federation.proofs.parts.Parts.make_found_known.Goals.{then-is_some, else-is_some}

pub loop-object-init : goal.loop-object-init
loop-object-init c =
    let f = c.args.federate in
    record {
      same = refl;
      known = λ a. ap (λ (k : ℕ → ℕ → Bool). record (registry_of c.args.self.now.objects) { known = k })
          (known_first (λ h. is_some (discovery_of (with_subscribed (state_of c.args.self.now).directory f c.args.class (Some a)) f h)) (registry_of c.args.self.now.objects).known f refl);
    }

pub make_known-requires-clause-registered : goal.make_known-requires-clause-registered
make_known-requires-clause-registered c =
    let next : (registry_of c.loop-object.self.objects).next_object ≡ (registry_of c.args.self.now.objects).next_object = ap (λ (r : RegistryValue). r.next_object) (c.loop-object.invariant.known []) in
    let old : (registry_of c.self.inside.registry).next_object ≡ (registry_of c.args.self.now.objects).next_object = ap (λ (v : FederationValue). (registry_of v.objects).next_object) c.self.view_is in
    let here : (registry_of c.self-in-loop-object.inside.registry).next_object ≡ (registry_of c.loop-object.self.objects).next_object = ap (λ (v : FederationValue). (registry_of v.objects).next_object) c.self-in-loop-object.view_is in
    omega (arith, next, old, here, c.next_object-end.ensures.next, c.loop-object-test.true)

pub loop-object-preserved : goal.loop-object-preserved
loop-object-preserved c =
    let f = c.args.federate in
    let n = c.loop-object.object in
    let old = c.args.self.now in
    let r0 = registry_of c.args.self.now.objects in
    let d : FederationValue → RegistryValue → List ℕ → Directory = λ v r a. with_subscribed (directory_from v.catalogue (points_of v.points) (declared.declarations_of v.declarations) r (members_of v.members)) f c.args.class (Some a) in
    let found : List ℕ → ℕ → Bool = λ a h. is_some (discovery_of (d old r0 a) f h) in
    let now : (a : List ℕ) → found a n ≡ is_some c.discovery_class.result = λ a.
    ap is_some (sym (ap (λ (v : FederationValue). discovery_of (d v (registry_of c.loop-object.self.objects) a) f n) c.loop-object.invariant.same
    ∙ ap (λ (r : RegistryValue). discovery_of (d old r a) f n) (c.loop-object.invariant.known a)
    ∙ still_found (d old r0 a) f n (found a)))
    ∙ is_found c.discovery_class.result _ (c.discovery_class.ensures a) in
    let before : (v : FederationValue) → v ≡ c.loop-object.self → (a : List ℕ) → registry_of v.objects ≡ record r0 { known = known_below (found a) r0.known f n } =
    λ v is a. ap (λ (v : FederationValue). registry_of v.objects) is ∙ c.loop-object.invariant.known a in
    elim c.if-is_some.branch [
      | then-is_some w ↦
          let objects : c.if-is_some.self.objects ≡ w.make_known.new.self = ap (λ (v : FederationValue). v.objects) w.self-is in
          record {
            same = w.self-is ∙ ap (λ (v : FederationValue). record v { objects = w.make_known.new.self }) (c.self-in-loop-object.view_is ∙ c.loop-object.invariant.same)
                ∙ ap (λ (o : List Registered). record old { objects = o }) (sym objects);
            known = λ a. ap registry_of objects ∙ w.make_known.ensures
                ∙ ap (λ (r : RegistryValue). record r { known = upd2 r.known n f true }) (before _ c.self-in-loop-object.view_is a)
                ∙ ap (λ (k : ℕ → ℕ → Bool). record r0 { known = k }) (known_more (found a) r0.known f n (now a ∙ sym w.if-is_some.ensures));
          }
      | else-is_some w ↦
          record {
            same = w.self-is ∙ c.loop-object.invariant.same ∙ ap (λ (v : FederationValue). record old { objects = v.objects }) (sym w.self-is);
            known = λ a. before _ w.self-is a ∙ ap (λ (k : ℕ → ℕ → Bool). record r0 { known = k }) (known_same (found a) r0.known f n (now a ∙ sym w.if-is_some.ensures));
          }
    ]

pub returns-clause-same : goal.returns-clause-same
returns-clause-same c = c.loop-object.invariant.same

pub returns-clause-known : goal.returns-clause-known
returns-clause-known c = λ a.
    let f = c.args.federate in
    let old : (registry_of c.self.inside.registry).next_object ≡ (registry_of c.args.self.now.objects).next_object = ap (λ (v : FederationValue). (registry_of v.objects).next_object) c.self.view_is in
    let end : (registry_of c.args.self.now.objects).next_object ≤ c.loop-object.object = omega (arith, old, c.next_object-end.ensures.next, c.loop-object-test.false) in
    let none : (h : ℕ) → c.loop-object.object ≤ h → is_some (discovery_of (with_subscribed (state_of c.args.self.now).directory f c.args.class (Some a)) f h) ≡ false =
    λ h above. let no = no_object_above c.args.self.now.objects h (omega (arith, end, above)) in rw no refl in
    c.loop-object.invariant.known a ∙ ap (λ (k : ℕ → ℕ → Bool). record (registry_of c.args.self.now.objects) { known = k }) (known_all _ (registry_of c.args.self.now.objects).known f c.loop-object.object none)
