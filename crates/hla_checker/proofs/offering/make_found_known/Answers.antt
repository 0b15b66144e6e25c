use Rattle.std.proofs.Common.{◌≡◌, ◌≤◌, ℕ, Bool, true, false, is_some, refl, sym, ap, ◌∙◌, arith}
use Rattle.hla_base.specs.Tables.{upd2}
use Rattle.hla_declaration.specs.Declarations.{declarations_of}
use Rattle.hla_machine.specs.Directory.{Directory, discovery_of}
use Rattle.hla_machine.specs.Registered.{RegistryValue, registry_of}
use Rattle.hla_object_registry.proofs.Unregistered.{no_object_above}
use Rattle.hla_verdicts.specs.Kept.{directory_kept}
use Rattle.hla_checker.proofs.Objects.FoundObjects.{known_more, known_same, known_all, still_found, is_found}
use Rattle.hla_checker.proofs.offering.make_found_known.Goals as goal
use Rattle.hla_checker.proofs.offering.make_found_known.Goals.{then-is_some, else-is_some}

pub loop-object-preserved : goal.loop-object-preserved
loop-object-preserved c =
    let f = c.args.federate in
    let n = c.loop-object.object in
    let r0 = registry_of c.args.registry.now in
    let d : RegistryValue → Directory = λ r. directory_kept c.args.catalogue.now (declarations_of c.args.declarations.now) r in
    let found : ℕ → Bool = λ h. is_some (discovery_of (d r0) f h) in
    let now : found n ≡ is_some c.discovery_class.result =
    ap is_some (sym (ap (λ (r : RegistryValue). discovery_of (d r) f n) c.loop-object.invariant ∙ still_found (d r0) f n found))
    ∙ is_found c.discovery_class.result _ c.discovery_class.ensures in
    elim c.if-is_some.branch [
      | then-is_some w ↦ ap registry_of w.registry-is ∙ w.make_known.ensures ∙ ap (λ (r : RegistryValue). record r { known = upd2 r.known n f true }) c.loop-object.invariant
          ∙ ap (λ (k : ℕ → ℕ → Bool). record r0 { known = k }) (known_more found r0.known f n (now ∙ sym w.if-is_some.ensures))
      | else-is_some w ↦ ap registry_of w.registry-is ∙ c.loop-object.invariant
          ∙ ap (λ (k : ℕ → ℕ → Bool). record r0 { known = k }) (known_same found r0.known f n (now ∙ sym w.if-is_some.ensures))
    ]

pub returns : goal.returns
returns c =
    let f = c.args.federate in
    let r0 = registry_of c.args.registry.now in
    let end : (registry_of c.args.registry.now).next_object ≤ c.loop-object.object = omega (arith, c.next_object-end.ensures.next, c.loop-object-test.false) in
    let none : (h : ℕ) → c.loop-object.object ≤ h → is_some (discovery_of (directory_kept c.args.catalogue.now (declarations_of c.args.declarations.now) (registry_of c.args.registry.now)) c.args.federate h) ≡ false =
    λ h above. let no = no_object_above c.args.registry.now h (omega (arith, end, above)) in rw no refl in
    c.loop-object.invariant ∙ ap (λ (k : ℕ → ℕ → Bool). record r0 { known = k }) (known_all _ r0.known f c.loop-object.object none)
