use Rattle.std.proofs.Common.{◌≡◌, ℕ, ◌+◌, Bool, refl, ap, sym, ◌∙◌, arith, drop}
use Rattle.std.proofs.lemmas.List.{at_drop_more, at_drop_all}
use Rattle.hla_machine.specs.Registered.{RegistryValue, registry_of}
use Rattle.hla_federation.specs.FederationValue.{FederationValue}
use Rattle.hla_federation.specs.contracts.parts.Parts.{the_view}
use Rattle.hla_federation.specs.declared.parts.Parts.TheInside.{Inside}
use Rattle.hla_federation.specs.Steps.Discovering.{with_known_among}
use Rattle.hla_federation.proofs.parts.Parts.make_known_to.Goals as goal

pub loop-receiver-init : goal.loop-receiver-init
loop-receiver-init c = record { same = refl; objects = refl; known = refl }

pub make_known-requires-clause-registered : goal.make_known-requires-clause-registered
make_known-requires-clause-registered c =
    let next : (registry_of c.loop-receiver.self-inside.registry).next_object ≡ (registry_of c.self.inside.registry).next_object = ap (λ (r : RegistryValue). r.next_object) c.loop-receiver.invariant.objects in
    let old : (registry_of c.self.inside.registry).next_object ≡ (registry_of c.args.self.now.objects).next_object = ap (λ (v : FederationValue). (registry_of v.objects).next_object) c.self.view_is in
    omega (arith, next, old, c.requires.registered)

pub loop-receiver-preserved : goal.loop-receiver-preserved
loop-receiver-preserved c =
    let i = c.loop-receiver.receiver-index in
    let rs = c.args.receivers.now in
    let r0 = registry_of c.loop-receiver.self-inside.registry in
    record {
      same = ap (λ (x : Inside). record x { registry = c.make_known.new.self }) c.loop-receiver.invariant.same;
      objects = c.make_known.ensures ∙ ap (λ (k : ℕ → ℕ → Bool). record r0 { known = k }) (sym (ap (λ (r : RegistryValue). r.known) c.make_known.ensures))
          ∙ ap (λ (r : RegistryValue). record r { known = (registry_of c.make_known.new.self).known }) c.loop-receiver.invariant.objects;
      known = ap (λ (r : RegistryValue). with_known_among (drop (i + 1) rs) c.args.object r.known) c.make_known.ensures
          ∙ sym (at_drop_more (λ xs. with_known_among xs c.args.object r0.known) rs i _ c.loop-receiver-test.true)
          ∙ c.loop-receiver.invariant.known;
    }

pub returns-clause-same : goal.returns-clause-same
returns-clause-same c =
    ap the_view c.loop-receiver.invariant.same ∙ ap (λ (v : FederationValue). record v { objects = c.loop-receiver.self-inside.registry }) c.self.view_is

pub returns-clause-known : goal.returns-clause-known
returns-clause-known c =
    let all = sym (at_drop_all (λ xs. with_known_among xs c.args.object (registry_of c.loop-receiver.self-inside.registry).known) c.args.receivers.now c.loop-receiver.receiver-index c.loop-receiver-test.false) in
    c.loop-receiver.invariant.objects
    ∙ ap (λ (k : ℕ → ℕ → Bool). record (registry_of c.self.inside.registry) { known = k }) (all ∙ c.loop-receiver.invariant.known)
    ∙ ap (λ (v : FederationValue). record (registry_of v.objects) { known = with_known_among c.args.receivers.now c.args.object (registry_of v.objects).known }) c.self.view_is
