use Rattle.std.proofs.Common.{◌≡◌, ℕ, List, Option, Some, [], ◌∷◌, ◌++◌, map, eqb, sym, ap, ◌∙◌, arith}
use Rattle.std.proofs.lemmas.List.{append-nil, append_assoc}
use Rattle.std.specs.List.{filter_map}
use Rattle.hla_base.specs.declared.content.Discovery.{Discovery}
use Rattle.hla_base.specs.Tables.{numbers_below, upd, when}
use Rattle.hla_null_message.specs.declared.message.Message.{Message}
use Rattle.hla_null_message.specs.declared.message.Message.TheVariants as message
use Rattle.hla_machine.specs.Directory.{Directory, discovery_of, discovery_at, with_subscribed}
use Rattle.hla_machine.specs.Registered.{registry_of}
use Rattle.hla_federation.specs.FederationValue.{FederationValue}
use Rattle.hla_execution.specs.MemberValue.{item}
use Rattle.hla_federation.specs.Steps.State.{state_of}
use Rattle.hla_components.proofs.Services.Discoveries.{discovery_tells}
use Rattle.hla_federation.proofs.Steps.FoundObjects.{made_below, made_first, put_one, found_some, found_none, when_none, last_made, none_made}
use Rattle.hla_federation.proofs.parts.Parts.address_found.Goals as goal
use Rattle.hla_federation.proofs.parts.Parts.address_found.Goals.{in-Some+in_ok-shared_name+in_ok-put, in_default}

-- what is made of an object for the wire from a federate
abbrev made_of : FederationValue → ℕ → ℕ → List ℕ → ℕ → ℕ → Option Discovery
made_of v f class a g h = when (eqb ((registry_of v.objects).object h).owner g) (discovery_of (with_subscribed (state_of v).directory f class (Some a)) f h)

pub loop-object-init : goal.loop-object-init
loop-object-init c = λ a g.
    let o = item [] c.args.outbox.now g in
    sym (append-nil o) ∙ ap (λ (ms : List Message). o ++ ms) (sym (made_first message.Discovery (made_of c.args.self.now c.args.federate c.args.class a g) (when_none (eqb 0 g))))

pub put-requires-clause-some : goal.put-requires-clause-some
put-requires-clause-some c =
    let at = c.next_object-end.ensures.owned c.loop-object.object (omega (arith, c.loop-object.auto.object)) (omega (arith, c.loop-object-test.true, c.next_object-end.ensures.next)) in
    omega (arith, at, c.owner.ensures)

pub put-requires-clause-within : goal.put-requires-clause-within
put-requires-clause-within c =
    let v = c.args.self.now in
    let h = c.loop-object.object in
    let d : Directory = with_subscribed (state_of c.args.self.now).directory c.args.federate c.args.class (Some []) in
    let found = found_some d c.args.federate h c.in-Some.class (sym c.in-Some.is ∙ c.discovery_class.ensures []) in
    let tells = discovery_tells d c.args.federate h _ found in
    let owner : c.owner.result ≡ ((registry_of c.args.self.now.objects).object h).owner = c.owner.ensures ∙ ap (λ (v : FederationValue). ((registry_of v.objects).object h).owner) c.self.view_is in
    let below = (c.requires.kept.kept.directory.owners h tells.1).0 in
    omega (arith, owner, below, c.requires.whole.parts.few)

pub loop-object-preserved : goal.loop-object-preserved
loop-object-preserved c = λ a g.
    let f = c.args.federate in
    let n = c.loop-object.object in
    let old = item [] c.loop-object.outbox in
    let made = made_of c.args.self.now c.args.federate c.args.class a g in
    let d : Directory = with_subscribed (state_of c.args.self.now).directory c.args.federate c.args.class (Some a) in
    let first = item [] c.args.outbox.now g in
    let before = map message.Discovery (filter_map (made_of c.args.self.now c.args.federate c.args.class a g) (numbers_below c.loop-object.object)) in
    elim c.match-discovery_class.branch [
      | in-Some+in_ok-shared_name+in_ok-put w ↦
          let k = w.in-Some.class in
          let found = found_some d f n k (sym w.in-Some.is ∙ c.discovery_class.ensures a) in
          let owner : w.owner.result ≡ (d.object n).owner = w.owner.ensures ∙ ap (λ (v : FederationValue). ((registry_of v.objects).object n).owner) c.self.view_is in
          let name : w.in_ok-shared_name.field-0 ≡ (d.object n).name = w.in_ok-shared_name.ensures.ok ∙ w.name_of.ensures ∙ ap (λ (v : FederationValue). ((registry_of v.objects).object n).name) c.self.view_is in
          ap (λ (o : List (List Message)). item [] o g) w.outbox-is
          ∙ ap (λ (t : ℕ → List Message). t g) w.in_ok-put.ensures.ok
          ∙ (λ i. upd old (owner i) (old (owner i) ++ message.Discovery (record { object = n; class = k; name = name i }) ∷ []) g)
          ∙ put_one old (d.object n).owner (message.Discovery (discovery_at d n k) ∷ []) g
          ∙ (λ i. c.loop-object.invariant a g i ++ last_made message.Discovery (eqb (d.object n).owner g) (discovery_of d f n) (discovery_at d n k) found i)
          ∙ append_assoc first before _
          ∙ ap (λ (ms : List Message). first ++ ms) (sym (made_below message.Discovery made n))
      | in_default w ↦
          let none = found_none d f n (sym w.in_default.is ∙ c.discovery_class.ensures a) in
          ap (λ (o : List (List Message)). item [] o g) w.outbox-is
          ∙ sym (append-nil (old g))
          ∙ (λ i. c.loop-object.invariant a g i ++ none_made message.Discovery (eqb (d.object n).owner g) (discovery_of d f n) none i)
          ∙ append_assoc first before _
          ∙ ap (λ (ms : List Message). first ++ ms) (sym (made_below message.Discovery made n))
    ]

pub returns-clause-ok : goal.returns-clause-ok
returns-clause-ok c = λ a g.
    let first = item [] c.args.outbox.now g in
    let end : c.loop-object.object ≡ (registry_of c.args.self.now.objects).next_object =
    (let old : (registry_of c.self.inside.registry).next_object ≡ (registry_of c.args.self.now.objects).next_object = ap (λ (v : FederationValue). (registry_of v.objects).next_object) c.self.view_is in
    omega (arith, old, c.next_object-end.ensures.next, c.loop-object-test.false, c.loop-object.auto.object-end)) in
    c.loop-object.invariant a g ∙ ap (λ (n : ℕ). first ++ map message.Discovery (filter_map (made_of c.args.self.now c.args.federate c.args.class a g) (numbers_below n))) end
