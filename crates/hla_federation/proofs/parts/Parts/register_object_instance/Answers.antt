use Rattle.std.proofs.Common.{◌≡◌, ◌<◌, ◌+◌, ◌++◌, ℕ, zero, suc, List, [], Option, None, Some, unwrap_or, length, true, false, refl, sym, ap, subst, ◌∙◌, arith}
use Rattle.hla_declaration.specs.Declarations as declared
use Rattle.hla_machine.specs.declared.service.Service.TheVariants as service
use Rattle.hla_machine.specs.declared.step.Step.TheVariants as step
use Rattle.hla_machine.specs.Directory.{default_name, name_or_default, with_object}
use Rattle.hla_machine.specs.Refusals.{refusal, is_name_used}
use Rattle.hla_machine.specs.Registered.{Registered, RegistryValue, registry_of}
use Rattle.hla_synchronization.specs.OpenPoints.{points_of}
use Rattle.hla_federation.specs.contracts.parts.Parts.{the_view}
use Rattle.hla_members.specs.declared.direction.Direction.TheVariants.{From}
use Rattle.hla_federation.specs.Steps.Discovering.{AreFederates, discovery_to, with_known_among}
use Rattle.hla_federation.specs.FederationValue.{FederationValue}
use Rattle.hla_execution.specs.MemberValue.{item, MemberValue, members_of}
use Rattle.hla_members.specs.Members.{HasRoom, wires_posted_below}
use Rattle.hla_machine.specs.declared.step.Answer.TheVariants as answer
use Rattle.hla_components.specs.Components.{Components}
use Rattle.hla_components.specs.Next.{components_seen, answer_outcome, with_object_registered}
use Rattle.hla_federation.proofs.Steps.Doing.{does_next}
use Rattle.hla_federation.specs.Steps.State.{state_of, state_from, IsWhole}
use Rattle.hla_federation.proofs.Steps.NewObjects.{joined_some, registered_whole}
use Rattle.hla_declaration.specs.Receivers.{object_class_served, receivers_of}
use Rattle.std.specs.Option.{option_map_or}
use Rattle.hla_base.specs.Tables.{upd2}
use Rattle.hla_object_registry.specs.Queries as registry
use Rattle.hla_object_registry.proofs.Unregistered.{nothing_known_above}
use Rattle.hla_null_message.specs.declared.message.Message.{Message}
use Rattle.hla_federation.specs.Steps.Sending.{messages_among}
use Rattle.hla_federation.specs.Steps.Soundness.{IsSound}
use Rattle.hla_federation.proofs.Steps.Resigning.{joined_below}
use Rattle.hla_federation.proofs.Steps.Registering.{registered_state}
use Rattle.hla_machine.proofs.Basics.Tests.{clear_call}
use Rattle.hla_federation.proofs.parts.Parts.register_object_instance.Goals as goal

-- the name of a new object is the given one, or the one that is next
named : (o : Option (List ℕ)) (h : ℕ) (next : List ℕ) → next ≡ default_name h → unwrap_or o next ≡ name_or_default h o
named None h next is = is
named (Some n) h next is = refl

nothing_at : (g : ℕ) → item {X = List Message} [] [] g ≡ []
nothing_at zero = refl
nothing_at (suc k) = refl

pub register-requires-clause-unused : goal.register-requires-clause-unused
register-requires-clause-unused c =
    let none : refusal (components_seen (state_of c.args.self.now)) (step.Call c.args.federate (service.RegisterObjectInstance c.args.class c.args.name.now)) ≡ None = sym c.register_fault.ensures ∙ c.in_default.is in
    let clear = clear_call (components_seen (state_of c.args.self.now)) c.args.federate (service.RegisterObjectInstance c.args.class c.args.name.now) none in
    let h = (registry_of c.args.self.now.objects).next_object in
    let unused : is_name_used (state_of c.args.self.now).directory (name_or_default h c.args.name.now) ≡ false = clear.1.1.0 in
    let given : c.in_ok-new.new.name ≡ name_or_default h c.args.name.now =
    c.in_ok-new.ensures.name ∙ named c.args.name.now h c.args.self.now.next_name (c.requires.sound.whole.named c.args.federate c.requires.joined) in
    subst (λ name. is_name_used (state_of (the_view c.self.inside)).directory name ≡ false) (sym given) (subst (λ v. is_name_used (state_of v).directory (name_or_default h c.args.name.now) ≡ false) (sym c.self.view_is) unused)

pub post_all-requires-clause-end : goal.post_all-requires-clause-end
post_all-requires-clause-end c =
    let joined = c.requires.joined in
    let below : c.args.federate < (members_of c.args.self.now.members).next_federate = c.requires.sound.kept.kept.directory.members c.args.federate joined in
    (joined_some c.args.self.now.members c.args.federate joined, omega (arith, below, ap (λ (v : FederationValue). length v.members) c.self.view_is, ap (λ (ms : List MemberValue). length ms) c.in_ok-reserve_all.ensures.same))

pub post_all-requires-clause-room : goal.post_all-requires-clause-room
post_all-requires-clause-room c = subst (λ (m : List MemberValue). HasRoom (From c.args.federate) (item [] c.in_ok-outbox.outbox) 1 (members_of m).next_federate c.reserve_all.new.self.rooms) (sym c.in_ok-reserve_all.ensures.same) c.in_ok-reserve_all.ensures.ok

pub make_known_to-requires-clause-federates : goal.make_known_to-requires-clause-federates
make_known_to-requires-clause-federates c = subst AreFederates (sym c.as_slice-2.ensures) c.in_ok-outbox.ensures.federates

pub returns-clause-whole : goal.returns-clause-whole
returns-clause-whole c =
    let old = c.args.self.now in
    let f = c.args.federate in
    let shown : c.reserve_all.new.self.shown ≡ c.args.self.now.members = c.in_ok-reserve_all.ensures.same ∙ ap (λ (v : FederationValue). v.members) c.self.view_is in
    let members_is = c.post_all.ensures
    ∙ ap (λ (l : List MemberValue). record (members_of l) { wire = wires_posted_below (From c.args.federate) (item [] c.in_ok-outbox.outbox) (members_of l).next_federate (members_of l).wire }) shown in
    let objects_in : c.self-2.inside.registry ≡ c.make_known_to.new.self.objects = ap (λ (v : FederationValue). v.objects) c.self-2.view_is in
    let after : the_view c.self-2.inside ≡ record c.args.self.now { objects = c.self-2.inside.registry; members = c.post_all.new.self.shown } =
    c.self-2.view_is ∙ c.make_known_to.ensures.same ∙ (λ i. record (c.self.view_is i) { objects = sym objects_in i; members = c.post_all.new.self.shown }) in
    let next : (registry_of c.self-2.inside.registry).next_object ≡ c.next_object-object.result + 1 =
    ap (λ (o : List Registered). (registry_of o).next_object) objects_in ∙ ap (λ (r : RegistryValue). r.next_object) c.make_known_to.ensures.known
    ∙ ap (λ (r : RegistryValue). r.next_object) c.in_ok-register.ensures.registered ∙ ap (λ n. n + 1) (sym c.next_object-object.ensures.next) in
    subst IsWhole (sym (ap (λ (v : FederationValue). record v { next_name = c.in_ok-new.new.next_name }) after))
    (registered_whole old c.self-2.inside.registry c.post_all.new.self.shown _ c.in_ok-new.new.next_name c.requires.sound.whole members_is (c.in_ok-new.ensures.next ∙ ap default_name (sym next)))

pub returns-clause-done : goal.returns-clause-done
returns-clause-done c =
    let f = c.args.federate in
    let none : refusal (components_seen (state_of c.args.self.now)) (step.Call c.args.federate (service.RegisterObjectInstance c.args.class c.args.name.now)) ≡ None = sym c.register_fault.ensures ∙ c.in_default.is in
    let joined = c.requires.joined in
    let h = (registry_of c.args.self.now.objects).next_object in
    let given : c.in_ok-new.new.name ≡ name_or_default h c.args.name.now =
    c.in_ok-new.ensures.name ∙ named c.args.name.now h c.args.self.now.next_name (c.requires.sound.whole.named f joined) in
    let sound = subst IsSound (sym c.self.view_is) c.requires.sound in
    let old = the_view c.self.inside in
    let d = declared.declarations_of c.self.inside.declarations in
    let r = registry_of c.self.inside.registry in
    let m = members_of c.self.inside.members.shown in
    let o = item [] c.in_ok-outbox.outbox in
    let to_all = receivers_of (λ k. object_class_served c.self.inside.catalogue d.subscribed k c.args.class) d.federates f in
    let receivers_is : c.in_ok-outbox.receivers ≡ to_all =
    c.in_ok-outbox.ensures.receivers ∙ ap (λ (v : FederationValue). receivers_of (λ k. object_class_served v.catalogue (state_of v).directory.subscribed k c.args.class) (declared.declarations_of v.declarations).federates f) (sym c.self.view_is) in
    let to = rw (receivers_is, c.as_slice.ensures, c.next_object-object.ensures.next) at c.in_ok-outbox.ensures.made in
    let out : (g : ℕ) → o g ≡ messages_among (discovery_to r.next_object c.in_ok-new.new.name) to_all g
    = λ g. to g ∙ ap (λ (ms : List Message). ms ++ messages_among (discovery_to r.next_object c.in_ok-new.new.name) to_all g) (nothing_at g) in
    let members_is = c.post_all.ensures
    ∙ ap (λ (l : List MemberValue). record (members_of l) { wire = wires_posted_below (From c.args.federate) (item [] c.in_ok-outbox.outbox) (members_of l).next_federate (members_of l).wire }) c.in_ok-reserve_all.ensures.same in
    let objects_in : c.self-2.inside.registry ≡ c.make_known_to.new.self.objects = ap (λ (v : FederationValue). v.objects) c.self-2.view_is in
    let known = rw (c.as_slice-2.ensures, receivers_is, c.next_object-object.ensures.next) at c.make_known_to.ensures.known in
    let attributes = option_map_or (λ xs. xs) (d.published f c.args.class) [] in
    let registered : registry_of c.register.new.self ≡ registry.with_registered r c.args.class c.in_ok-new.new.name f attributes
    = c.in_ok-register.ensures.registered ∙ ap (λ (a : List ℕ). registry.with_registered r c.args.class c.in_ok-new.new.name f a) (c.in_ok-new.ensures.attributes
    ∙ ap (λ (v : FederationValue). option_map_or (λ xs. xs) ((declared.declarations_of v.declarations).published f c.args.class) []) (sym c.self.view_is)) in
    let made : registry_of c.make_known_to.new.self.objects ≡ record (registry_of c.register.new.self) { known = with_known_among to_all r.next_object (registry_of c.register.new.self).known } = known in
    let objects_is : registry_of c.self-2.inside.registry ≡ record (registry.with_registered r c.args.class c.in_ok-new.new.name f attributes) { known = with_known_among to_all r.next_object (upd2 r.known r.next_object f true) }
    = ap registry_of objects_in ∙ made ∙ ap (λ (x : RegistryValue). record x { known = with_known_among to_all r.next_object x.known }) registered in
    let new = registered_state c.self.inside.catalogue (points_of c.self.inside.points) d r m f c.args.class c.in_ok-new.new.name o sound.kept.kept.directory sound.whole.parts.federates (λ g k away. (sound.whole.parts.silent g k away).objects)
    (λ g. nothing_known_above c.self.inside.registry r.next_object g (omega arith)) out (joined_below c.self.inside.members.shown) in
    let after : the_view c.self-2.inside ≡ record (the_view c.self.inside) { objects = c.self-2.inside.registry; members = c.post_all.new.self.shown }
    = c.self-2.view_is ∙ c.make_known_to.ensures.same ∙ (λ i. record (the_view c.self.inside) { objects = sym objects_in i; members = c.post_all.new.self.shown }) in
    let ended = state_from c.self.inside.catalogue (points_of c.self.inside.points) d (registry_of c.self-2.inside.registry) (members_of c.post_all.new.self.shown) in
    let answered : c.in_ok-new.new.answered ≡ c.in_ok-new.new.name = c.in_ok-new.ensures.answered in
    does_next (state_of c.args.self.now) (step.Call f (service.RegisterObjectInstance c.args.class c.args.name.now)) none
    ∙ ap (λ (g : List ℕ). answer_outcome (answer.Registered (registry_of c.args.self.now.objects).next_object g) (with_object_registered (state_of c.args.self.now) f (registry_of c.args.self.now.objects).next_object (with_object (state_of c.args.self.now).directory f c.args.class g))) (sym given)
    ∙ ap (λ (v : FederationValue). answer_outcome (answer.Registered (registry_of v.objects).next_object c.in_ok-new.new.name) (with_object_registered (state_of v) f (registry_of v.objects).next_object (with_object (state_of v).directory f c.args.class c.in_ok-new.new.name))) (sym c.self.view_is)
    ∙ ap (λ (s : Components). answer_outcome (answer.Registered r.next_object c.in_ok-new.new.name) s) (new ∙ (λ i. state_from c.self.inside.catalogue (points_of c.self.inside.points) d (sym objects_is i) (sym members_is i)))
    ∙ (λ i. answer_outcome (answer.Registered (sym c.next_object-object.ensures.next i) (sym answered i)) ended)
    ∙ ap (λ (v : FederationValue). answer_outcome (answer.Registered c.next_object-object.result c.in_ok-new.new.answered) (state_of (record v { next_name = c.in_ok-new.new.next_name }))) (sym after)
