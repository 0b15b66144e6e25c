use Rattle.std.proofs.Common.{◌≡◌, ◌++◌, ℕ, List, [], Some, None, map, refl, sym, ap, subst, ◌∙◌}
use Rattle.hla_base.specs.Tables.{upd2}
use Rattle.hla_null_message.specs.declared.message.Message.{Message}
use Rattle.hla_null_message.specs.declared.message.Message.TheVariants as message
use Rattle.hla_declaration.specs.Declarations as declared
use Rattle.hla_machine.specs.declared.service.Service.TheVariants as service
use Rattle.hla_machine.specs.declared.step.Step.TheVariants as step
use Rattle.hla_machine.specs.declared.step.Answer.TheVariants as answer
use Rattle.hla_machine.specs.Directory.{with_discoveries_made, discoveries_of, with_subscribed}
use Rattle.hla_machine.specs.Refusals.{refusal}
use Rattle.hla_machine.specs.Registered.{registry_of}
use Rattle.hla_synchronization.specs.OpenPoints.{points_of}
use Rattle.hla_federation.specs.contracts.parts.Parts.{the_view}
use Rattle.hla_members.specs.declared.direction.Direction.TheVariants.{To}
use Rattle.hla_federation.specs.FederationValue.{FederationValue}
use Rattle.hla_execution.specs.MemberValue.{item, MemberValue, MemberTables, members_of}
use Rattle.hla_members.specs.Members.{wires_posted_below}
use Rattle.hla_components.specs.Next.{components_seen, answer_outcome}
use Rattle.hla_federation.specs.Steps.State.{state_of, directory_from, IsWhole}
use Rattle.hla_federation.proofs.Steps.Subscribing.{declarations_after, objects_after, members_after, subscribed_state, subscribed_whole}
use Rattle.hla_federation.proofs.parts.Parts.subscribe_object_class_attributes.Goals as goal

pub returns-clause-whole : goal.returns-clause-whole
returns-clause-whole c =
    let old = c.args.self.now in
    let f = c.args.federate in
    let a = c.args.attributes.now in
    let o = item [] c.address_found.new.outbox in
    let m = c.post_all.new.self.shown in
    let joined = c.requires.joined in
    let v1 : record (the_view c.self.inside) { members = c.post_all.new.self.shown } ≡ record c.args.self.now { members = c.post_all.new.self.shown } = ap (λ (v : FederationValue). record v { members = c.post_all.new.self.shown }) c.self.view_is in
    let shown : c.reserve_all.new.self.shown ≡ c.args.self.now.members = c.in_ok-reserve_all.ensures.same ∙ ap (λ (v : FederationValue). v.members) c.self.view_is in
    let members_is : members_of c.post_all.new.self.shown ≡ members_after c.args.self.now c.args.federate (item [] c.address_found.new.outbox) =
    c.post_all.ensures ∙ ap (λ (l : List MemberValue). record (members_of l) { wire = wires_posted_below (To c.args.federate) (item [] c.address_found.new.outbox) (members_of l).next_federate (members_of l).wire }) shown in
    let objects_in : c.self-2.inside.registry ≡ c.make_found_known.new.self.objects = ap (λ (v : FederationValue). v.objects) c.self-2.view_is in
    let after : the_view c.self-2.inside ≡ record c.args.self.now { objects = c.self-2.inside.registry; members = c.post_all.new.self.shown } =
    c.self-2.view_is ∙ c.make_found_known.ensures.same ∙ (λ i. record (v1 i) { objects = sym objects_in i }) in
    let objects_is : registry_of c.self-2.inside.registry ≡ objects_after c.args.self.now c.args.federate c.args.class c.args.attributes.now =
    ap registry_of objects_in ∙ c.make_found_known.ensures.known a
    ∙ ap (λ (v : FederationValue). record (registry_of v.objects) { known = (with_discoveries_made (with_subscribed (state_of v).directory f c.args.class (Some a)) f).known }) v1
    ∙ ap (λ (t : MemberTables). record (registry_of old.objects) { known = (with_discoveries_made (with_subscribed (directory_from old.catalogue (points_of old.points) (declared.declarations_of old.declarations) (registry_of old.objects) t) f c.args.class (Some a)) f).known }) members_is in
    let declarations_is : declared.declarations_of c.subscribe_object_class_attributes.new.self ≡ declarations_after c.args.self.now c.args.federate c.args.class c.args.attributes.now =
    c.subscribe_object_class_attributes.ensures
    ∙ (λ i. record (declared.declarations_of ((after i).declarations)) { subscribed = upd2 (declared.declarations_of ((after i).declarations)).subscribed f c.args.class (Some (c.in_ok-attributes.ensures.ok i)) }) in
    subst IsWhole (sym (ap (λ (v : FederationValue). record v { declarations = c.subscribe_object_class_attributes.new.self }) after))
    (subscribed_whole old f c.args.class a c.subscribe_object_class_attributes.new.self c.self-2.inside.registry m o c.requires.sound.whole joined declarations_is objects_is members_is)

pub returns-clause-done : goal.returns-clause-done
returns-clause-done c =
    let old = c.args.self.now in
    let f = c.args.federate in
    let a = c.args.attributes.now in
    let o = item [] c.address_found.new.outbox in
    let m = c.post_all.new.self.shown in
    let joined = c.requires.joined in
    let none : refusal (components_seen (state_of c.args.self.now)) (step.Call c.args.federate (service.SubscribeObjectClassAttributes c.args.class c.args.attributes.now)) ≡ None = rw joined (rw c.as_slice.ensures at (sym c.attributes_fault.ensures ∙ c.in_default.is)) in
    let v1 : record (the_view c.self.inside) { members = c.post_all.new.self.shown } ≡ record c.args.self.now { members = c.post_all.new.self.shown } = ap (λ (v : FederationValue). record v { members = c.post_all.new.self.shown }) c.self.view_is in
    let shown : c.reserve_all.new.self.shown ≡ c.args.self.now.members = c.in_ok-reserve_all.ensures.same ∙ ap (λ (v : FederationValue). v.members) c.self.view_is in
    let members_is : members_of c.post_all.new.self.shown ≡ members_after c.args.self.now c.args.federate (item [] c.address_found.new.outbox) =
    c.post_all.ensures ∙ ap (λ (l : List MemberValue). record (members_of l) { wire = wires_posted_below (To c.args.federate) (item [] c.address_found.new.outbox) (members_of l).next_federate (members_of l).wire }) shown in
    let objects_in : c.self-2.inside.registry ≡ c.make_found_known.new.self.objects = ap (λ (v : FederationValue). v.objects) c.self-2.view_is in
    let after : the_view c.self-2.inside ≡ record c.args.self.now { objects = c.self-2.inside.registry; members = c.post_all.new.self.shown } =
    c.self-2.view_is ∙ c.make_found_known.ensures.same ∙ (λ i. record (v1 i) { objects = sym objects_in i }) in
    let objects_is : registry_of c.self-2.inside.registry ≡ objects_after c.args.self.now c.args.federate c.args.class c.args.attributes.now =
    ap registry_of objects_in ∙ c.make_found_known.ensures.known a
    ∙ ap (λ (v : FederationValue). record (registry_of v.objects) { known = (with_discoveries_made (with_subscribed (state_of v).directory f c.args.class (Some a)) f).known }) v1
    ∙ ap (λ (t : MemberTables). record (registry_of old.objects) { known = (with_discoveries_made (with_subscribed (directory_from old.catalogue (points_of old.points) (declared.declarations_of old.declarations) (registry_of old.objects) t) f c.args.class (Some a)) f).known }) members_is in
    let declarations_is : declared.declarations_of c.subscribe_object_class_attributes.new.self ≡ declarations_after c.args.self.now c.args.federate c.args.class c.args.attributes.now =
    c.subscribe_object_class_attributes.ensures
    ∙ (λ i. record (declared.declarations_of ((after i).declarations)) { subscribed = upd2 (declared.declarations_of ((after i).declarations)).subscribed f c.args.class (Some (c.in_ok-attributes.ensures.ok i)) }) in
    let out : (g : ℕ) → o g ≡ map message.Discovery (discoveries_of (with_subscribed (state_of c.args.self.now).directory c.args.federate c.args.class (Some c.args.attributes.now)) g c.args.federate) =
    λ g. c.in_ok-address_found.ensures.ok a g ∙ ap (λ (ms : List Message). ms ++ map message.Discovery (discoveries_of (with_subscribed (state_of c.args.self.now).directory c.args.federate c.args.class (Some c.args.attributes.now)) g c.args.federate)) (c.in_ok-outbox.ensures.ok g) in
    rw none (ap (answer_outcome answer.Done) (
    subscribed_state old f c.args.class a c.subscribe_object_class_attributes.new.self c.self-2.inside.registry m o c.requires.sound.kept.kept.directory declarations_is objects_is members_is out refl
    ∙ sym (ap (λ (v : FederationValue). state_of (record v { declarations = c.subscribe_object_class_attributes.new.self })) after)))
