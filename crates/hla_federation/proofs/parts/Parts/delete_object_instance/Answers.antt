use Rattle.hla_base.specs.Limits.{largest_number}
use Rattle.std.proofs.Common.{◌≡◌, ◌+◌, ◌≤◌, [], ◌++◌, length, Bool, true, false, not, ◌&&◌, ltb, None, refl, ap, sym, subst, ◌∙◌, arith}
use Rattle.std.proofs.lemmas.Bool.Decides.{nat_tests}
use Rattle.hla_base.specs.Tables.{upd, max_time}
use Rattle.hla_catalogue.specs.declared.declared.Order.{Order}
use Rattle.hla_machine.specs.Registered.{RegistryValue, registry_of}
use Rattle.hla_machine.specs.Directory.{Outgoing, ADeletion, deletion_sent, order_of_deletion}
use Rattle.hla_machine.specs.Refusals.{refusal, tests}
use Rattle.hla_machine.specs.declared.service.Service.TheVariants as service
use Rattle.hla_machine.specs.declared.step.Step.TheVariants.{Call}
use Rattle.hla_members.specs.declared.direction.Direction.TheVariants.{From}
use Rattle.hla_federation.specs.declared.heading.Heading.{Heading}
use Rattle.hla_components.specs.Components.{Components}
use Rattle.hla_federation.specs.FederationValue.{FederationValue}
use Rattle.hla_execution.specs.MemberValue.{item, members_of}
use Rattle.hla_members.specs.Members.{wires_posted_below}
use Rattle.hla_components.specs.Next.{done_outcome, components_seen}
use Rattle.hla_federation.specs.Steps.Sending.{heading_of, message_to}
use Rattle.hla_federation.specs.Steps.State.{IsWhole, state_of}
use Rattle.hla_federation.proofs.Steps.Addressing.{joined_within}
use Rattle.hla_federation.proofs.Steps.Noting.{deletion_noted, unsent_from}
use Rattle.hla_federation.proofs.Steps.Sent.{none_applies, one_added, sent_whole, deletes_state}
use Rattle.hla_federation.proofs.parts.Parts.delete_object_instance.Goals as goal

known_exists : (exists known : Bool) → not (exists && known) ≡ false → exists ≡ true
known_exists true known is = refl
known_exists false known is = absurd (cc)

pub send_all-requires-clause-serials : goal.send_all-requires-clause-serials
send_all-requires-clause-serials c =
    let now = c.args.self.now in
    let f = c.args.federate in
    let none : refusal (components_seen (state_of now)) (Call f (service.DeleteObjectInstance c.args.object c.args.stamp)) ≡ None = sym c.delete_fault.ensures ∙ c.in_default.is in
    let left : ltb (max_time + 1) ((members_of now.members).serial f + 1) ≡ false = (none_applies (tests (components_seen (state_of now)) (Call f (service.DeleteObjectInstance c.args.object c.args.stamp))) none).1.1.1.1.0 in
    let same = ap (λ (v : FederationValue). (members_of v.members).serial f) c.self.view_is in
    let counted : (members_of now.members).serial f + 1 ≤ 1000000000000000001 = grind (arith, nat_tests) in
    let few : (members_of now.members).serial f + 1 ≤ largest_number = omega (arith, counted) in
    rw same few

pub send_all-requires-clause-within : goal.send_all-requires-clause-within
send_all-requires-clause-within c =
    let below = joined_within c.args.self.now.members c.args.federate c.requires.joined in
    let same = ap (λ (v : FederationValue). length v.members) c.self.view_is in
    omega (arith, below, same)

pub delete-requires-clause-registered : goal.delete-requires-clause-registered
delete-requires-clause-registered c =
    let now = c.args.self.now in
    let none : refusal (components_seen (state_of now)) (Call c.args.federate (service.DeleteObjectInstance c.args.object c.args.stamp)) ≡ None = sym c.delete_fault.ensures ∙ c.in_default.is in
    let known = (none_applies (tests (components_seen (state_of now)) (Call c.args.federate (service.DeleteObjectInstance c.args.object c.args.stamp))) none).1.0 in
    let exists = known_exists ((state_of now).directory.object c.args.object).exists ((state_of now).directory.known c.args.object c.args.federate) known in
    let below = (c.requires.sound.kept.kept.directory.owners c.args.object exists).1 in
    let same = ap (λ (v : FederationValue). (registry_of v.objects).next_object) c.self.view_is in
    omega (arith, below, same)

pub returns-clause-whole : goal.returns-clause-whole
returns-clause-whole c =
    let now = c.args.self.now in
    let f = c.args.federate in
    let d = (state_of now).directory in
    let r = (state_of now).row f in
    let m = (members_of now.members).serial f in
    let outs = deletion_sent d c.args.object in
    let out : Outgoing = record { order = order_of_deletion d c.args.object; body = ADeletion c.args.object } in
    let o = item [] c.address_removal.new.outbox in
    let is = c.in_ok-send_all.ensures.ok
    ∙ ap (λ (v : FederationValue). record (members_of v.members) { serial = upd (members_of v.members).serial f ((members_of v.members).serial f + 1); wire = wires_posted_below (From f) o (members_of v.members).next_federate (members_of v.members).wire }) c.self.view_is in
    let gone = c.delete.ensures
    ∙ ap (λ (v : FederationValue). record (registry_of v.objects) { object = upd (registry_of v.objects).object c.args.object (record ((registry_of v.objects).object c.args.object) { exists = false }) }) c.self.view_is in
    let order = c.order_of_deletion-order.ensures in
    let head = c.heading-heading.ensures ∙ ap (λ (k : Order). heading_of f c.next_serial-serial.result r c.args.stamp k) order in
    let added = one_added d f c.next_serial-serial.result m r c.args.stamp out c.in_ok-outbox.outbox c.address_removal.new.outbox c.in_ok-outbox.ensures.ok
    (λ h. c.in_ok-address_removal.ensures.ok h ∙ ap (λ (x : Heading). item [] c.in_ok-outbox.outbox h ++ message_to d x (ADeletion c.args.object) h) head)
    (c.next_serial-serial.ensures ∙ ap (λ (v : FederationValue). (members_of v.members).serial f) c.self.view_is) in
    let noted = deletion_noted d f m r c.args.stamp out (members_of now.members).sent (unsent_from now f c.requires.sound.kept m (omega arith)) refl in
    subst (λ (v : FederationValue). IsWhole (record v { objects = c.delete.new.self; members = c.send_all.new.self.shown })) (sym c.self.view_is)
    (sent_whole now f 1 c.args.stamp outs None o c.send_all.new.self.shown is refl added noted c.requires.sound.whole c.delete.new.self (ap (λ (t : RegistryValue). t.next_object) gone))

pub returns-clause-done : goal.returns-clause-done
returns-clause-done c =
    let now = c.args.self.now in
    let f = c.args.federate in
    let d = (state_of now).directory in
    let r = (state_of now).row f in
    let m = (members_of now.members).serial f in
    let outs = deletion_sent d c.args.object in
    let out : Outgoing = record { order = order_of_deletion d c.args.object; body = ADeletion c.args.object } in
    let o = item [] c.address_removal.new.outbox in
    let is = c.in_ok-send_all.ensures.ok
    ∙ ap (λ (v : FederationValue). record (members_of v.members) { serial = upd (members_of v.members).serial f ((members_of v.members).serial f + 1); wire = wires_posted_below (From f) o (members_of v.members).next_federate (members_of v.members).wire }) c.self.view_is in
    let gone = c.delete.ensures
    ∙ ap (λ (v : FederationValue). record (registry_of v.objects) { object = upd (registry_of v.objects).object c.args.object (record ((registry_of v.objects).object c.args.object) { exists = false }) }) c.self.view_is in
    let order = c.order_of_deletion-order.ensures in
    let head = c.heading-heading.ensures ∙ ap (λ (k : Order). heading_of f c.next_serial-serial.result r c.args.stamp k) order in
    let added = one_added d f c.next_serial-serial.result m r c.args.stamp out c.in_ok-outbox.outbox c.address_removal.new.outbox c.in_ok-outbox.ensures.ok
    (λ h. c.in_ok-address_removal.ensures.ok h ∙ ap (λ (x : Heading). item [] c.in_ok-outbox.outbox h ++ message_to d x (ADeletion c.args.object) h) head)
    (c.next_serial-serial.ensures ∙ ap (λ (v : FederationValue). (members_of v.members).serial f) c.self.view_is) in
    let noted = deletion_noted d f m r c.args.stamp out (members_of now.members).sent (unsent_from now f c.requires.sound.kept m (omega arith)) refl in
    let none : refusal (components_seen (state_of now)) (Call f (service.DeleteObjectInstance c.args.object c.args.stamp)) ≡ None = sym c.delete_fault.ensures ∙ c.in_default.is in
    rw none (ap (λ (s : Components). done_outcome s) (deletes_state now f 1 c.args.stamp outs None o c.send_all.new.self.shown is refl added noted c.args.object c.delete.new.self gone
    ∙ ap (λ (v : FederationValue). state_of (record v { objects = c.delete.new.self; members = c.send_all.new.self.shown })) (sym c.self.view_is)))
