use Rattle.std.proofs.Common.{◌≡◌, eqb, true, ap, sym, refl, ◌∙◌, arith}
use Rattle.std.proofs.lemmas.Bool.Decides.{nat_tests}
use Rattle.hla_catalogue.specs.declared.declared.Order.TheVariants.{Timestamp}
use Rattle.hla_object_registry.specs.Queries.{is_known_in}
use Rattle.hla_machine.specs.Registered.{registry_of}
use Rattle.hla_machine.specs.Directory.{ADeletion, deletion_sent, is_of_order, order_of_deletion}
use Rattle.hla_federation.specs.FederationValue.{FederationValue}
use Rattle.hla_execution.specs.MemberValue.{members_of}
use Rattle.hla_federation.specs.Steps.State.{state_of}
use Rattle.hla_federation.proofs.Steps.Stamps.{one_stamped, untimely_deletion, too_many_deletions, fine_deletion}
use Rattle.hla_federation.proofs.Steps.Updates.{past_serials, within_serials}
use Rattle.hla_federation.proofs.parts.Parts.delete_fault.Goals as goal

pub returns-then-is_bad_stamp : goal.returns-then-is_bad_stamp
returns-then-is_bad_stamp c =
    let now = c.args.self.now in
    let f = c.args.federate in
    let h = c.args.object in
    let any = one_stamped (record { order = order_of_deletion (state_of now).directory h; body = ADeletion h })
    ∙ sym (c.is_timestamp-is_stamped.ensures ∙ ap (is_of_order Timestamp) c.order_of_deletion.ensures) in
    let known = ap (λ (v : FederationValue). is_known_in (registry_of v.objects) f h) (sym c.self.view_is) ∙ sym c.is_known.ensures ∙ c.if-not-is_known.false in
    let owner : ((registry_of now.objects).object h).owner ≡ f = ap (λ (v : FederationValue). ((registry_of v.objects).object h).owner) (sym c.self.view_is) ∙ sym c.owner.ensures ∙ c.if-owner-federate.false in
    let owned : eqb ((registry_of now.objects).object h).owner f ≡ true = grind (arith, nat_tests) in
    untimely_deletion _ _ _ _ _ c.requires.joined known owned (c.is_bad_stamp.ensures (deletion_sent (state_of now).directory h) any ∙ c.if-is_bad_stamp.true)

pub returns-then-next_serial-gt-MAX_SERIAL : goal.returns-then-next_serial-gt-MAX_SERIAL
returns-then-next_serial-gt-MAX_SERIAL c =
    let now = c.args.self.now in
    let f = c.args.federate in
    let h = c.args.object in
    let outs = deletion_sent (state_of now).directory h in
    let any = one_stamped (record { order = order_of_deletion (state_of now).directory h; body = ADeletion h })
    ∙ sym (c.is_timestamp-is_stamped.ensures ∙ ap (is_of_order Timestamp) c.order_of_deletion.ensures) in
    let known = ap (λ (v : FederationValue). is_known_in (registry_of v.objects) f h) (sym c.self.view_is) ∙ sym c.is_known.ensures ∙ c.if-not-is_known.false in
    let owner : ((registry_of now.objects).object h).owner ≡ f = ap (λ (v : FederationValue). ((registry_of v.objects).object h).owner) (sym c.self.view_is) ∙ sym c.owner.ensures ∙ c.if-owner-federate.false in
    let owned : eqb ((registry_of now.objects).object h).owner f ≡ true = grind (arith, nat_tests) in
    let serial = c.next_serial.ensures ∙ ap (λ (v : FederationValue). (members_of v.members).serial f) c.self.view_is in
    too_many_deletions _ _ _ _ _ c.requires.joined known owned (c.is_bad_stamp.ensures outs any ∙ c.if-is_bad_stamp.false)
    (past_serials ((members_of now.members).serial f) outs c.next_serial.result 1 serial refl (omega arith) c.if-next_serial-gt-MAX_SERIAL.true)

pub returns-else-next_serial-gt-MAX_SERIAL : goal.returns-else-next_serial-gt-MAX_SERIAL
returns-else-next_serial-gt-MAX_SERIAL c =
    let now = c.args.self.now in
    let f = c.args.federate in
    let h = c.args.object in
    let outs = deletion_sent (state_of now).directory h in
    let any = one_stamped (record { order = order_of_deletion (state_of now).directory h; body = ADeletion h })
    ∙ sym (c.is_timestamp-is_stamped.ensures ∙ ap (is_of_order Timestamp) c.order_of_deletion.ensures) in
    let known = ap (λ (v : FederationValue). is_known_in (registry_of v.objects) f h) (sym c.self.view_is) ∙ sym c.is_known.ensures ∙ c.if-not-is_known.false in
    let owner : ((registry_of now.objects).object h).owner ≡ f = ap (λ (v : FederationValue). ((registry_of v.objects).object h).owner) (sym c.self.view_is) ∙ sym c.owner.ensures ∙ c.if-owner-federate.false in
    let owned : eqb ((registry_of now.objects).object h).owner f ≡ true = grind (arith, nat_tests) in
    let serial = c.next_serial.ensures ∙ ap (λ (v : FederationValue). (members_of v.members).serial f) c.self.view_is in
    fine_deletion _ _ _ _ _ c.requires.joined known owned (c.is_bad_stamp.ensures outs any ∙ c.if-is_bad_stamp.false)
    (within_serials ((members_of now.members).serial f) outs c.next_serial.result 1 serial refl (omega arith) c.if-next_serial-gt-MAX_SERIAL.false)
