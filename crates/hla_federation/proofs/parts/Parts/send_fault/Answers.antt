use Rattle.std.proofs.Common.{ap, sym, refl, ◌∙◌, arith}
use Rattle.hla_catalogue.specs.Lookup.{is_interaction_class}
use Rattle.hla_catalogue.specs.declared.declared.Order.TheVariants.{Timestamp}
use Rattle.hla_declaration.specs.Declarations as declared
use Rattle.hla_machine.specs.Directory.{AnInteraction, by_handle, interaction_sent, is_of_order, order_of_interaction}
use Rattle.hla_federation.specs.FederationValue.{FederationValue}
use Rattle.hla_execution.specs.MemberValue.{members_of}
use Rattle.hla_federation.specs.Steps.State.{state_of}
use Rattle.hla_federation.proofs.Steps.Stamps.{one_stamped, untimely_interaction, too_many_interactions, fine_interaction}
use Rattle.hla_federation.proofs.Steps.Updates.{past_serials, within_serials}
use Rattle.hla_federation.proofs.parts.Parts.send_fault.Goals as goal

pub returns-then-is_bad_stamp : goal.returns-then-is_bad_stamp
returns-then-is_bad_stamp c =
    let now = c.args.self.now in
    let f = c.args.federate in
    let outs = interaction_sent (state_of now).directory f c.args.class c.args.values.now in
    let any = one_stamped (record { order = order_of_interaction (state_of now).directory f c.args.class; body = AnInteraction c.args.class (by_handle c.args.values.now) })
    ∙ sym (c.is_timestamp-is_stamped.ensures ∙ ap (is_of_order Timestamp) c.order_of_interaction.ensures) in
    let defined = ap (λ (v : FederationValue). is_interaction_class v.catalogue c.args.class) (sym c.self.view_is) ∙ sym c.is_interaction_class.ensures ∙ c.if-not-is_interaction_class.false in
    let known = sym c.lacks_parameter.ensures ∙ c.if-lacks_parameter.false in
    let published = ap (λ (v : FederationValue). (declared.declarations_of v.declarations).published_interaction f c.args.class) (sym c.self.view_is) ∙ sym c.publishes_interaction_class.ensures ∙ c.if-not-publishes_interaction_class.false in
    untimely_interaction _ _ _ _ _ _ c.requires.joined defined known published (c.is_bad_stamp.ensures outs any ∙ c.if-is_bad_stamp.true)

pub returns-then-next_serial-gt-MAX_SERIAL : goal.returns-then-next_serial-gt-MAX_SERIAL
returns-then-next_serial-gt-MAX_SERIAL c =
    let now = c.args.self.now in
    let f = c.args.federate in
    let outs = interaction_sent (state_of now).directory f c.args.class c.args.values.now in
    let any = one_stamped (record { order = order_of_interaction (state_of now).directory f c.args.class; body = AnInteraction c.args.class (by_handle c.args.values.now) })
    ∙ sym (c.is_timestamp-is_stamped.ensures ∙ ap (is_of_order Timestamp) c.order_of_interaction.ensures) in
    let defined = ap (λ (v : FederationValue). is_interaction_class v.catalogue c.args.class) (sym c.self.view_is) ∙ sym c.is_interaction_class.ensures ∙ c.if-not-is_interaction_class.false in
    let known = sym c.lacks_parameter.ensures ∙ c.if-lacks_parameter.false in
    let published = ap (λ (v : FederationValue). (declared.declarations_of v.declarations).published_interaction f c.args.class) (sym c.self.view_is) ∙ sym c.publishes_interaction_class.ensures ∙ c.if-not-publishes_interaction_class.false in
    let serial = c.next_serial.ensures ∙ ap (λ (v : FederationValue). (members_of v.members).serial f) c.self.view_is in
    too_many_interactions _ _ _ _ _ _ c.requires.joined defined known published (c.is_bad_stamp.ensures outs any ∙ c.if-is_bad_stamp.false)
    (past_serials ((members_of now.members).serial f) outs c.next_serial.result 1 serial refl (omega arith) c.if-next_serial-gt-MAX_SERIAL.true)

pub returns-else-next_serial-gt-MAX_SERIAL : goal.returns-else-next_serial-gt-MAX_SERIAL
returns-else-next_serial-gt-MAX_SERIAL c =
    let now = c.args.self.now in
    let f = c.args.federate in
    let outs = interaction_sent (state_of now).directory f c.args.class c.args.values.now in
    let any = one_stamped (record { order = order_of_interaction (state_of now).directory f c.args.class; body = AnInteraction c.args.class (by_handle c.args.values.now) })
    ∙ sym (c.is_timestamp-is_stamped.ensures ∙ ap (is_of_order Timestamp) c.order_of_interaction.ensures) in
    let defined = ap (λ (v : FederationValue). is_interaction_class v.catalogue c.args.class) (sym c.self.view_is) ∙ sym c.is_interaction_class.ensures ∙ c.if-not-is_interaction_class.false in
    let known = sym c.lacks_parameter.ensures ∙ c.if-lacks_parameter.false in
    let published = ap (λ (v : FederationValue). (declared.declarations_of v.declarations).published_interaction f c.args.class) (sym c.self.view_is) ∙ sym c.publishes_interaction_class.ensures ∙ c.if-not-publishes_interaction_class.false in
    let serial = c.next_serial.ensures ∙ ap (λ (v : FederationValue). (members_of v.members).serial f) c.self.view_is in
    fine_interaction _ _ _ _ _ _ c.requires.joined defined known published (c.is_bad_stamp.ensures outs any ∙ c.if-is_bad_stamp.false)
    (within_serials ((members_of now.members).serial f) outs c.next_serial.result 1 serial refl (omega arith) c.if-next_serial-gt-MAX_SERIAL.false)
