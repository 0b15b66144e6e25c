use Rattle.std.proofs.Common.{ap, sym, refl, ◌∙◌}
use Rattle.hla_catalogue.specs.Lookup.{is_interaction_class}
use Rattle.hla_catalogue.specs.declared.declared.Order.TheVariants.{Timestamp}
use Rattle.hla_base.specs.RowRefusals.{first_fault}
use Rattle.hla_declaration.specs.Declarations as declared
use Rattle.hla_machine.specs.Directory.{AnInteraction, by_handle, interaction_sent, is_of_order, order_of_interaction}
use Rattle.hla_accounts.specs.Accounts.{account_at}
use Rattle.hla_verdicts.specs.Kept.{KeptValue, directory_of}
use Rattle.hla_checker.specs.Sending.{sending_tests}
use Rattle.hla_checker.proofs.Sends.SendingTests.{one_stamped, interaction_rest}
use Rattle.hla_checker.proofs.kept.KeptExecution.interaction_fault.Goals as goal

pub returns-else-not-publishes_interaction_class : goal.returns-else-not-publishes_interaction_class
returns-else-not-publishes_interaction_class c =
    let now = c.args.self.now in
    let f = c.args.federate in
    let outs = interaction_sent (directory_of now) f c.args.class c.args.values.now in
    let any = one_stamped (record { order = order_of_interaction (directory_of now) f c.args.class; body = AnInteraction c.args.class (by_handle c.args.values.now) })
    ∙ sym (c.is_timestamp-is_stamped.ensures ∙ ap (is_of_order Timestamp) c.order_of_interaction.ensures) in
    let defined = ap (λ (v : KeptValue). is_interaction_class v.catalogue c.args.class) (sym c.self.view_is) ∙ sym c.is_interaction_class.ensures ∙ c.if-not-is_interaction_class.false in
    let known = sym c.lacks_parameter.ensures ∙ c.if-lacks_parameter.false in
    let published = ap (λ (v : KeptValue). (declared.declarations_of v.declarations).published_interaction f c.args.class) (sym c.self.view_is) ∙ sym c.publishes_interaction_class.ensures ∙ c.if-not-publishes_interaction_class.false in
    c.sending_fault.ensures outs any refl ∙ ap (λ (v : KeptValue). first_fault (sending_tests (account_at v.accounts f) c.args.stamp outs)) c.self.view_is
    ∙ interaction_rest _ _ _ _ defined known published
