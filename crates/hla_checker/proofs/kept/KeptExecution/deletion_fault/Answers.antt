use Rattle.std.proofs.Common.{◌≡◌, eqb, true, ap, sym, refl, ◌∙◌, arith}
use Rattle.std.proofs.lemmas.Bool.Decides.{nat_tests}
use Rattle.hla_base.specs.RowRefusals.{first_fault}
use Rattle.hla_catalogue.specs.declared.declared.Order.TheVariants.{Timestamp}
use Rattle.hla_object_registry.specs.Queries.{is_known_in}
use Rattle.hla_machine.specs.Registered.{registry_of}
use Rattle.hla_machine.specs.Directory.{ADeletion, deletion_sent, is_of_order, order_of_deletion}
use Rattle.hla_accounts.specs.Accounts.{account_at}
use Rattle.hla_verdicts.specs.Kept.{KeptValue, directory_of}
use Rattle.hla_checker.specs.Sending.{sending_tests}
use Rattle.hla_checker.proofs.Sends.SendingTests.{one_stamped, deletion_rest}
use Rattle.hla_checker.proofs.kept.KeptExecution.deletion_fault.Goals as goal

pub returns-else-owner-federate : goal.returns-else-owner-federate
returns-else-owner-federate c =
    let now = c.args.self.now in
    let f = c.args.federate in
    let h = c.args.object in
    let outs = deletion_sent (directory_of now) h in
    let any = one_stamped (record { order = order_of_deletion (directory_of now) h; body = ADeletion h })
    ∙ sym (c.is_timestamp-is_stamped.ensures ∙ ap (is_of_order Timestamp) c.order_of_deletion.ensures) in
    let known = ap (λ (v : KeptValue). is_known_in (registry_of v.objects) f h) (sym c.self.view_is) ∙ sym c.is_known.ensures ∙ c.if-not-is_known.false in
    let owner : ((registry_of now.objects).object h).owner ≡ f = ap (λ (v : KeptValue). ((registry_of v.objects).object h).owner) (sym c.self.view_is) ∙ sym c.owner.ensures ∙ c.if-owner-federate.false in
    let owned : eqb ((registry_of now.objects).object h).owner f ≡ true = grind (arith, nat_tests) in
    c.sending_fault.ensures outs any refl ∙ ap (λ (v : KeptValue). first_fault (sending_tests (account_at v.accounts f) c.args.stamp outs)) c.self.view_is
    ∙ deletion_rest _ _ _ known owned
