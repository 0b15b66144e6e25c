use Rattle.std.proofs.Common.{ℕ, not, true, false, ap, sym, ◌∙◌}
use Rattle.std.specs.List.{list_any}
use Rattle.hla_base.specs.declared.content.HandleValuePair.{HandleValuePair}
use Rattle.hla_base.specs.RowRefusals.{first_fault}
use Rattle.hla_catalogue.specs.Lookup.{has_attribute}
use Rattle.hla_object_registry.specs.Queries.{is_known_in}
use Rattle.hla_machine.specs.Registered.{registry_of}
use Rattle.hla_machine.specs.Directory.{update_sent}
use Rattle.hla_machine.specs.Refusals.{is_published}
use Rattle.hla_accounts.specs.Accounts.{account_at}
use Rattle.hla_verdicts.specs.Kept.{KeptValue, directory_of}
use Rattle.hla_checker.specs.Sending.{sending_tests}
use Rattle.hla_checker.proofs.Sends.SendingTests.{any_stamped, update_rest}
use Rattle.hla_checker.proofs.kept.KeptExecution.update_fault.Goals as goal

pub returns-then-lacks_publication : goal.returns-then-lacks_publication
returns-then-lacks_publication c =
    let now = c.args.self.now in
    let f = c.args.federate in
    let h = c.args.object in
    let outs = update_sent (directory_of now) h c.args.values.now in
    let rest = first_fault (sending_tests (account_at now.accounts f) c.args.stamp outs) in
    let known = ap (λ (v : KeptValue). is_known_in (registry_of v.objects) f h) (sym c.self.view_is) ∙ sym c.is_known.ensures ∙ c.if-not-is_known.false in
    let class = ap (λ (v : KeptValue). ((registry_of v.objects).object h).class) (sym c.self.view_is) ∙ sym c.class_of-class.ensures in
    let defined = ap (λ (k : ℕ). list_any (λ (v : HandleValuePair). not (has_attribute now.catalogue k v.handle)) c.args.values.now) class ∙ sym c.lacks_value.ensures ∙ c.if-lacks_value.false in
    let owned = sym c.lacks_ownership.ensures ∙ c.if-lacks_ownership.false in
    let published = ap (λ (k : ℕ). list_any (λ (v : HandleValuePair). not (is_published (directory_of now) f k v.handle)) c.args.values.now) class ∙ sym c.lacks_publication.ensures ∙ c.if-lacks_publication.true in
    update_rest _ _ _ _ true rest known defined owned published

pub returns-else-lacks_publication : goal.returns-else-lacks_publication
returns-else-lacks_publication c =
    let now = c.args.self.now in
    let f = c.args.federate in
    let h = c.args.object in
    let outs = update_sent (directory_of now) h c.args.values.now in
    let rest = first_fault (sending_tests (account_at now.accounts f) c.args.stamp outs) in
    let known = ap (λ (v : KeptValue). is_known_in (registry_of v.objects) f h) (sym c.self.view_is) ∙ sym c.is_known.ensures ∙ c.if-not-is_known.false in
    let class = ap (λ (v : KeptValue). ((registry_of v.objects).object h).class) (sym c.self.view_is) ∙ sym c.class_of-class.ensures in
    let defined = ap (λ (k : ℕ). list_any (λ (v : HandleValuePair). not (has_attribute now.catalogue k v.handle)) c.args.values.now) class ∙ sym c.lacks_value.ensures ∙ c.if-lacks_value.false in
    let owned = sym c.lacks_ownership.ensures ∙ c.if-lacks_ownership.false in
    let published = ap (λ (k : ℕ). list_any (λ (v : HandleValuePair). not (is_published (directory_of now) f k v.handle)) c.args.values.now) class ∙ sym c.lacks_publication.ensures ∙ c.if-lacks_publication.false in
    let any = any_stamped (directory_of now) h c.args.values.now ∙ sym c.has_order-is_stamped.ensures in
    c.sending_fault.ensures outs any c.count_parts-count.ensures ∙ ap (λ (v : KeptValue). first_fault (sending_tests (account_at v.accounts f) c.args.stamp outs)) c.self.view_is
    ∙ update_rest _ _ _ _ false rest known defined owned published
