use Rattle.std.proofs.Common.{ℕ, not, ap, sym, ◌∙◌}
use Rattle.std.specs.List.{list_any}
use Rattle.hla_base.specs.declared.content.HandleValuePair.{HandleValuePair}
use Rattle.hla_catalogue.specs.Lookup.{has_attribute}
use Rattle.hla_object_registry.specs.Queries.{is_known_in}
use Rattle.hla_machine.specs.Registered.{registry_of}
use Rattle.hla_machine.specs.Directory.{update_sent}
use Rattle.hla_machine.specs.Refusals.{is_published}
use Rattle.hla_federation.specs.FederationValue.{FederationValue}
use Rattle.hla_execution.specs.MemberValue.{members_of}
use Rattle.hla_federation.specs.Steps.State.{state_of}
use Rattle.hla_federation.proofs.Steps.Stamps.{any_stamped}
use Rattle.hla_federation.proofs.Steps.Updates.{not_published, not_timely, too_many, no_fault, past_serials, within_serials}
use Rattle.hla_federation.proofs.parts.Parts.update_fault.Goals as goal

pub returns-then-lacks_publication : goal.returns-then-lacks_publication
returns-then-lacks_publication c =
    let now = c.args.self.now in
    let f = c.args.federate in
    let h = c.args.object in
    let joined = c.requires.joined in
    let known = ap (λ (v : FederationValue). is_known_in (registry_of v.objects) f h) (sym c.self.view_is) ∙ sym c.is_known.ensures ∙ c.if-not-is_known.false in
    let class = ap (λ (v : FederationValue). ((registry_of v.objects).object h).class) (sym c.self.view_is) ∙ sym c.class_of-class.ensures in
    let defined = ap (λ (k : ℕ). list_any (λ (v : HandleValuePair). not (has_attribute now.catalogue k v.handle)) c.args.values.now) class ∙ sym c.lacks_value.ensures ∙ c.if-lacks_value.false in
    let owned = sym c.lacks_ownership.ensures ∙ c.if-lacks_ownership.false in
    let published = ap (λ (k : ℕ). list_any (λ (v : HandleValuePair). not (is_published (state_of now).directory f k v.handle)) c.args.values.now) class ∙ sym c.lacks_publication.ensures ∙ c.if-lacks_publication.true in
    not_published _ _ _ _ _ _ _ joined known defined owned published

pub returns-then-is_bad_stamp : goal.returns-then-is_bad_stamp
returns-then-is_bad_stamp c =
    let now = c.args.self.now in
    let f = c.args.federate in
    let h = c.args.object in
    let joined = c.requires.joined in
    let known = ap (λ (v : FederationValue). is_known_in (registry_of v.objects) f h) (sym c.self.view_is) ∙ sym c.is_known.ensures ∙ c.if-not-is_known.false in
    let class = ap (λ (v : FederationValue). ((registry_of v.objects).object h).class) (sym c.self.view_is) ∙ sym c.class_of-class.ensures in
    let defined = ap (λ (k : ℕ). list_any (λ (v : HandleValuePair). not (has_attribute now.catalogue k v.handle)) c.args.values.now) class ∙ sym c.lacks_value.ensures ∙ c.if-lacks_value.false in
    let owned = sym c.lacks_ownership.ensures ∙ c.if-lacks_ownership.false in
    let published = ap (λ (k : ℕ). list_any (λ (v : HandleValuePair). not (is_published (state_of now).directory f k v.handle)) c.args.values.now) class ∙ sym c.lacks_publication.ensures ∙ c.if-lacks_publication.false in
    let any = any_stamped (state_of now).directory h c.args.values.now ∙ sym c.has_order-is_stamped.ensures in
    not_timely _ _ _ _ _ _ _ joined known defined owned published (c.is_bad_stamp.ensures (update_sent (state_of now).directory h c.args.values.now) any ∙ c.if-is_bad_stamp.true)

pub returns-then-next_serial-count_parts : goal.returns-then-next_serial-count_parts
returns-then-next_serial-count_parts c =
    let now = c.args.self.now in
    let f = c.args.federate in
    let h = c.args.object in
    let joined = c.requires.joined in
    let known = ap (λ (v : FederationValue). is_known_in (registry_of v.objects) f h) (sym c.self.view_is) ∙ sym c.is_known.ensures ∙ c.if-not-is_known.false in
    let class = ap (λ (v : FederationValue). ((registry_of v.objects).object h).class) (sym c.self.view_is) ∙ sym c.class_of-class.ensures in
    let defined = ap (λ (k : ℕ). list_any (λ (v : HandleValuePair). not (has_attribute now.catalogue k v.handle)) c.args.values.now) class ∙ sym c.lacks_value.ensures ∙ c.if-lacks_value.false in
    let owned = sym c.lacks_ownership.ensures ∙ c.if-lacks_ownership.false in
    let published = ap (λ (k : ℕ). list_any (λ (v : HandleValuePair). not (is_published (state_of now).directory f k v.handle)) c.args.values.now) class ∙ sym c.lacks_publication.ensures ∙ c.if-lacks_publication.false in
    let any = any_stamped (state_of now).directory h c.args.values.now ∙ sym c.has_order-is_stamped.ensures in
    let serial = c.next_serial.ensures ∙ ap (λ (v : FederationValue). (members_of v.members).serial f) c.self.view_is in
    let count = c.count_parts.ensures.count in
    let test = c.if-next_serial-count_parts.true in
    too_many _ _ _ _ _ _ _ joined known defined owned published (c.is_bad_stamp.ensures (update_sent (state_of now).directory h c.args.values.now) any ∙ c.if-is_bad_stamp.false)
    (past_serials ((members_of now.members).serial f) (update_sent (state_of now).directory h c.args.values.now) c.next_serial.result c.count_parts.result serial count c.count_parts.ensures.few test)

pub returns-else-next_serial-count_parts : goal.returns-else-next_serial-count_parts
returns-else-next_serial-count_parts c =
    let now = c.args.self.now in
    let f = c.args.federate in
    let h = c.args.object in
    let joined = c.requires.joined in
    let known = ap (λ (v : FederationValue). is_known_in (registry_of v.objects) f h) (sym c.self.view_is) ∙ sym c.is_known.ensures ∙ c.if-not-is_known.false in
    let class = ap (λ (v : FederationValue). ((registry_of v.objects).object h).class) (sym c.self.view_is) ∙ sym c.class_of-class.ensures in
    let defined = ap (λ (k : ℕ). list_any (λ (v : HandleValuePair). not (has_attribute now.catalogue k v.handle)) c.args.values.now) class ∙ sym c.lacks_value.ensures ∙ c.if-lacks_value.false in
    let owned = sym c.lacks_ownership.ensures ∙ c.if-lacks_ownership.false in
    let published = ap (λ (k : ℕ). list_any (λ (v : HandleValuePair). not (is_published (state_of now).directory f k v.handle)) c.args.values.now) class ∙ sym c.lacks_publication.ensures ∙ c.if-lacks_publication.false in
    let any = any_stamped (state_of now).directory h c.args.values.now ∙ sym c.has_order-is_stamped.ensures in
    let serial = c.next_serial.ensures ∙ ap (λ (v : FederationValue). (members_of v.members).serial f) c.self.view_is in
    let count = c.count_parts.ensures.count in
    let test = c.if-next_serial-count_parts.false in
    no_fault _ _ _ _ _ _ _ joined known defined owned published (c.is_bad_stamp.ensures (update_sent (state_of now).directory h c.args.values.now) any ∙ c.if-is_bad_stamp.false)
    (within_serials ((members_of now.members).serial f) (update_sent (state_of now).directory h c.args.values.now) c.next_serial.result c.count_parts.result serial count c.count_parts.ensures.few test)
