use Rattle.std.proofs.Common.{◌≡◌, ℕ, Option, None, sym, ap, ◌∙◌}
use Rattle.std.specs.Option.{option_map_or}
use Rattle.hla_catalogue.specs.Lookup.{deletion_privilege}
use Rattle.hla_catalogue.specs.declared.declared.Order.TheVariants.{Receive}
use Rattle.hla_machine.specs.Registered.{registry_of}
use Rattle.hla_machine.specs.Directory.{order_of_attribute}
use Rattle.hla_federation.specs.FederationValue.{FederationValue}
use Rattle.hla_federation.specs.Steps.State.{state_of}
use Rattle.hla_federation.proofs.parts.Parts.order_of_deletion.Goals as goal

pub returns-in-None : goal.returns-in-None
returns-in-None c =
    let now = c.args.self.now in
    let h = c.args.object in
    let class = c.class_of-class.ensures ∙ ap (λ (v : FederationValue). ((registry_of v.objects).object h).class) c.self.view_is in
    let privilege : deletion_privilege now.catalogue ((registry_of now.objects).object h).class ≡ None =
    ap (deletion_privilege now.catalogue) (sym class) ∙ ap (λ (v : FederationValue). deletion_privilege v.catalogue c.class_of-class.result) (sym c.self.view_is) ∙ sym c.deletion_privilege.ensures ∙ c.in-None.is in
    sym (ap (λ (o : Option ℕ). option_map_or (order_of_attribute (state_of now).directory h) o Receive) privilege)
