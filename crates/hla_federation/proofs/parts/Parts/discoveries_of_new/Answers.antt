use Rattle.std.proofs.Common.{◌≤◌, sym, ap, subst, ◌∙◌, arith}
use Rattle.hla_declaration.specs.Declarations as declared
use Rattle.hla_declaration.specs.Receivers.{object_class_served, receivers_of}
use Rattle.hla_federation.specs.FederationValue.{FederationValue}
use Rattle.hla_federation.specs.Steps.Discovering.{AreFederates}
use Rattle.hla_federation.specs.Steps.State.{state_of}
use Rattle.hla_federation.proofs.Steps.NewObjects.{federates_all}
use Rattle.hla_federation.proofs.parts.Parts.discoveries_of_new.Goals as goal

pub address_discoveries-requires : goal.address_discoveries-requires
address_discoveries-requires c =
    let few : (declared.declarations_of c.self.inside.declarations).federates ≤ 16 = omega (arith, ap (λ (v : FederationValue). (declared.declarations_of v.declarations).federates) c.self.view_is, c.requires.whole.parts.federates, c.requires.whole.parts.few) in
    subst AreFederates (sym (c.as_slice.ensures ∙ c.in_ok-receivers.ensures.ok)) (federates_all c.self.inside.catalogue c.self.inside.declarations c.args.class c.args.federate few)

pub returns-clause-receivers : goal.returns-clause-receivers
returns-clause-receivers c =
    c.in_ok-receivers.ensures.ok
    ∙ ap (λ (v : FederationValue). receivers_of (λ k. object_class_served v.catalogue (state_of v).directory.subscribed k c.args.class) (declared.declarations_of v.declarations).federates c.args.federate) c.self.view_is

pub returns-clause-federates : goal.returns-clause-federates
returns-clause-federates c =
    let few : (declared.declarations_of c.self.inside.declarations).federates ≤ 16 = omega (arith, ap (λ (v : FederationValue). (declared.declarations_of v.declarations).federates) c.self.view_is, c.requires.whole.parts.federates, c.requires.whole.parts.few) in
    subst AreFederates (sym c.in_ok-receivers.ensures.ok) (federates_all c.self.inside.catalogue c.self.inside.declarations c.args.class c.args.federate few)
