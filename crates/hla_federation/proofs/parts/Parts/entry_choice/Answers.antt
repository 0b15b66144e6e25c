use Rattle.std.proofs.Common.{◌≡◌, ◌+◌, ℕ, None, refl, sym, ap, subst, ◌∙◌}
use Rattle.hla_machine.specs.Refusals.{refusal}
use Rattle.hla_machine.specs.declared.service.Service.TheVariants as service
use Rattle.hla_machine.specs.declared.step.Choice.TheVariants as choice
use Rattle.hla_machine.specs.declared.step.Step.TheVariants.{Call}
use Rattle.hla_components.specs.Next.{Outcomes, next, components_seen}
use Rattle.hla_federation.specs.FederationValue.{FederationValue}
use Rattle.hla_execution.specs.MemberValue.{members_of}
use Rattle.hla_federation.specs.Steps.State.{state_of}
use Rattle.hla_federation.proofs.Steps.Announcing.{entry_is}
use Rattle.hla_federation.proofs.Steps.Doing.{does_next}
use Rattle.hla_federation.proofs.parts.Parts.entry_choice.Goals as goal

pub returns-in-None : goal.returns-in-None
returns-in-None c =
    let f = c.args.federate in
    let step = Call f (service.EnableTimeRegulation c.args.time c.args.lookahead) in
    let v : FederationValue = record { catalogue = c.self.inside.catalogue; points = c.self.inside.points; declarations = c.self.inside.declarations; objects = c.self.inside.registry; members = c.self.inside.members.shown; next_name = c.self.inside.next_name } in
    let none : refusal (components_seen (state_of v)) step ≡ None = subst (λ (w : FederationValue). refusal (components_seen (state_of w)) step ≡ None) (sym c.self.view_is) (sym c.regulation_fault.ensures ∙ c.in-None.is) in
    let entry = c.entry.ensures ∙ sym (entry_is (state_of v) f (c.args.time + c.args.lookahead) (members_of c.self.inside.members.shown).local refl refl) in
    subst (λ (w : FederationValue). choice.Entry c.entry.result ≡ (next (state_of w) step).choice) c.self.view_is
    (ap (λ (e : ℕ). choice.Entry e) entry ∙ sym (ap (λ (o : Outcomes). o.choice) (does_next (state_of v) step none)))
