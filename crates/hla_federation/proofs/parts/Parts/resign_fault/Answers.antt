use Rattle.std.proofs.Common.{◌≡◌, ◌+◌, ltb, true, false, Some, None, sym, subst, arith}
use Rattle.std.proofs.lemmas.Bool.Decides.{nat_tests}
use Rattle.hla_base.specs.declared.fault.Fault.TheVariants as fault
use Rattle.hla_machine.specs.declared.service.Service.TheVariants as service
use Rattle.hla_machine.specs.declared.service.ResignAction.{ResignAction}
use Rattle.hla_machine.specs.declared.service.ResignAction.TheVariants.{DeleteObjects}
use Rattle.hla_machine.specs.declared.step.Step.TheVariants.{Call}
use Rattle.hla_machine.specs.Refusals.{refusal}
use Rattle.hla_federation.specs.FederationValue.{FederationValue}
use Rattle.hla_components.specs.Next.{components_seen}
use Rattle.hla_federation.specs.Steps.State.{state_of}
use Rattle.hla_federation.proofs.Steps.Resigning.{delete_refusal}
use Rattle.hla_federation.proofs.parts.Parts.resign_fault.Goals as goal

pub returns-then-saturating_add : goal.returns-then-saturating_add
returns-then-saturating_add c =
    let joined = rw (← c.self.view_is) at c.requires.joined in
    let test : ltb 1000000000000000001 (c.next_serial.result + c.count_owned_by-owned.result) ≡ true = grind (arith, nat_tests, c.saturating_add.ensures, c.if-saturating_add.true) in
    let over = rw (c.next_serial.ensures, c.count_owned_by-owned.ensures) at test in
    subst (λ (way : ResignAction). Some fault.LimitReached ≡ refusal (components_seen (state_of c.args.self.now)) (Call c.args.federate (service.Resign way))) (sym c.in-DeleteObjects.is)
    (subst (λ (v : FederationValue). Some fault.LimitReached ≡ refusal (components_seen (state_of v)) (Call c.args.federate (service.Resign DeleteObjects))) c.self.view_is (sym (delete_refusal (components_seen (state_of (record { catalogue = c.self.inside.catalogue; points = c.self.inside.points; declarations = c.self.inside.declarations; objects = c.self.inside.registry; members = c.self.inside.members.shown; next_name = c.self.inside.next_name }))) c.args.federate true joined over)))

pub returns-else-saturating_add : goal.returns-else-saturating_add
returns-else-saturating_add c =
    let joined = rw (← c.self.view_is) at c.requires.joined in
    let test : ltb 1000000000000000001 (c.next_serial.result + c.count_owned_by-owned.result) ≡ false = grind (arith, nat_tests, c.saturating_add.ensures, c.if-saturating_add.false) in
    let over = rw (c.next_serial.ensures, c.count_owned_by-owned.ensures) at test in
    subst (λ (way : ResignAction). None ≡ refusal (components_seen (state_of c.args.self.now)) (Call c.args.federate (service.Resign way))) (sym c.in-DeleteObjects.is)
    (subst (λ (v : FederationValue). None ≡ refusal (components_seen (state_of v)) (Call c.args.federate (service.Resign DeleteObjects))) c.self.view_is (sym (delete_refusal (components_seen (state_of (record { catalogue = c.self.inside.catalogue; points = c.self.inside.points; declarations = c.self.inside.declarations; objects = c.self.inside.registry; members = c.self.inside.members.shown; next_name = c.self.inside.next_name }))) c.args.federate false joined over)))
