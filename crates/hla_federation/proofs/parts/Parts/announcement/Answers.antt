use Rattle.std.proofs.Common.{◌≡◌, ℕ, ltb, true, false, None, Some, sym, ap, subst, ◌∙◌, arith}
use Rattle.std.proofs.lemmas.Bool.Decides.{nat_tests}
use Rattle.hla_base.specs.Rows.{is_regulator}
use Rattle.hla_base.specs.declared.row.TimeRow.{TimeRow}
use Rattle.hla_declaration.specs.Declarations as declared
use Rattle.hla_machine.specs.Registered.{registry_of}
use Rattle.hla_component_rules.specs.LocalValue.{LocalValue}
use Rattle.hla_component_rules.specs.Picking.{least_bound}
use Rattle.hla_component_rules.specs.Promising.{promise_of}
use Rattle.hla_synchronization.specs.OpenPoints.{points_of}
use Rattle.hla_federation.specs.FederationValue.{FederationValue}
use Rattle.hla_execution.specs.MemberValue.{members_of}
use Rattle.hla_federation.specs.Steps.Sending.{announcement}
use Rattle.hla_federation.specs.Steps.State.{state_of}
use Rattle.hla_federation.proofs.Steps.Announcing.{announced_by, not_announced}
use Rattle.hla_federation.proofs.Steps.Declaring.{bound_of}
use Rattle.hla_federation.proofs.parts.Parts.announcement.Goals as goal

pub returns-then-not-is_regulator : goal.returns-then-not-is_regulator
returns-then-not-is_regulator c =
    let f = c.args.federate in
    let v : FederationValue = record { catalogue = c.self.inside.catalogue; points = c.self.inside.points; declarations = c.self.inside.declarations; objects = c.self.inside.registry; members = c.self.inside.members.shown; next_name = c.self.inside.next_name } in
    let idle = ap (λ (r : TimeRow). is_regulator r) (sym (c.state.ensures ∙ ap (λ (l : LocalValue). l.row) c.local-local.ensures)) ∙ sym c.is_regulator.ensures ∙ c.if-not-is_regulator.true in
    subst (λ (w : FederationValue). None ≡ announcement (state_of w) f) c.self.view_is (not_announced (state_of v) f idle)

pub returns-then-last_announced-bound : goal.returns-then-last_announced-bound
returns-then-last_announced-bound c =
    let f = c.args.federate in
    let v : FederationValue = record { catalogue = c.self.inside.catalogue; points = c.self.inside.points; declarations = c.self.inside.declarations; objects = c.self.inside.registry; members = c.self.inside.members.shown; next_name = c.self.inside.next_name } in
    let l = (members_of c.self.inside.members.shown).local f in
    let whole = rw (← c.self.view_is) at c.requires.whole in
    let regulates = ap (λ (r : TimeRow). is_regulator r) (sym (c.state.ensures ∙ ap (λ (x : LocalValue). x.row) c.local-local.ensures)) ∙ sym c.is_regulator.ensures ∙ c.if-not-is_regulator.false in
    let last = c.last_announced.ensures ∙ ap (λ (x : LocalValue). x.last_announced) c.local-local.ensures in
    let value = c.promise-bound.ensures ∙ ap (λ (x : LocalValue). promise_of x.row x.tso (least_bound x)) c.local-local.ensures
    ∙ ap (λ (b : ℕ). promise_of l.row l.tso b) (sym (bound_of c.self.inside.catalogue (points_of c.self.inside.points) (declared.declarations_of c.self.inside.declarations) (registry_of c.self.inside.registry) (members_of c.self.inside.members.shown) f whole.parts)) in
    let more : ltb c.last_announced.result c.promise-bound.result ≡ true = grind (arith, nat_tests, c.if-last_announced-bound.true) in
    subst (λ (w : FederationValue). Some c.promise-bound.result ≡ announcement (state_of w) f) c.self.view_is (announced_by (state_of v) f true c.last_announced.result c.promise-bound.result regulates last value more)

pub returns-else-last_announced-bound : goal.returns-else-last_announced-bound
returns-else-last_announced-bound c =
    let f = c.args.federate in
    let v : FederationValue = record { catalogue = c.self.inside.catalogue; points = c.self.inside.points; declarations = c.self.inside.declarations; objects = c.self.inside.registry; members = c.self.inside.members.shown; next_name = c.self.inside.next_name } in
    let l = (members_of c.self.inside.members.shown).local f in
    let whole = rw (← c.self.view_is) at c.requires.whole in
    let regulates = ap (λ (r : TimeRow). is_regulator r) (sym (c.state.ensures ∙ ap (λ (x : LocalValue). x.row) c.local-local.ensures)) ∙ sym c.is_regulator.ensures ∙ c.if-not-is_regulator.false in
    let last = c.last_announced.ensures ∙ ap (λ (x : LocalValue). x.last_announced) c.local-local.ensures in
    let value = c.promise-bound.ensures ∙ ap (λ (x : LocalValue). promise_of x.row x.tso (least_bound x)) c.local-local.ensures
    ∙ ap (λ (b : ℕ). promise_of l.row l.tso b) (sym (bound_of c.self.inside.catalogue (points_of c.self.inside.points) (declared.declarations_of c.self.inside.declarations) (registry_of c.self.inside.registry) (members_of c.self.inside.members.shown) f whole.parts)) in
    let more : ltb c.last_announced.result c.promise-bound.result ≡ false = grind (arith, nat_tests, c.if-last_announced-bound.false) in
    subst (λ (w : FederationValue). None ≡ announcement (state_of w) f) c.self.view_is (announced_by (state_of v) f false c.last_announced.result c.promise-bound.result regulates last value more)
