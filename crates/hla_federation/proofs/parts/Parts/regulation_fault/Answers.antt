use Rattle.std.proofs.Common.{◌≡◌, ◌≤◌, ◌+◌, ℕ, refl, sym, ap, subst, ◌∙◌, arith}
use Rattle.hla_base.specs.Limits.{max_time}
use Rattle.hla_base.specs.declared.row.TimeRow.{TimeRow}
use Rattle.hla_base.specs.Rows.{bar_of}
use Rattle.hla_base.specs.RowRefusals.{first_fault, regulation_tests}
use Rattle.hla_base.specs.Tables.{greatest}
use Rattle.hla_component_rules.specs.LocalValue.{LocalValue}
use Rattle.hla_machine.specs.Central.{low_entry}
use Rattle.hla_machine.specs.Refusals.{refusal}
use Rattle.hla_machine.specs.declared.service.Service.TheVariants as service
use Rattle.hla_machine.specs.declared.step.Step.TheVariants.{Call}
use Rattle.hla_components.specs.Next.{components_seen}
use Rattle.hla_federation.specs.FederationValue.{FederationValue}
use Rattle.hla_federation.specs.Steps.State.{state_of}
use Rattle.hla_federation.proofs.Steps.Announcing.{regulation_same}
use Rattle.hla_federation.proofs.parts.Parts.regulation_fault.Goals as goal

pub returns : goal.returns
unfolding low_entry
returns c =
    let joined = rw (← c.self.view_is) at c.requires.joined in
    let v : FederationValue = record { catalogue = c.self.inside.catalogue; points = c.self.inside.points; declarations = c.self.inside.declarations; objects = c.self.inside.registry; members = c.self.inside.members.shown; next_name = c.self.inside.next_name } in
    let s = state_of v in
    let t = c.args.time in
    let x = c.args.lookahead in
    let row = c.state.ensures ∙ ap (λ (l : LocalValue). l.row) c.local.ensures in
    let low : t ≤ max_time → x ≤ max_time → c.greatest_bar-low.result ≡ low_entry s.directory s.row (t + x) = λ small little.
    let sum : c.saturating_add.result ≡ t + x = omega (arith, small, little, c.saturating_add.ensures) in
    c.greatest_bar-low.ensures ∙ ap (λ (n : ℕ). greatest s.directory.next_federate n (λ g. bar_of (s.row g))) sum in
    let tests = c.regulation_fault.ensures ∙ ap (λ (r : TimeRow). first_fault (regulation_tests r c.greatest_bar-low.result t x)) row ∙ regulation_same (s.row c.args.federate) c.greatest_bar-low.result (low_entry s.directory s.row (t + x)) t x low in
    subst (λ (w : FederationValue). c.regulation_fault.result ≡ refusal (components_seen (state_of w)) (Call c.args.federate (service.EnableTimeRegulation t x))) c.self.view_is (tests ∙ sym (rw joined refl))
