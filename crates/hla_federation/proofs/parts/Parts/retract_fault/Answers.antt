use Rattle.std.proofs.Common.{◌≡◌, true, eqb, refl, sym, ap, ◌∙◌, arith}
use Rattle.std.proofs.lemmas.Bool.Decides.{nat_tests}
use Rattle.hla_base.specs.declared.row.TimeRow.{TimeRow}
use Rattle.hla_base.specs.Rows.{is_enabled, least_stamp}
use Rattle.hla_retraction.specs.SentEvents.{may_retract}
use Rattle.hla_component_rules.specs.LocalValue.{LocalValue}
use Rattle.hla_federation.specs.FederationValue.{FederationValue}
use Rattle.hla_execution.specs.MemberValue.{members_of}
use Rattle.hla_federation.specs.Steps.State.{state_of}
use Rattle.hla_federation.proofs.parts.Parts.retract_fault.Goals as goal

pub returns-then-may_retract : goal.returns-then-may_retract
returns-then-may_retract c =
    let f = c.args.federate in
    let k = c.args.event.serial in
    let s = state_of c.args.self.now in
    let r = s.row f in
    let row = c.state-state.ensures ∙ ap (λ (l : LocalValue). l.row) c.local.ensures ∙ ap (λ (v : FederationValue). ((members_of v.members).local f).row) c.self.view_is in
    let regulates = sym (c.is_regulation_enabled.ensures ∙ ap (λ (x : TimeRow). is_enabled x.regulating) row) in
    let least = sym (c.least_stamp.ensures.value ∙ ap least_stamp row) in
    let sent = c.sent.ensures ∙ ap (λ (v : FederationValue). (members_of v.members).sent f) c.self.view_is in
    let may : may_retract r (s.sent f k) ≡ true =
    sym (c.may_retract-may_retract.ensures r regulates least ∙ (λ i. may_retract r (sent i k))) ∙ c.if-may_retract.true in
    let own : eqb c.args.event.sender f ≡ true = grind (arith, nat_tests, c.if-event-federate.true) in
    rw (c.requires.joined, own, may) refl
