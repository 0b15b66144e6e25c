use Rattle.std.proofs.Common.{◌≡◌, ◌&&◌, true, refl, sym, ap, ◌∙◌, arith}
use Rattle.hla_base.specs.declared.row.TimeRow.{TimeRow}
use Rattle.hla_base.specs.Rows.{is_enabled, least_stamp}
use Rattle.hla_component_rules.specs.LocalValue.{LocalValue}
use Rattle.hla_federation.specs.FederationValue.{FederationValue}
use Rattle.hla_execution.specs.MemberValue.{members_of}
use Rattle.hla_federation.specs.Steps.State.{state_of}
use Rattle.hla_federation.proofs.Steps.Stamps.{no_stamp, in_time}
use Rattle.hla_federation.proofs.parts.Parts.is_bad_stamp.Goals as goal
use Rattle.hla_federation.proofs.parts.Parts.is_bad_stamp.Goals.{then-is_stamped, else-is_stamped}

pub returns-in_default : goal.returns-in_default
returns-in_default c outs any = rw c.in_default.is (no_stamp ((state_of c.args.self.now).row c.args.federate) outs c.args.is_stamped any)

pub returns-then-is_regulation_enabled : goal.returns-then-is_regulation_enabled
returns-then-is_regulation_enabled c outs any =
    let r = (state_of c.args.self.now).row c.args.federate in
    let t = c.in-Some.stamp in
    let row = c.state-state.ensures ∙ ap (λ (l : LocalValue). l.row) c.local.ensures ∙ ap (λ (v : FederationValue). ((members_of v.members).local c.args.federate).row) c.self.view_is in
    let value : c.if-is_stamped.value ≡ c.args.is_stamped && is_enabled r.regulating =
    elim c.if-is_stamped.branch [
      | then-is_stamped w ↦ w.value-is ∙ w.is_regulation_enabled.ensures ∙ ap (λ (x : TimeRow). is_enabled x.regulating) row ∙ rw w.if-is_stamped.true refl
      | else-is_stamped w ↦ w.value-is ∙ rw w.if-is_stamped.false refl
    ] in
    let regulates : c.args.is_stamped && is_enabled r.regulating ≡ true = sym value ∙ c.if-is_regulation_enabled.true in
    let least = c.least_stamp.ensures.value ∙ ap least_stamp row in
    rw (c.in-Some.is, least) (in_time r outs c.args.is_stamped any t (omega (arith, c.if-stamp-gt-MAX_TIME.false)) ∙ rw regulates refl)

pub returns-else-is_regulation_enabled : goal.returns-else-is_regulation_enabled
returns-else-is_regulation_enabled c outs any =
    let r = (state_of c.args.self.now).row c.args.federate in
    let t = c.in-Some.stamp in
    let row = c.state-state.ensures ∙ ap (λ (l : LocalValue). l.row) c.local.ensures ∙ ap (λ (v : FederationValue). ((members_of v.members).local c.args.federate).row) c.self.view_is in
    let value : c.if-is_stamped.value ≡ c.args.is_stamped && is_enabled r.regulating =
    elim c.if-is_stamped.branch [
      | then-is_stamped w ↦ w.value-is ∙ w.is_regulation_enabled.ensures ∙ ap (λ (x : TimeRow). is_enabled x.regulating) row ∙ rw w.if-is_stamped.true refl
      | else-is_stamped w ↦ w.value-is ∙ rw w.if-is_stamped.false refl
    ] in
    rw c.in-Some.is (in_time r outs c.args.is_stamped any t (omega (arith, c.if-stamp-gt-MAX_TIME.false)) ∙ rw (← value, c.if-is_regulation_enabled.false) refl)
