use Rattle.std.proofs.Common.{◌≡◌, ◌++◌, ◌∷◌, [], sym, ◌∙◌, ap, arith}
use Rattle.hla_components.specs.Next.{next}
use Rattle.hla_machine.specs.declared.step.Record.{Record}
use Rattle.hla_execution.specs.FederationValue.{FederationValue}
use Rattle.hla_history.specs.Heard.{callback_in}
use Rattle.hla_history.specs.Hosting.{HostedValue, components_hosted, heard_of}
use Rattle.hla_history.specs.Writing.{step_record}
use Rattle.hla_shared.proofs.Heard.Hosting.{ambassadors_ready, delivers, len_fits, given_fits, host_steps}
use Rattle.hla_shared.proofs.Records.Written.{last_is}
use Rattle.hla_shared.proofs.Steps.Foreseen.{foreseen_end}
use Rattle.hla_shared.proofs.host.Hosted.step_into.Goals as goal
use Rattle.hla_shared.proofs.host.Hosted.step_into.Goals.{in-Ok, in-Err-carry_out}

pub carry_out-requires-clause-ready : goal.carry_out-requires-clause-ready
carry_out-requires-clause-ready g c =
    let foreseen : Record = step_record c.args.actor c.self.inside.name c.args.step
    (next (components_hosted (g.F.Execution.value c.self.inside.federation)) c.args.step).outcome (next (components_hosted (g.F.Execution.value c.self.inside.federation)) c.args.step).choice in
    let made : c.index-made.result.now ≡ foreseen =
    last_is c.write_foreseen.new.history.items c.args.history.now.items foreseen c.index-made.result.now c.len.result c.in_ok-write_foreseen.ensures.written
    (omega (arith, c.len.ensures, c.write_foreseen.new.history.ok.0)) c.index-made.ensures in
    delivers c.make_ready.new.ears.items (components_hosted (g.F.Execution.value c.self.inside.federation)) c.args.step c.index-made.result.now.act (callback_in c.index-made.result.now.outcome)
    (ambassadors_ready _ _ c.make_ready.new.ears.items c.self.view_is c.requires.ambassadors c.in_default.ensures.heard)
    c.in_default.ensures.ready (ap (λ (r : Record). r.act) made) (ap (λ (r : Record). callback_in r.outcome) made)

pub carry_out-requires-clause-foreseen : goal.carry_out-requires-clause-foreseen
carry_out-requires-clause-foreseen g c =
    let foreseen : Record = step_record c.args.actor c.self.inside.name c.args.step
    (next (components_hosted (g.F.Execution.value c.self.inside.federation)) c.args.step).outcome (next (components_hosted (g.F.Execution.value c.self.inside.federation)) c.args.step).choice in
    let made : c.index-made.result.now ≡ foreseen =
    last_is c.write_foreseen.new.history.items c.args.history.now.items foreseen c.index-made.result.now c.len.result c.in_ok-write_foreseen.ensures.written
    (omega (arith, c.len.ensures, c.write_foreseen.new.history.ok.0)) c.index-made.ensures in
    foreseen_end (g.F.Execution.value c.self.inside.federation) c.args.actor c.self.inside.name c.args.step c.index-made.result.now made

pub invariant_of-self-2 : goal.invariant_of-self-2
invariant_of-self-2 g c =
    let foreseen : Record = step_record c.args.actor c.self.inside.name c.args.step
    (next (components_hosted (g.F.Execution.value c.self.inside.federation)) c.args.step).outcome (next (components_hosted (g.F.Execution.value c.self.inside.federation)) c.args.step).choice in
    let made : c.index-made.result.now ≡ foreseen =
    last_is c.write_foreseen.new.history.items c.args.history.now.items foreseen c.index-made.result.now c.len.result c.in_ok-write_foreseen.ensures.written
    (omega (arith, c.len.ensures, c.write_foreseen.new.history.ok.0)) c.index-made.ensures in
    let same = c.carry_out.ensures.len ∙ c.in_default.ensures.len in
    elim c.match-carry_out.branch [
      | in-Ok w ↦ len_fits (components_hosted (g.F.Execution.value c.self.inside.federation)) (components_hosted (g.F.Execution.value c.carry_out.new.federation)) c.args.step c.index-made.result.now.act _ _
          c.requires.plain (ap (λ (r : Record). r.act) made) w.in-Ok.ensures.state c.self.invariant same
      | in-Err-carry_out w ↦ same ∙ c.self.invariant ∙ ap (λ (f : FederationValue). (components_hosted f).directory.next_federate) (sym w.in-Err-carry_out.ensures.unchanged)
    ]

pub returns-clause-written : goal.returns-clause-written
returns-clause-written g c =
    let foreseen : Record = step_record c.args.actor c.self.inside.name c.args.step
    (next (components_hosted (g.F.Execution.value c.self.inside.federation)) c.args.step).outcome (next (components_hosted (g.F.Execution.value c.self.inside.federation)) c.args.step).choice in
    let made : c.index-made.result.now ≡ foreseen =
    last_is c.write_foreseen.new.history.items c.args.history.now.items foreseen c.index-made.result.now c.len.result c.in_ok-write_foreseen.ensures.written
    (omega (arith, c.len.ensures, c.write_foreseen.new.history.ok.0)) c.index-made.ensures in
    elim c.match-carry_out.branch [
      | in-Ok w ↦ rw (w.result-is, w.history-is)
          (w.answered.ensures.written c.args.history.now.items foreseen c.in_ok-write_foreseen.ensures.written (w.in-Ok.ensures.answer ∙ ap (λ (r : Record). r.outcome) made)
          ∙ ap (λ (h : HostedValue). c.args.history.now.items ++ step_record c.args.actor h.name c.args.step w.answered.result (next (components_hosted h.federation) c.args.step).choice ∷ []) c.self.view_is)
      | in-Err-carry_out w ↦ rw w.result-is tt
    ]

pub returns-clause-given : goal.returns-clause-given
returns-clause-given g c =
    let foreseen : Record = step_record c.args.actor c.self.inside.name c.args.step
    (next (components_hosted (g.F.Execution.value c.self.inside.federation)) c.args.step).outcome (next (components_hosted (g.F.Execution.value c.self.inside.federation)) c.args.step).choice in
    let made : c.index-made.result.now ≡ foreseen =
    last_is c.write_foreseen.new.history.items c.args.history.now.items foreseen c.index-made.result.now c.len.result c.in_ok-write_foreseen.ensures.written
    (omega (arith, c.len.ensures, c.write_foreseen.new.history.ok.0)) c.index-made.ensures in
    elim c.match-carry_out.branch [
      | in-Ok w ↦ rw w.result-is
          (given_fits (components_hosted (g.F.Execution.value c.self.inside.federation)) c.args.step w.answered.result w.in-Ok.ended.answer w.answered.ensures.given
          (w.in-Ok.ensures.answer ∙ ap (λ (r : Record). r.outcome) made)
          ∙ ap (λ (h : HostedValue). (next (components_hosted h.federation) c.args.step).outcome) c.self.view_is)
      | in-Err-carry_out w ↦ rw w.result-is tt
    ]

pub returns-clause-host : goal.returns-clause-host
returns-clause-host g c =
    let foreseen : Record = step_record c.args.actor c.self.inside.name c.args.step
    (next (components_hosted (g.F.Execution.value c.self.inside.federation)) c.args.step).outcome (next (components_hosted (g.F.Execution.value c.self.inside.federation)) c.args.step).choice in
    let made : c.index-made.result.now ≡ foreseen =
    last_is c.write_foreseen.new.history.items c.args.history.now.items foreseen c.index-made.result.now c.len.result c.in_ok-write_foreseen.ensures.written
    (omega (arith, c.len.ensures, c.write_foreseen.new.history.ok.0)) c.index-made.ensures in
    elim c.match-carry_out.branch [
      | in-Ok w ↦ rw w.result-is
          (host_steps _ _ (components_hosted (g.F.Execution.value c.carry_out.new.federation)) (heard_of c.make_ready.new.ears.items) (heard_of c.carry_out.new.ears.items) c.args.step c.index-made.result.now.act
          w.answered.result (callback_in c.index-made.result.now.outcome) c.self.view_is c.requires.plain (ap (λ (r : Record). r.act) made) w.in-Ok.ensures.state
          c.in_default.ensures.heard w.in-Ok.ensures.heard (w.answered.ensures.callback ∙ ap callback_in w.in-Ok.ensures.answer))
      | in-Err-carry_out w ↦ rw w.result-is tt
    ]
