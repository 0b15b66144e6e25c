-- A step ends, and leads, as the next-state function says.
use Rattle.std.proofs.Common.{sym, ◌∙◌}
use Rattle.hla_shared.proofs.Steps.Foreseen.{does_step, refused_stays, done_ends, refused_ends}
use Rattle.hla_shared.proofs.preparing.do_known.Goals as goal

pub returns-in-Ok-clause-outcome : goal.returns-in-Ok-clause-outcome
returns-in-Ok-clause-outcome g c = done_ends (g.F.Execution.value c.args.federation.now) c.args.step.now c.in-Ok.answer c.in-Ok.ensures.outcome

pub returns-in-Ok-clause-state : goal.returns-in-Ok-clause-state
returns-in-Ok-clause-state g c = does_step (g.F.Execution.value c.args.federation.now) (g.F.Execution.value c.step.new.self) c.args.step.now c.in-Ok.ensures.state

pub returns-else-eq-clause-outcome : goal.returns-else-eq-clause-outcome
returns-else-eq-clause-outcome g c =
    refused_ends (g.F.Execution.value c.args.federation.now) c.args.step.now c.in-Err.fault (c.in-Err.ensures.refused (λ e. absurd (let clash = rw e at (sym c.if-eq.false ∙ c.eq.ensures) in cc)))

pub returns-else-eq-clause-state : goal.returns-else-eq-clause-state
returns-else-eq-clause-state g c =
    refused_stays (g.F.Execution.value c.args.federation.now) (g.F.Execution.value c.step.new.self) c.args.step.now c.in-Err.fault c.in-Err.ensures.unchanged (c.in-Err.ensures.refused (λ e. absurd (let clash = rw e at (sym c.if-eq.false ∙ c.eq.ensures) in cc)))
