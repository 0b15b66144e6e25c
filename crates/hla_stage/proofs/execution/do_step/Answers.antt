use Rattle.std.proofs.Common.{sym, ◌∙◌}
use Rattle.hla_stage.proofs.KeepLemmas.{steps_done, steps_refused}
use Rattle.hla_stage.proofs.execution.do_step.Goals as goal

pub returns-in-Ok-clause-ok : goal.returns-in-Ok-clause-ok
returns-in-Ok-clause-ok g c = rw c.in-Some.is (steps_done (g.F.Execution.value c.in-Some.federation) (g.F.Execution.value c.step.new.self) c.args.step.now c.in-Ok.answer c.in_ok-choice.choice c.in-Ok.ensures.outcome c.in_ok-choice.ensures.ok c.in-Ok.ensures.state)

pub returns-else-eq-clause-ok : goal.returns-else-eq-clause-ok
returns-else-eq-clause-ok g c =
    rw c.in-Some.is (steps_refused (g.F.Execution.value c.in-Some.federation) (g.F.Execution.value c.step.new.self) c.args.step.now c.in-Err.fault c.in_ok-choice.choice c.in-Err.ensures.unchanged c.in_ok-choice.ensures.ok c.in-Err.ensures.refused (λ e. absurd (let clash = rw e at (sym c.if-eq.false ∙ c.eq.ensures) in cc)))
