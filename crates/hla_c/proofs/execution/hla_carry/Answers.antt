use Rattle.std.proofs.Common.{Ok, refl}
use Rattle.hla_machine.specs.declared.step.Answer.TheVariants as answer
use Rattle.hla_c.proofs.Serving.{step_answered}
use Rattle.hla_c.proofs.execution.hla_carry.Goals as goal

pub returns-in-Ok-clause-answered : goal.returns-in-Ok-clause-answered
returns-in-Ok-clause-answered c =
    step_answered _ _ _ _ _ _ _ (Ok (answer.Carried c.in-Ok.what)) _ c.in-Some.ensures.some c.deref_mut.ensures.value c.put.ensures c.in-Ok.ensures refl (c.in-Ok.what, refl, c.carried_data.ensures)
