use Rattle.hla_shared.proofs.Steps.Foreseen.{foreseen_record}
use Rattle.hla_shared.proofs.preparing.foreseen.Goals as goal

pub returns-in-Ok-clause-record : goal.returns-in-Ok-clause-record
returns-in-Ok-clause-record g c = foreseen_record (g.F.Execution.value c.args.federation.now) c.args.actor c.args.execution c.args.step c.in-Ok.field-0.outcome c.in-Ok.field-0.choice c.in-Ok.ensures.outcome c.in-Ok.ensures.choice
