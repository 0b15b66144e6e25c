use Rattle.hla_checker.proofs.Executions.NewExecution.{new_execution}
use Rattle.hla_checker.proofs.kept.KeptExecution.new.Goals as goal

pub returns-clause-new : goal.returns-clause-new
returns-clause-new c = new_execution c.args.catalogue _ _ _ _ _ _ c.new.ensures c.new-2.ensures c.new-3.ensures c.new-4.ensures
