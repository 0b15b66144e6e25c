use Rattle.hla_program.proofs.RunLemmas.{histories_found}
use Rattle.hla_program.proofs.threads.history_finding.Goals as goal

pub returns-clause-found : goal.returns-clause-found
returns-clause-found c = histories_found c.records.result.now c.args.closed.now c.finding_of.result c.records.ensures.records c.records.ensures.run c.finding_of.ensures
