use Rattle.hla_checker.proofs.Executions.TableChanges.{destroyed, consistent_removed}
use Rattle.hla_checker.proofs.table.ExecutionTable.destroy.Goals as goal

pub returns-clause-after : goal.returns-clause-after
returns-clause-after c = destroyed _ c.args.self.now.present _ _ _ c.args.name.now c.remove_named.ensures c.saturating_sub-self.ensures

pub returns-clause-consistent : goal.returns-clause-consistent
returns-clause-consistent c = consistent_removed _ _ c.args.name.now c.remove_named.ensures c.requires
