use Rattle.std.proofs.Common.{ap}
use Rattle.hla_checker.proofs.Verdicts.Deletions.{out_of_order}
use Rattle.hla_checker.proofs.kept.KeptExecution.deletion_of.Goals as goal

pub returns : goal.returns
returns c = ap (out_of_order c.args.object) c.order_of_deletion.ensures
