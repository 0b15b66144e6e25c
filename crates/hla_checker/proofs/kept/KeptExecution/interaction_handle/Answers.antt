use Rattle.std.proofs.Common.{sym}
use Rattle.hla_machine.specs.Directory.{AnInteraction, by_handle, order_of_interaction}
use Rattle.hla_verdicts.specs.Kept.{directory_of}
use Rattle.hla_checker.proofs.kept.KeptExecution.interaction_handle.Goals as goal

pub returns : goal.returns
returns c values =
    c.handle_of.ensures (record { order = order_of_interaction (directory_of c.args.self.now) c.args.federate c.args.class; body = AnInteraction c.args.class (by_handle values) })
    (sym c.order_of_interaction-order.ensures)
