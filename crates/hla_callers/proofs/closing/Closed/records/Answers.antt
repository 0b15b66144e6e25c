use Rattle.std.proofs.Common.{subst}
use Rattle.hla_history.specs.Closing.{Replays}
use Rattle.hla_callers.proofs.RunLaws.{replayed_lawful}
use Rattle.hla_callers.proofs.TurnLaws.{replayed_in_turn}
use Rattle.hla_callers.proofs.closing.Closed.records.Goals as goal

pub returns-clause-laws : goal.returns-clause-laws
returns-clause-laws c = replayed_lawful c.args.self.now (subst Replays c.self.view_is c.self.invariant)

pub returns-clause-discoveries : goal.returns-clause-discoveries
returns-clause-discoveries c = replayed_in_turn c.args.self.now (subst Replays c.self.view_is c.self.invariant)
