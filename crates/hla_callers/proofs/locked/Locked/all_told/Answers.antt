use Rattle.std.proofs.Common.{subst}
use Rattle.hla_history.specs.Closing.{Replays}
use Rattle.hla_callers.specs.Locked.{LockedValue}
use Rattle.hla_callers.proofs.locked.Locked.all_told.Goals as goal

pub returns-then-self-clause-replays : goal.returns-then-self-clause-replays
returns-then-self-clause-replays g c = subst (λ (l : LockedValue). Replays l.held.history) c.self.view_is (_, c.kept.ensures.replays)

pub returns-clause-replays : goal.returns-clause-replays
returns-clause-replays g c = subst (λ (l : LockedValue). Replays l.held.history) c.self.view_is (_, c.kept.ensures.replays)
