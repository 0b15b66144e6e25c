-- The event stands behind the others.
use Rattle.hla_accounts.proofs.AfterSteps.Handles.{times-push}
use Rattle.hla_accounts.proofs.handles.Handles.add.Goals as goal
use Rattle.hla_accounts.proofs.handles.Handles.add.Goals.{in-Ok, in-Err}

pub returns-clause-ok : goal.returns-clause-ok
returns-clause-ok c = elim c.match-push.branch [
  | in-Ok w ↦ rw (w.result-is, w.in-Ok.ensures.items, ← c.self.view_is) (times-push c.self.inside.events.items c.args.event)
  | in-Err w ↦ rw w.result-is tt
]
