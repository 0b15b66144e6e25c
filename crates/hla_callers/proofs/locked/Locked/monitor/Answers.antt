use Rattle.std.proofs.Common.{sym, subst}
use Rattle.hla_monitor.specs.Posted.{Posted}
use Rattle.hla_callers.specs.Locked.{IsPosted}
use Rattle.hla_callers.proofs.locked.Locked.monitor.Goals as goal

pub invariant_of-self : goal.invariant_of-self
invariant_of-self g c = λ there.
    let posted = c.catch_up_board.ensures.posted (g.H.History.value c.self.inside.shared).history (c.self.invariant there) in
    subst (λ (b : Posted). IsPosted (g.H.History.value c.self.inside.shared).history b) (sym c.monitor.ensures.same)
    (record { shown = posted.shown; published = posted.published; whole = posted.whole })
