use Rattle.std.proofs.Common.{List, sym, ◌∙◌, ap, subst}
use mathlib.Core.List.{IsPrefix}
use Rattle.hla_machine.specs.declared.step.Record.{Record}
use Rattle.hla_callers.specs.Locked.{LockedValue}
use Rattle.hla_callers.proofs.locked.Locked.tell.Goals as goal

pub invariant_of-self : goal.invariant_of-self
invariant_of-self g c = λ there. c.catch_up_board.ensures.posted (g.H.History.value c.self.inside.shared).history (c.self.invariant there)

pub returns-clause-begins : goal.returns-clause-begins
returns-clause-begins g c = λ there.
    let posted = c.catch_up_board.ensures.posted (g.H.History.value c.self.inside.shared).history (c.self.invariant (ap (λ (l : LockedValue). l.ended) c.self.view_is ∙ there)) in
    subst (λ (rs : List Record). IsPrefix rs (g.H.History.value c.self.inside.shared).history) (sym c.tell.ensures) posted.published
