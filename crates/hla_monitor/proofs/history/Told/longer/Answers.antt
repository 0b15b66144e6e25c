use Rattle.std.proofs.Common.{ℕ, ◌≤◌, ap, subst, arith, length, List}
use mathlib.Core.List.{IsPrefix}
use Rattle.hla_machine.specs.declared.step.Record.{Record}
use Rattle.hla_monitor.specs.declared.status.Status.{Status}
use Rattle.hla_monitor.proofs.Beginnings.{prefix_shorter}
use Rattle.hla_monitor.proofs.Counting.{status_steps}
use Rattle.hla_monitor.proofs.history.Told.longer.Goals as goal

pub returns-then-self-other-clause-this : goal.returns-then-self-other-clause-this
returns-then-self-other-clause-this g c =
    let both = c.learn.new.self.log in
    let this : IsPrefix c.self.inside.seen.log both = subst (λ (l : List Record). IsPrefix l both) (ap {B = List Record} (λ s. s.log) c.again-both.ensures) c.learn.ensures.2 in
    let less : length c.self.inside.seen.log ≤ length c.other.inside.seen.log =
    omega (arith, ap {B = ℕ} (λ (s : Status). s.steps) c.self.invariant.0, ap {B = ℕ} (λ (s : Status). s.steps) c.other.invariant.0, status_steps c.self.inside.seen.log, status_steps c.other.inside.seen.log) in
    rw (c.again.ensures, ← c.self.view_is, ← c.other.view_is) (prefix_shorter c.self.inside.seen.log c.other.inside.seen.log both this c.learn.ensures.3 less)

pub returns-clause-that : goal.returns-clause-that
returns-clause-that g c =
    let both = c.learn.new.self.log in
    let this : IsPrefix c.self.inside.seen.log both = subst (λ (l : List Record). IsPrefix l both) (ap {B = List Record} (λ s. s.log) c.again-both.ensures) c.learn.ensures.2 in
    let less : length c.other.inside.seen.log ≤ length c.self.inside.seen.log =
    omega (arith, ap {B = ℕ} (λ (s : Status). s.steps) c.self.invariant.0, ap {B = ℕ} (λ (s : Status). s.steps) c.other.invariant.0, status_steps c.self.inside.seen.log, status_steps c.other.inside.seen.log) in
    rw (c.again-else-self-other.ensures, ← c.self.view_is, ← c.other.view_is) (prefix_shorter c.other.inside.seen.log c.self.inside.seen.log both c.learn.ensures.3 this less)
