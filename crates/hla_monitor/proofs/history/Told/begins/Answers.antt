use Rattle.std.proofs.Common.{◌≤◌, ℕ, List, length, ap, subst, arith, le-leb, leb-true}
use mathlib.Core.List.{IsPrefix}
use Rattle.hla_machine.specs.declared.step.Record.{Record}
use Rattle.hla_monitor.specs.declared.status.Status.{Status}
use Rattle.hla_monitor.proofs.Beginnings.{prefix_shorter, prefix_length}
use Rattle.hla_monitor.proofs.Counting.{status_steps}
use Rattle.hla_monitor.proofs.history.Told.begins.Goals as goal

pub returns-clause-begins : goal.returns-clause-begins
returns-clause-begins g c holds =
    let both = c.learn.new.self.log in
    let this : IsPrefix c.self.inside.seen.log both = subst (λ (l : List Record). IsPrefix l both) (ap {B = List Record} (λ s. s.log) c.again-both.ensures) c.learn.ensures.2 in
    let shorter : c.self.inside.status.steps ≤ c.other.inside.status.steps = leb-true c.self.inside.status.steps c.other.inside.status.steps holds in
    let less : length c.self.inside.seen.log ≤ length c.other.inside.seen.log =
    omega (arith, shorter, ap {B = ℕ} (λ (s : Status). s.steps) c.self.invariant.0, ap {B = ℕ} (λ (s : Status). s.steps) c.other.invariant.0, status_steps c.self.inside.seen.log, status_steps c.other.inside.seen.log) in
    rw (← c.self.view_is, ← c.other.view_is) (prefix_shorter c.self.inside.seen.log c.other.inside.seen.log both this c.learn.ensures.3 less)

pub returns-clause-differs : goal.returns-clause-differs
returns-clause-differs g c is =
    let within : IsPrefix c.self.inside.seen.log c.other.inside.seen.log = rw (c.self.view_is, c.other.view_is) is in
    let less : length c.self.inside.seen.log ≤ length c.other.inside.seen.log = prefix_length c.self.inside.seen.log c.other.inside.seen.log within in
    let shorter : c.self.inside.status.steps ≤ c.other.inside.status.steps =
    omega (arith, less, ap {B = ℕ} (λ (s : Status). s.steps) c.self.invariant.0, ap {B = ℕ} (λ (s : Status). s.steps) c.other.invariant.0, status_steps c.self.inside.seen.log, status_steps c.other.inside.seen.log) in
    le-leb c.self.inside.status.steps c.other.inside.status.steps shorter
