use Rattle.std.proofs.Common.{sym, ◌∙◌}
use Rattle.hla_stage.proofs.KeepLemmas.{destroyed_when_left, kept_while_joined}
use Rattle.hla_stage.proofs.execution.destroy_unless_joined.Goals as goal

pub returns-then-is_joined_by_any : goal.returns-then-is_joined_by_any
returns-then-is_joined_by_any g c = rw c.in-Some.is (kept_while_joined (g.F.Execution.value c.in-Some.here) (sym c.is_joined_by_any.ensures ∙ c.if-is_joined_by_any.true))

pub returns : goal.returns
returns g c = rw (c.take.ensures.after, c.in-Some.is) (destroyed_when_left (g.F.Execution.value c.in-Some.here) (sym c.is_joined_by_any.ensures ∙ c.if-is_joined_by_any.false))
