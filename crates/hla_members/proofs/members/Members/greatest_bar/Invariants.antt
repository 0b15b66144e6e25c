use Rattle.std.proofs.Common.{◌≡◌}
use Rattle.hla_base.specs.Rows.{bar_of}
use Rattle.hla_base.specs.Tables.{greatest}
use Rattle.hla_execution.specs.MemberValue.{members_of}
use Rattle.hla_members.proofs.members.Members.greatest_bar.Given as goal

-- the greatest of those so far
abbrev pub invariant-loop-peer : goal.invariant-loop-peer
invariant-loop-peer l = l.entry ≡ greatest l.peer l.earliest (λ g. bar_of ((members_of l.self.shown).local g).row)
