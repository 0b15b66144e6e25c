-- Those below a number are there.
use Rattle.std.proofs.Common.{◌≡◌}
use Rattle.hla_base.specs.FederateSets.{federate_set}
use Rattle.hla_base.specs.Tables.{is_other}
use Rattle.hla_execution.specs.MemberValue.{members_of}
use Rattle.hla_members.proofs.Tidings.{passing_below}
use Rattle.hla_members.proofs.members.Members.joined_but.Given as goal

abbrev pub invariant-loop-peer : goal.invariant-loop-peer
invariant-loop-peer l = federate_set l.joined ≡ passing_below (is_other (members_of l.self.shown).joined l.federate) l.peer
