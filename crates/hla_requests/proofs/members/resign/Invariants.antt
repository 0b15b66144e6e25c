use Rattle.std.proofs.Common.{◌≡◌, ◌++◌, map, take, drop}
use Rattle.hla_requests.specs.Members.{without}
use Rattle.hla_requests.proofs.members.resign.Given as goal

abbrev pub invariant-loop-member : goal.invariant-loop-member
invariant-loop-member l = l.members ≡ map (without l.federate) (take l.member-index l.fn.members) ++ drop l.member-index l.fn.members
