-- The first of them are changed so far.
use Rattle.std.proofs.Common.{◌≡◌, ◌++◌, map, take, drop}
use Rattle.hla_members.specs.Telling.{member_told}
use Rattle.hla_members.proofs.telling.tell_each.Given as goal

abbrev pub invariant-loop-place : goal.invariant-loop-place
invariant-loop-place l = l.members.items ≡ map (member_told l.notices) (take l.place l.initial.members.items) ++ drop l.place l.initial.members.items
