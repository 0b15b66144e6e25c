-- What is left is distinct if all is.
use Rattle.std.proofs.Common.{◌≡◌, drop}
use Rattle.hla_accounts.specs.Calls.{are_distinct}
use Rattle.hla_verdicts.proofs.constraining.are_moved_once.Given as goal

abbrev pub invariant-loop-place : goal.invariant-loop-place
invariant-loop-place l = are_distinct l.events ≡ are_distinct (drop l.place l.events)
