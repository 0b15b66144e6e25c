use Rattle.std.proofs.Common.{◌≡◌}
use Rattle.hla_rti_tests.proofs.stepping.step_all.Given as goal

abbrev pub invariant-loop : goal.invariant-loop
invariant-loop g l = l.share.parts ≡ l.fn.share.parts
