use Rattle.std.proofs.Common.{◌≡◌}
use Rattle.hla_bench.proofs.sharing.begin.Given as goal

abbrev pub invariant-loop-federate : goal.invariant-loop-federate
invariant-loop-federate g l = l.share.parts ≡ l.fn.share.parts
