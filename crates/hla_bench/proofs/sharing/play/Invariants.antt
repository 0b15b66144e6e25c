use Rattle.std.proofs.Common.{◌≡◌}
use Rattle.hla_bench.proofs.sharing.play.Given as goal

abbrev pub invariant-loop-time : goal.invariant-loop-time
invariant-loop-time g l = l.share.parts ≡ l.fn.share.parts
