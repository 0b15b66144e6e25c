use Rattle.std.proofs.Common.{take}
use Rattle.hla_requests.specs.Requests.{Asks, handle_named, named_pairs}
use Rattle.hla_requests.proofs.lookups.pairs.Given as goal

abbrev pub invariant-loop-given : goal.invariant-loop-given
invariant-loop-given l = Asks l.pairs (named_pairs (handle_named l.catalogue l.class) (take l.given-index l.values))
