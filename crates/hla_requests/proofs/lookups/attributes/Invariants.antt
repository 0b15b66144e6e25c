use Rattle.std.proofs.Common.{take}
use Rattle.hla_requests.specs.Requests.{Asks, handle_named, named_handles}
use Rattle.hla_requests.proofs.lookups.attributes.Given as goal

abbrev pub invariant-loop-name : goal.invariant-loop-name
invariant-loop-name l = Asks l.numbers (named_handles (handle_named l.catalogue l.class) (take l.name-index l.names))
