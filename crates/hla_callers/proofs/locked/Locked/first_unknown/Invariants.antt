use Rattle.hla_callers.specs.Close.{KnownBefore}
use Rattle.hla_callers.proofs.locked.Locked.first_unknown.Given as goal

abbrev pub invariant-loop-k : goal.invariant-loop-k
invariant-loop-k g l = KnownBefore l.self.held.history l.lefts l.k
