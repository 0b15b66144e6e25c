use Rattle.hla_callers.specs.Close.{AgreeBefore}
use Rattle.hla_callers.proofs.comparing.first_unmatched.Given as goal

abbrev pub invariant-loop-k : goal.invariant-loop-k
invariant-loop-k g l = AgreeBefore (g.H.History.value l.shared).history l.lefts l.k
