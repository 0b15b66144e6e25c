use Rattle.hla_callers.specs.Close.{AllHere}
use Rattle.hla_callers.proofs.closing.all_here.Given as goal

abbrev pub invariant-loop-n : goal.invariant-loop-n
invariant-loop-n g l = AllHere l.n l.lefts
