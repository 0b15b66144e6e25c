-- What is left of the heads decides, beside the rest of the bytes.
use Rattle.std.proofs.Common.{◌≡◌, drop}
use Rattle.hla_plain.specs.Values.{fits}
use Rattle.hla_plain.proofs.values.do_fit.Given as goal

abbrev pub invariant-loop-head : goal.invariant-loop-head
invariant-loop-head l = fits l.heads l.bytes ≡ fits (drop l.head-index l.heads) l.rest
