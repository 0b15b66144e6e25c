use Rattle.std.proofs.Common.{arith}
use Rattle.hla_members.proofs.Wires.{quiet-map}
use Rattle.hla_members.proofs.incoming.Incoming.new.Goals as goal

pub returns-clause-ok : goal.returns-clause-ok
returns-clause-ok c = quiet-map c.loop-made.wires.items (λ k b. c.loop-made.invariant.quiet k (let many = c.loop-made.invariant.many in omega (arith, b, many)))
