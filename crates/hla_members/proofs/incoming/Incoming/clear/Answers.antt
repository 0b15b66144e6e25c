use Rattle.std.proofs.Common.{arith}
use Rattle.hla_members.proofs.Wires.{quiet-map}
use Rattle.hla_members.proofs.incoming.Incoming.clear.Goals as goal

pub returns : goal.returns
returns c = quiet-map c.loop-k.self-inside.wires.items (λ k b. c.loop-k.invariant.quiet k (let many = c.loop-k.invariant.many in let end = c.loop-k-test.false in omega (arith, b, many, end)))
