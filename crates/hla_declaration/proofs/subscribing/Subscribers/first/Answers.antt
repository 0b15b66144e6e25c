-- Nobody stands below the lowest bit.
use Rattle.std.proofs.Common.{◌<◌, ◌^◌, arith}
use Rattle.std.specs.Int.{w32, trailing_zeros}
use Rattle.hla_declaration.proofs.SubscriberLemmas.{nobody_before}
use Rattle.hla_declaration.proofs.subscribing.Subscribers.first.Goals as goal

pub returns-clause-before : goal.returns-clause-before
returns-clause-before c f some before =
    let fits : c.args.self.bits < 2 ^ 32 = omega arith in
    let below : f < trailing_zeros w32 c.args.self.bits = omega (arith, c.max.ensures, before, some) in
    nobody_before c.args.self.bits f fits below
