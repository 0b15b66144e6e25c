-- Nobody stands past the highest bit.
use Rattle.std.proofs.Common.{◌<◌, ◌^◌, arith}
use Rattle.hla_declaration.proofs.SubscriberLemmas.{nobody_behind}
use Rattle.hla_declaration.proofs.subscribing.Subscribers.end.Goals as goal

pub returns-clause-behind : goal.returns-clause-behind
returns-clause-behind c f past =
    let fits : c.args.self.bits < 2 ^ 32 = omega arith in
    nobody_behind c.args.self.bits f fits past
