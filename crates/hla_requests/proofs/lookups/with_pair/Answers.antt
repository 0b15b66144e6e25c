use Rattle.std.proofs.Common.{◌≤◌, length, arith}
use Rattle.hla_base.specs.Limits.{max_value}
use Rattle.hla_requests.proofs.AskLemmas.{pairs_starved}
use Rattle.hla_requests.proofs.lookups.with_pair.Goals as goal

pub returns-in_default-new : goal.returns-in_default-new
returns-in_default-new c =
    let short : length c.args.value.now ≤ max_value = omega (arith, c.if-value-gt-LIMIT.false) in
    λ meant asks. pairs_starved c.args.pairs c.in_ok-pairs.pairs c.args.handle c.args.value.now c.in_ok-pairs.was short meant asks

pub returns-in-Err : goal.returns-in-Err
returns-in-Err c =
    let short : length c.args.value.now ≤ max_value = omega (arith, c.if-value-gt-LIMIT.false) in
    λ meant asks. pairs_starved c.args.pairs c.in_ok-pairs.pairs c.args.handle c.args.value.now c.in_ok-pairs.was short meant asks
