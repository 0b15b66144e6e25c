use Rattle.std.proofs.Common.{subst}
use Rattle.hla_machine.specs.History.{IsInOneAdvance}
use Rattle.hla_machine.proofs.Histories.Orders.{keys_rise}
use Rattle.hla_components.specs.Components.{new_components}
use Rattle.hla_components.specs.CentralOf.{central}
use Rattle.hla_components.specs.Next.{next}
use Rattle.hla_components.specs.Headline.{happening, happenings, state_after}
use Rattle.hla_components.proofs.Refinement.Runs.{each_step, each_inv, each_after}
use Rattle.hla_components.proofs.headline.picks_rise.Goals as goal

pub returns : goal.returns
returns c = λ catalogue before step between later f e x s t strict within first second.
    let now = state_after (new_components catalogue) before in
    let then = state_after (next now step).state between in
    let follows = (each_step now step (each_inv catalogue before)).machine.follows in
    keys_rise (central now) (happening step (next now step)) (happenings (next now step).state between) (central then) (happening later (next then later)) f e x s t
    (each_after catalogue before step between later) strict (subst (λ d. IsInOneAdvance d (happenings (next now step).state between) f) follows within) first second
