use Rattle.hla_machine.proofs.Copies.Deliveries.{heard_in_order}
use Rattle.hla_components.specs.Components.{new_components}
use Rattle.hla_components.specs.CentralOf.{central}
use Rattle.hla_components.specs.Next.{next}
use Rattle.hla_components.specs.Headline.{happening, happenings, state_after}
use Rattle.hla_components.proofs.Refinement.Runs.{each_after}
use Rattle.hla_components.proofs.headline.each_hears_in_order.Goals as goal

pub returns : goal.returns
returns c = λ catalogue before step between later f e x first second same.
    let now = state_after (new_components catalogue) before in
    let then = state_after (next now step).state between in
    heard_in_order (central now) (happening step (next now step)) (happenings (next now step).state between) (central then) (happening later (next then later)) f e x
    (each_after catalogue before step between later) first second same
