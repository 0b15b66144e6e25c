use Rattle.hla_machine.proofs.Histories.Orders.{stamps_never_fall}
use Rattle.hla_components.specs.Components.{new_components}
use Rattle.hla_components.specs.CentralOf.{central}
use Rattle.hla_components.specs.Next.{next}
use Rattle.hla_components.specs.Headline.{happening, happenings, state_after}
use Rattle.hla_components.proofs.Refinement.Runs.{each_after}
use Rattle.hla_components.proofs.headline.picks_never_fall.Goals as goal

pub returns : goal.returns
returns c = λ catalogue before step between later f e x s t plain first second.
    let now = state_after (new_components catalogue) before in
    let then = state_after (next now step).state between in
    stamps_never_fall (central now) (happening step (next now step)) (happenings (next now step).state between) (central then) (happening later (next then later)) f e x s t
    (each_after catalogue before step between later) plain first second
