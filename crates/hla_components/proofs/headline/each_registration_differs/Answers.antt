use Rattle.hla_machine.proofs.Histories.Registrations.{registered_apart}
use Rattle.hla_components.specs.Components.{new_components}
use Rattle.hla_components.specs.CentralOf.{central}
use Rattle.hla_components.specs.Next.{next}
use Rattle.hla_components.specs.Headline.{happening, happenings, state_after}
use Rattle.hla_components.proofs.Refinement.Runs.{each_after}
use Rattle.hla_components.proofs.headline.each_registration_differs.Goals as goal

pub returns : goal.returns
returns c = λ catalogue before step between later a b n p first second.
    let now = state_after (new_components catalogue) before in
    let then = state_after (next now step).state between in
    registered_apart (central now) (happening step (next now step)) (happenings (next now step).state between) (central then) (happening later (next then later)) a b n p
    (each_after catalogue before step between later) first second
