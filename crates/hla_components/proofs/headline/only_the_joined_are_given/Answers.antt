use Rattle.hla_machine.proofs.Copies.Deliveries.{given_to_a_member}
use Rattle.hla_components.specs.Components.{new_components}
use Rattle.hla_components.specs.CentralOf.{central}
use Rattle.hla_components.specs.Next.{next}
use Rattle.hla_components.specs.Headline.{happening, state_after}
use Rattle.hla_components.proofs.Refinement.Runs.{each_happens}
use Rattle.hla_components.proofs.headline.only_the_joined_are_given.Goals as goal

pub returns : goal.returns
returns c = λ catalogue before step f k gives.
    let now = state_after (new_components catalogue) before in
    given_to_a_member (central now) (happening step (next now step)) f k (each_happens catalogue before step) gives
