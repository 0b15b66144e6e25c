use Rattle.hla_machine.proofs.Copies.Deliveries.{discovered_before}
use Rattle.hla_components.specs.Components.{new_components}
use Rattle.hla_components.specs.CentralOf.{central}
use Rattle.hla_components.specs.Next.{next}
use Rattle.hla_components.specs.Headline.{happening, state_after}
use Rattle.hla_components.proofs.Refinement.Runs.{each_happens}
use Rattle.hla_components.proofs.headline.each_discovers_before.Goals as goal

pub returns : goal.returns
returns c = λ catalogue before step f k object gives speaks g.
    let now = state_after (new_components catalogue) before in
    discovered_before (central now) (happening step (next now step)) f k object (each_happens catalogue before step) gives speaks g
