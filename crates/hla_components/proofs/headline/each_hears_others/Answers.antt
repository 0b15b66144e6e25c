use Rattle.hla_machine.proofs.Copies.Deliveries.{heard_from_another}
use Rattle.hla_components.specs.Components.{new_components}
use Rattle.hla_components.specs.CentralOf.{central}
use Rattle.hla_components.specs.Next.{next}
use Rattle.hla_components.specs.Headline.{happening, state_after}
use Rattle.hla_components.proofs.Refinement.Runs.{each_happens}
use Rattle.hla_components.proofs.headline.each_hears_others.Goals as goal

pub returns : goal.returns
returns c = λ catalogue before step f e hears.
    let now = state_after (new_components catalogue) before in
    heard_from_another (central now) (happening step (next now step)) f e (each_happens catalogue before step) hears
