use Rattle.hla_machine.proofs.Histories.Grants.{grant_after_all}
use Rattle.hla_components.specs.Components.{new_components}
use Rattle.hla_components.specs.CentralOf.{central}
use Rattle.hla_components.specs.Next.{next}
use Rattle.hla_components.specs.Headline.{happening, happenings, state_after}
use Rattle.hla_components.proofs.Refinement.Runs.{each_later}
use Rattle.hla_components.proofs.headline.granted_after_all_before.Goals as goal

pub returns : goal.returns
returns c = λ catalogue before between step f t q e s grants con asks waits low.
    let sent = state_after (new_components catalogue) before in
    let now = state_after sent between in
    grant_after_all (central sent) (happenings sent between) (central now) (happening step (next now step)) f t q e s (each_later catalogue before between step) grants con asks waits low
