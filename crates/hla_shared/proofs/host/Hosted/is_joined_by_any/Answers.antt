use Rattle.std.proofs.Common.{◌∙◌, ap}
use Rattle.hla_machine.specs.Runs.{is_joined_by_any}
use Rattle.hla_components.specs.CentralOf.{central}
use Rattle.hla_history.specs.Hosting.{HostedValue, components_hosted}
use Rattle.hla_shared.proofs.Executions.Creations.{joined_there}
use Rattle.hla_shared.proofs.host.Hosted.is_joined_by_any.Goals as goal

pub returns : goal.returns
returns g c =
    joined_there (g.F.Execution.value c.self.inside.federation) c.is_joined_by_any.result c.is_joined_by_any.ensures
    ∙ ap (λ (h : HostedValue). is_joined_by_any (central (components_hosted h.federation))) c.self.view_is
