use Rattle.std.proofs.Common.{Result, Option, sym, subst}
use Rattle.hla_base.specs.declared.fault.Fault.{Fault}
use Rattle.hla_machine.specs.declared.service.Service.{Service}
use Rattle.hla_requests.specs.Requests.{Asks}
use Rattle.hla_requests.proofs.CallLemmas.{asked_of_objects}
use Rattle.hla_requests.proofs.steps.service_of.Goals as goal

pub returns-in_default : goal.returns-in_default
returns-in_default c =
    let n = c.in_default in
    subst (λ (meant : Result (Option Service) Fault). Asks c.object_service.result meant)
    (sym (asked_of_objects c.args.catalogue.now c.args.call.now n.not-Resign n.not-DeclareObject n.not-WithdrawObject n.not-DeclareInteraction n.not-WithdrawInteraction)) c.object_service.ensures
