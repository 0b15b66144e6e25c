use Rattle.std.proofs.Common.{Result, Option, Ok, sym, ap, ◌∙◌}
use Rattle.hla_base.specs.declared.fault.Fault.{Fault}
use Rattle.hla_machine.specs.declared.service.Service.{Service}
use Rattle.hla_requests.proofs.CallLemmas.{asked_of_time}
use Rattle.hla_requests.proofs.steps.object_service.Goals as goal

pub returns-in_default : goal.returns-in_default
returns-in_default c =
    let n = c.in_default in
    asked_of_time c.args.catalogue.now c.args.call.now n.not-Register n.not-Update n.not-Send n.not-Delete n.not-ChangeAttributeOrder n.not-ChangeInteractionOrder n.not-RegisterPoint n.not-AchievePoint n.not-ObjectHandle n.not-ObjectName
    ∙ sym (ap (λ (s : Option Service). let asked : Result (Option Service) Fault = Ok s in asked) c.time_service.ensures)
