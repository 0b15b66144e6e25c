use Rattle.std.proofs.Common.{sym}
use Rattle.hla_federation.specs.Steps.State.{state_of}
use Rattle.hla_federation.proofs.Steps.Choosing.{no_service_choice}
use Rattle.hla_federation.proofs.parts.Parts.service_choice.Goals as goal

pub returns-in_default : goal.returns-in_default
returns-in_default c = record {
  ok = sym (no_service_choice (state_of c.args.self.now) c.args.federate c.args.service.now c.in_default.not-EnableTimeRegulation c.in_default.not-DisableTimeConstrained);
  err = tt;
  memory = tt;
  moved = tt;
}
