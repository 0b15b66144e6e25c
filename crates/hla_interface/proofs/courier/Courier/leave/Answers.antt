use Rattle.std.proofs.Common.{subst}
use Rattle.std.specs.List.{All}
use Rattle.hla_callers.specs.Callers.{Caller}
use Rattle.hla_interface.specs.Exchanges.{IsExchange}
use Rattle.hla_interface.proofs.courier.Courier.leave.Goals as goal

pub returns-clause-exchanges : goal.returns-clause-exchanges
returns-clause-exchanges g c = subst (λ (x : Caller). All IsExchange x.transcript) c.self.view_is c.self.invariant
