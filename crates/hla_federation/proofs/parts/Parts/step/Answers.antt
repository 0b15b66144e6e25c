-- A federate joins under the name of the step.
use Rattle.std.proofs.Common.{Ok}
use Rattle.hla_machine.specs.declared.step.Answer.TheVariants as answer
use Rattle.hla_machine.specs.declared.step.Step.TheVariants.{Join}
use Rattle.hla_federation.proofs.Steps.Doing.{ends_chosen}
use Rattle.hla_federation.proofs.parts.Parts.step.Goals as goal

pub returns-in_ok-join-in-Join-clause-done : goal.returns-in_ok-join-in-Join-clause-done
returns-in_ok-join-in-Join-clause-done c =
    rw c.in-Join.is (ends_chosen c.args.self.now (Join c.in-Join.name) (Ok (answer.Federate c.in_ok-join-in-Join.field-0)) c.join.new.self (rw c.as_slice.ensures at c.in_ok-join-in-Join.ensures.done))
