use Rattle.std.proofs.Common.{refl}
use Rattle.hla_machine.specs.declared.step.Answer.TheVariants as answer
use Rattle.hla_machine.specs.declared.step.Step.TheVariants as step
use Rattle.hla_requests.specs.declared.steps.Request.TheVariants as request
use Rattle.hla_callers.specs.Callers.{said}
use Rattle.hla_in_order.proofs.LeadLemmas.{courier_leads}
use Rattle.hla_in_order.proofs.in_order.Cast.announce.Goals as goal

pub returns-clause-led : goal.returns-clause-led
returns-clause-led g c fed office =
    courier_leads fed (request.Step (step.Announce c.args.federate)) (said answer.Announced c.announce.result) c.outcome_of_announced.result office c.args.self.now _ (λ rs n is. is) (λ o. refl) c.announce.ensures c.outcome_of_announced.ensures refl refl
