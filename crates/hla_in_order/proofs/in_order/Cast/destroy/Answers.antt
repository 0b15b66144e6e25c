use Rattle.std.proofs.Common.{refl}
use Rattle.hla_requests.specs.declared.steps.Request.TheVariants as request
use Rattle.hla_callers.specs.Callers.{said, nothing}
use Rattle.hla_in_order.proofs.LeadLemmas.{itself_leads}
use Rattle.hla_in_order.proofs.in_order.Cast.destroy.Goals as goal

pub returns-clause-led : goal.returns-clause-led
returns-clause-led g c fed =
    itself_leads fed request.Destroy (said nothing c.destroy.result) c.outcome_of_done.result c.args.rti.now c.destroy.new.self c.args.self.now c.args.self.now (λ rs n is. is) (λ o. refl) c.destroy.ensures.answered c.outcome_of_done.ensures c.destroy.ensures.handed refl refl refl
