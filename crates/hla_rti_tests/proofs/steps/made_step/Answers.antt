use Rattle.hla_rti_tests.proofs.steps.made_step.Goals as goal

-- the service is plain of whichever federate calls it
pub returns-in_default : goal.returns-in_default
returns-in_default g c = c.made_service-service.ensures c.below-federate.result
