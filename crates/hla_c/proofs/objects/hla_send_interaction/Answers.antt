use Rattle.std.proofs.Common.{Ok, Err, refl}
use Rattle.hla_machine.specs.declared.step.Answer.TheVariants as answer
use Rattle.hla_c.proofs.Serving.{served_with}
use Rattle.hla_c.proofs.objects.hla_send_interaction.Goals as goal

pub returns-in-Ok-answer-clause-answered : goal.returns-in-Ok-answer-clause-answered
returns-in-Ok-answer-clause-answered c =
    served_with _ _ _ _ _ _ _ _ _ _ c.in-Ok.values (Ok (answer.Sent c.in-Ok-answer.sent)) _ c.in-Some.ensures.some c.deref_mut.ensures.value c.put-2.ensures
    c.in-Ok.ensures.heads c.in-Ok.ensures.bytes c.in-Ok-answer.ensures refl (c.in-Ok-answer.sent, refl, c.event_data.ensures)

pub returns-in-Err-answer-clause-answered : goal.returns-in-Err-answer-clause-answered
returns-in-Err-answer-clause-answered c =
    served_with _ _ _ _ _ _ _ _ _ _ c.in-Ok.values (Err c.in-Err-answer.fault) _ c.in-Some.ensures.some c.deref_mut.ensures.value c.put-2.ensures
    c.in-Ok.ensures.heads c.in-Ok.ensures.bytes c.in-Err-answer.ensures c.code_of-in-Err-answer.ensures tt
