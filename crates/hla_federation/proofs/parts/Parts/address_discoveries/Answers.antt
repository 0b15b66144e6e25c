use Rattle.std.proofs.Common.{[], ◌++◌, refl, sym, ◌∙◌}
use Rattle.std.proofs.lemmas.List.{at_drop_all, append-nil}
use Rattle.hla_execution.specs.MemberValue.{item}
use Rattle.hla_federation.specs.Steps.Discovering.{discovery_to}
use Rattle.hla_federation.specs.Steps.Sending.{messages_among}
use Rattle.hla_federation.proofs.Steps.Addressing.{put_more}
use Rattle.hla_federation.proofs.parts.Parts.address_discoveries.Goals as goal

pub loop-receiver-init : goal.loop-receiver-init
loop-receiver-init c = λ h. refl

pub loop-receiver-preserved : goal.loop-receiver-preserved
loop-receiver-preserved c = λ h.
    put_more (item [] c.loop-receiver.outbox) _ c.args.receivers.now c.loop-receiver.receiver-index _ (discovery_to c.args.object c.args.name.now) _ c.loop-receiver-test.true c.in_ok-put.ensures.ok (rw c.in_ok-copy.ensures.ok refl) h
    ∙ c.loop-receiver.invariant h

pub returns-clause-ok : goal.returns-clause-ok
returns-clause-ok c = λ h.
    let made = discovery_to c.args.object c.args.name.now in
    let o = item [] c.loop-receiver.outbox h in
    sym (append-nil o) ∙ sym (at_drop_all (λ xs. o ++ messages_among made xs h) c.args.receivers.now c.loop-receiver.receiver-index c.loop-receiver-test.false) ∙ c.loop-receiver.invariant h
