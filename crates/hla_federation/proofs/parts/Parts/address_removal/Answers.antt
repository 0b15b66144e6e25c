use Rattle.std.proofs.Common.{ℕ, List, [], ◌∷◌, ◌++◌, length, cond, eqb, ltb, Bool, Some, ap, sym, ◌∙◌, arith}
use Rattle.std.proofs.lemmas.List.{append-nil}
use Rattle.hla_base.specs.declared.content.Content.TheVariants as content
use Rattle.hla_base.specs.declared.content.Event.{Event}
use Rattle.hla_null_message.specs.declared.message.Message.{Message}
use Rattle.hla_null_message.specs.declared.message.Message.TheVariants as message
use Rattle.hla_machine.specs.Directory.{ADeletion}
use Rattle.hla_federation.specs.FederationValue.{FederationValue}
use Rattle.hla_execution.specs.MemberValue.{item}
use Rattle.hla_federation.specs.Steps.Sending.{said_messages, message_to}
use Rattle.hla_federation.specs.Steps.State.{state_of}
use Rattle.hla_federation.proofs.Steps.Addressing.{added_more, added_at, added_none, removal_to, said_first, said_last}
use Rattle.hla_federation.proofs.parts.Parts.address_removal.Goals as goal
use Rattle.hla_federation.proofs.parts.Parts.address_removal.Goals.{then-receives_removal+in_ok-share+in_ok-put, else-receives_removal}

pub loop-peer-init : goal.loop-peer-init
loop-peer-init c = λ h.
    let o = item [] c.args.outbox.now h in
    sym (append-nil o) ∙ ap (λ (ms : List Message). o ++ ms) (sym (said_first c.args.self.now c.args.heading (ADeletion c.args.object) h))

pub loop-peer-preserved : goal.loop-peer-preserved
loop-peer-preserved c = λ h.
    let added = λ (k : ℕ). message_to (state_of c.args.self.now).directory c.args.heading (ADeletion c.args.object) k in
    let peer = c.loop-peer.peer in
    let to = removal_to c.args.self.now c.args.heading c.args.object peer in
    let removal = said_messages c.args.heading (Some (content.Removal c.args.object)) in
    elim c.if-receives_removal.branch [
      | then-receives_removal+in_ok-share+in_ok-put w ↦
          let here = to ∙ ap (λ (b : Bool). cond b removal []) (sym c.receives_removal.ensures ∙ w.if-receives_removal.true) in
          ap (λ (o : List (List Message)). item [] o h) w.outbox-is
          ∙ added_more (λ k. cond (ltb k peer) (added k) []) c.args.outbox.now c.loop-peer.outbox w.put.new.self peer (message.Event w.in_ok-share.share) c.loop-peer.invariant w.in_ok-put.ensures.ok h
          ∙ ap (λ (ms : List Message). item [] c.args.outbox.now h ++ (cond (ltb h peer) (added h) [] ++ cond (eqb peer h) ms [])) (ap (λ (e : Event). message.Event e ∷ []) (w.in_ok-share.ensures.ok ∙ c.in_ok-whole.ensures.ok) ∙ sym here)
          ∙ ap (λ (ms : List Message). item [] c.args.outbox.now h ++ ms) (added_at added peer h)
      | else-receives_removal w ↦
          let none = to ∙ ap (λ (b : Bool). cond b removal []) (sym c.receives_removal.ensures ∙ w.if-receives_removal.false) in
          ap (λ (o : List (List Message)). item [] o h) w.outbox-is
          ∙ c.loop-peer.invariant h
          ∙ ap (λ (ms : List Message). item [] c.args.outbox.now h ++ ms) (added_none added peer h none)
    ]

pub returns-clause-ok : goal.returns-clause-ok
returns-clause-ok c = λ h.
    let same = ap (λ (v : FederationValue). length v.members) c.self.view_is in
    c.loop-peer.invariant h
    ∙ ap (λ (ms : List Message). item [] c.args.outbox.now h ++ ms) (said_last c.args.self.now c.args.heading (ADeletion c.args.object) c.loop-peer.peer h (omega (arith, same)))
