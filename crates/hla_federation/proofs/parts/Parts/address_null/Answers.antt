use Rattle.std.proofs.Common.{ℕ, List, [], ◌∷◌, ◌++◌, length, cond, eqb, ltb, Bool, ap, sym, ◌∙◌, arith}
use Rattle.std.proofs.lemmas.List.{append-nil}
use Rattle.hla_null_message.specs.declared.message.Message.{Message}
use Rattle.hla_null_message.specs.declared.message.Message.TheVariants as message
use Rattle.hla_federation.specs.FederationValue.{FederationValue}
use Rattle.hla_execution.specs.MemberValue.{item}
use Rattle.hla_federation.specs.Steps.Sending.{null_to}
use Rattle.hla_federation.specs.Steps.State.{state_of}
use Rattle.hla_federation.proofs.Steps.Addressing.{added_more, added_at, added_none, null_first, null_last}
use Rattle.hla_federation.proofs.parts.Parts.address_null.Goals as goal
use Rattle.hla_federation.proofs.parts.Parts.address_null.Goals.{then-is_other+in_ok-put, else-is_other}

pub loop-peer-init : goal.loop-peer-init
loop-peer-init c = λ h.
    let o = item [] c.args.outbox.now h in
    sym (append-nil o) ∙ ap (λ (ms : List Message). o ++ ms) (sym (null_first c.args.self.now c.args.sender c.args.epoch c.args.bound h))

pub loop-peer-preserved : goal.loop-peer-preserved
loop-peer-preserved c = λ h.
    let added = λ (k : ℕ). null_to (state_of c.args.self.now).directory c.args.sender c.args.epoch c.args.bound k in
    let peer = c.loop-peer.peer in
    let x = message.Null c.args.epoch c.args.bound in
    elim c.if-is_other.branch [
      | then-is_other+in_ok-put w ↦
          let here = ap (λ (b : Bool). cond b (x ∷ []) []) (sym c.is_other.ensures ∙ w.if-is_other.true) in
          ap (λ (o : List (List Message)). item [] o h) w.outbox-is
          ∙ added_more (λ k. cond (ltb k peer) (added k) []) c.args.outbox.now c.loop-peer.outbox w.put.new.self peer x c.loop-peer.invariant w.in_ok-put.ensures.ok h
          ∙ ap (λ (ms : List Message). item [] c.args.outbox.now h ++ (cond (ltb h peer) (added h) [] ++ cond (eqb peer h) ms [])) (sym here)
          ∙ ap (λ (ms : List Message). item [] c.args.outbox.now h ++ ms) (added_at added peer h)
      | else-is_other w ↦
          let none = ap (λ (b : Bool). cond b (x ∷ []) []) (sym c.is_other.ensures ∙ w.if-is_other.false) in
          ap (λ (o : List (List Message)). item [] o h) w.outbox-is
          ∙ c.loop-peer.invariant h
          ∙ ap (λ (ms : List Message). item [] c.args.outbox.now h ++ ms) (added_none added peer h none)
    ]

pub returns-clause-ok : goal.returns-clause-ok
returns-clause-ok c = λ h.
    let same = ap (λ (v : FederationValue). length v.members) c.self.view_is in
    c.loop-peer.invariant h
    ∙ ap (λ (ms : List Message). item [] c.args.outbox.now h ++ ms) (null_last c.args.self.now c.args.sender c.args.epoch c.args.bound c.loop-peer.peer h (omega (arith, same)))
