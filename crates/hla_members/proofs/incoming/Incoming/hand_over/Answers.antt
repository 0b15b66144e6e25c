use Rattle.std.proofs.Common.{◌≤◌, ◌-◌, List, length, [], drop, ap, ◌∙◌, arith}
use Rattle.std.proofs.Math.Seq.{map-set_same}
use Rattle.hla_null_message.specs.declared.message.Message.{Message}
use Rattle.hla_null_message.specs.Wires.{WireValue}
use Rattle.hla_base.specs.Tables.{upd}
use Rattle.hla_execution.specs.MemberValue.{item}
use Rattle.hla_members.specs.Rooms.{IncomingValue}
use Rattle.hla_members.proofs.Rooms.{on_ok, on_err}
use Rattle.hla_members.proofs.Wires.{read_messages, set_messages}
use Rattle.hla_members.proofs.incoming.Incoming.hand_over.Goals as goal

pub hand_over-requires-clause-may_arrive : goal.hand_over-requires-clause-may_arrive
hand_over-requires-clause-may_arrive c =
    let within : c.args.from ≤ length c.self.inside.wires.items = omega (arith, c.requires.within, c.self.invariant) in
    let is = read_messages c.self.inside.wires.items c.args.self.now c.self.view_is c.args.from c.requires.some within c.index_mut.result.now c.index_mut.ensures.value in
    rw is c.requires.may_arrive

pub returns-clause-answer : goal.returns-clause-answer
returns-clause-answer c =
    let within : c.args.from ≤ length c.self.inside.wires.items = omega (arith, c.requires.within, c.self.invariant) in
    let is = read_messages c.self.inside.wires.items c.args.self.now c.self.view_is c.args.from c.requires.some within c.index_mut.result.now c.index_mut.ensures.value in
    rw (← is) c.hand_over.ensures.answer

pub returns-clause-wires : goal.returns-clause-wires
returns-clause-wires c =
    let within : c.args.from ≤ length c.self.inside.wires.items = omega (arith, c.requires.within, c.self.invariant) in
    let is = read_messages c.self.inside.wires.items c.args.self.now c.self.view_is c.args.from c.requires.some within c.index_mut.result.now c.index_mut.ensures.value in
    on_ok c.hand_over.result (λ rest.
    set_messages c.self.inside.wires.items c.args.self.now c.self.view_is c.args.from c.requires.some within c.hand_over.new.wire
    ∙ ap (upd (item [] c.args.self.now.wires) c.args.from) (rest ∙ ap (λ (ms : List Message). drop 1 ms) is))
    c.hand_over.ensures.wire

pub returns-clause-local : goal.returns-clause-local
returns-clause-local c =
    let within : c.args.from ≤ length c.self.inside.wires.items = omega (arith, c.requires.within, c.self.invariant) in
    let is = read_messages c.self.inside.wires.items c.args.self.now c.self.view_is c.args.from c.requires.some within c.index_mut.result.now c.index_mut.ensures.value in
    rw (← is) c.hand_over.ensures.local

pub returns-clause-memory : goal.returns-clause-memory
returns-clause-memory c =
    let within : c.args.from ≤ length c.self.inside.wires.items = omega (arith, c.requires.within, c.self.invariant) in
    let is = read_messages c.self.inside.wires.items c.args.self.now c.self.view_is c.args.from c.requires.some within c.index_mut.result.now c.index_mut.ensures.value in
    rw (← is) c.hand_over.ensures.memory

pub returns-clause-unchanged : goal.returns-clause-unchanged
returns-clause-unchanged c = on_err c.hand_over.result (λ same.
    map-set_same (λ (x : WireValue). x.messages) c.self.inside.wires.items (c.args.from - 1) c.hand_over.new.wire c.index_mut.result.now
    (same ∙ ap (λ (x : WireValue). x.messages) c.index_mut.ensures.value)
    ∙ ap (λ (v : IncomingValue). v.wires) c.self.view_is)
    c.hand_over.ensures.unchanged
