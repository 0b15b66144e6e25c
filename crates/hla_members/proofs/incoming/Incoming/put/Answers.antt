use Rattle.std.proofs.Common.{◌≤◌, ℕ, length, [], ap, ◌∙◌, arith}
use Rattle.hla_null_message.specs.Wires.{put_behind, takes_room}
use Rattle.hla_base.specs.Tables.{upd}
use Rattle.hla_execution.specs.MemberValue.{item}
use Rattle.hla_base.proofs.Tables.{upd_same, upd_other}
use Rattle.hla_members.proofs.Wires.{less_by_one, read_messages, read_room, set_messages, set_rooms}
use Rattle.hla_members.proofs.incoming.Incoming.put.Goals as goal

pub put-requires : goal.put-requires
put-requires c =
    let within : c.args.from ≤ length c.self.inside.wires.items = omega (arith, c.requires.within, c.self.invariant) in
    λ _. omega (arith, c.requires.room, read_room c.self.inside.wires.items c.args.self.now c.self.view_is c.args.from c.requires.some within c.index_mut.result.now c.index_mut.ensures.value)

pub returns-clause-wires : goal.returns-clause-wires
returns-clause-wires c =
    let within : c.args.from ≤ length c.self.inside.wires.items = omega (arith, c.requires.within, c.self.invariant) in
    set_messages c.self.inside.wires.items c.args.self.now c.self.view_is c.args.from c.requires.some within c.put.new.self
    ∙ ap (upd (item [] c.args.self.now.wires) c.args.from) (c.put.ensures.messages
    ∙ ap (put_behind c.args.message) (read_messages c.self.inside.wires.items c.args.self.now c.self.view_is c.args.from c.requires.some within c.index_mut.result.now c.index_mut.ensures.value))

pub returns-clause-less : goal.returns-clause-less
returns-clause-less c =
    let within : c.args.from ≤ length c.self.inside.wires.items = omega (arith, c.requires.within, c.self.invariant) in
    let after = ap (λ (t : ℕ → ℕ). t c.args.from) (set_rooms c.self.inside.wires.items c.args.self.now c.self.view_is c.args.from c.requires.some within c.put.new.self)
    ∙ upd_same (item 0 c.args.self.now.rooms) c.args.from c.put.new.self.room in
    let before = read_room c.self.inside.wires.items c.args.self.now c.self.view_is c.args.from c.requires.some within c.index_mut.result.now c.index_mut.ensures.value in
    let less = less_by_one (takes_room c.args.message c.index_mut.result.now.messages) c.index_mut.result.now.room c.put.new.self.room c.put.ensures.room in
    omega (arith, after, before, less)

pub returns-clause-room : goal.returns-clause-room
returns-clause-room c g ne =
    let within : c.args.from ≤ length c.self.inside.wires.items = omega (arith, c.requires.within, c.self.invariant) in
    ap (λ (t : ℕ → ℕ). t g) (set_rooms c.self.inside.wires.items c.args.self.now c.self.view_is c.args.from c.requires.some within c.put.new.self)
    ∙ upd_other (item 0 c.args.self.now.rooms) c.args.from c.put.new.self.room g ne
