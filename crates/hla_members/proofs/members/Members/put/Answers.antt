use Rattle.std.proofs.Common.{◌-◌, set, ap, ◌∙◌}
use Rattle.hla_execution.specs.MemberValue.{MemberValue, members_of}
use Rattle.hla_members.proofs.Rooms.{read_shown, read_rooms, set_shown, room_here, rooms_stay, within_shown}
use Rattle.hla_members.proofs.MemberTables.{put}
use Rattle.hla_members.proofs.members.Members.put.Goals as goal

pub put-requires-clause-room : goal.put-requires-clause-room
put-requires-clause-room c =
    let rooms = read_rooms c.self.inside.members.items c.args.self.now c.self.view_is c.args.to c.requires.some c.requires.within c.index_mut.result.now c.index_mut.ensures.value in
    rw rooms c.requires.room

pub returns-clause-wires : goal.returns-clause-wires
returns-clause-wires c =
    let is = read_shown c.self.inside.members.items c.args.self.now c.self.view_is c.args.to c.requires.some c.requires.within c.index_mut.result.now c.index_mut.ensures.value in
    let wires = rw is at c.put.ensures.wires in
    ap members_of (set_shown c.self.inside.members.items c.args.self.now c.self.view_is c.args.to c.requires.some c.requires.within c.put.new.self)
    ∙ ap (λ (m : MemberValue). members_of (set c.args.self.now.shown (c.args.to - 1) m)) (c.put.ensures.same ∙ ap (λ (m : MemberValue). record m { incoming = c.put.new.self.shown.incoming }) is)
    ∙ put c.args.self.now.shown c.args.to c.requires.some (within_shown c.self.inside.members.items c.args.self.now c.self.view_is c.args.to c.requires.some c.requires.within) c.args.from c.put.new.self.shown.incoming _ wires

pub returns-clause-less : goal.returns-clause-less
returns-clause-less c =
    let rooms = read_rooms c.self.inside.members.items c.args.self.now c.self.view_is c.args.to c.requires.some c.requires.within c.index_mut.result.now c.index_mut.ensures.value in
    let here = room_here c.self.inside.members.items c.args.self.now c.self.view_is c.args.to c.requires.some c.requires.within c.put.new.self c.args.from in
    rw (here, ← rooms) c.put.ensures.less

pub returns-clause-room : goal.returns-clause-room
returns-clause-room c = rooms_stay c.self.inside.members.items c.args.self.now c.self.view_is c.args.to c.requires.some c.requires.within c.args.from c.index_mut.result.now c.put.new.self c.index_mut.ensures.value c.put.ensures.room
