use Rattle.hla_members.proofs.Rooms.{same_shown, room_here, rooms_grow}
use Rattle.hla_members.proofs.members.Members.reserve.Goals as goal

pub returns-clause-same : goal.returns-clause-same
returns-clause-same c = same_shown c.self.inside.members.items c.args.self.now c.self.view_is c.args.to c.requires.some c.requires.within c.index_mut.result.now c.reserve.new.self c.index_mut.ensures.value c.reserve.ensures.same

pub returns-clause-ok : goal.returns-clause-ok
returns-clause-ok c = let here = room_here c.self.inside.members.items c.args.self.now c.self.view_is c.args.to c.requires.some c.requires.within c.reserve.new.self c.args.from in rw here c.reserve.ensures.ok

pub returns-clause-more : goal.returns-clause-more
returns-clause-more c = rooms_grow c.self.inside.members.items c.args.self.now c.self.view_is c.args.to c.requires.some c.requires.within c.index_mut.result.now c.reserve.new.self c.index_mut.ensures.value c.reserve.ensures.more
