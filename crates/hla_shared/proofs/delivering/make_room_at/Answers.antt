use Rattle.std.proofs.Common.{◌<◌, length, rules}
use Rattle.hla_shared.proofs.Heard.Ears.{same_heard, same_tags, room_at, none_at}
use Rattle.hla_shared.proofs.delivering.make_room_at.Goals as goal

pub returns-in_err-make_room-in-Some-clause-heard : goal.returns-in_err-make_room-in-Some-clause-heard
returns-in_err-make_room-in-Some-clause-heard g c =
    same_heard c.args.ears.now.items c.args.federate c.index_mut.result.now c.in-Some.ear c.make_room.new.self c.in-Some.is c.index_mut.ensures.value c.make_room.ensures.heard

pub returns-in_ok-make_room-in-Some-clause-heard : goal.returns-in_ok-make_room-in-Some-clause-heard
returns-in_ok-make_room-in-Some-clause-heard g c =
    same_heard c.args.ears.now.items c.args.federate c.index_mut.result.now c.in-Some.ear c.make_room.new.self c.in-Some.is c.index_mut.ensures.value c.make_room.ensures.heard

pub returns-in_err-make_room-in-Some-clause-tags : goal.returns-in_err-make_room-in-Some-clause-tags
returns-in_err-make_room-in-Some-clause-tags g c =
    same_tags c.args.ears.now.items c.args.federate c.index_mut.result.now c.in-Some.ear c.make_room.new.self c.in-Some.is c.index_mut.ensures.value c.make_room.ensures.tag

pub returns-in_ok-make_room-in-Some-clause-tags : goal.returns-in_ok-make_room-in-Some-clause-tags
returns-in_ok-make_room-in-Some-clause-tags g c =
    same_tags c.args.ears.now.items c.args.federate c.index_mut.result.now c.in-Some.ear c.make_room.new.self c.in-Some.is c.index_mut.ensures.value c.make_room.ensures.tag

pub returns-in_ok-make_room-in-Some-clause-room : goal.returns-in_ok-make_room-in-Some-clause-room
returns-in_ok-make_room-in-Some-clause-room g c = λ e is.
    let lt : c.args.federate < length c.args.ears.now.items = search rules in
    room_at c.args.ears.now.items c.args.federate e c.make_room.new.self lt c.in_ok-make_room-in-Some.ensures.room is

pub returns-in-None-clause-room : goal.returns-in-None-clause-room
returns-in-None-clause-room g c = λ e is.
    let lt : c.args.federate < length c.args.ears.now.items = search rules in
    none_at c.args.ears.now.items c.args.federate c.index_mut.result.now e lt c.in-None.is is
