-- The component of the one is told.
use Rattle.std.proofs.Common.{◌-◌, set, ap, ◌∙◌}
use Rattle.hla_execution.specs.MemberValue.{MemberValue, members_of}
use Rattle.hla_members.specs.Rooms.{RoomyMember}
use Rattle.hla_members.proofs.Rooms.{on_ok, read_shown, set_shown, within_shown}
use Rattle.hla_members.proofs.MemberTables.{picked_up}
use Rattle.hla_members.proofs.Tidings.{one_told}
use Rattle.hla_members.proofs.members.Members.tell_one.Goals as goal

pub returns-clause-ok : goal.returns-clause-ok
returns-clause-ok c =
    let is = read_shown c.self.inside.members.items c.args.self.now c.self.view_is c.args.federate c.requires.some c.requires.within c.index_mut.result.now c.index_mut.ensures.value in
    on_ok c.tell.result (λ told.
    ap members_of (set_shown c.self.inside.members.items c.args.self.now c.self.view_is c.args.federate c.requires.some c.requires.within c.tell.new.self)
    ∙ ap (λ (m : MemberValue). members_of (set c.args.self.now.shown (c.args.federate - 1) m)) (ap (λ (r : RoomyMember). r.shown) told ∙ one_told c.args.notices.now c.index_mut.result.now _ is c.requires.joined)
    ∙ picked_up c.args.self.now.shown c.args.federate c.requires.some (within_shown c.self.inside.members.items c.args.self.now c.self.view_is c.args.federate c.requires.some c.requires.within) _)
    c.tell.ensures.ok
