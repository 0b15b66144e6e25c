use Rattle.std.proofs.Common.{◌-◌, set, ap, ◌∙◌}
use Rattle.hla_members.specs.Changes.{changed_local}
use Rattle.hla_execution.specs.MemberValue.{MemberValue, members_of}
use Rattle.hla_members.specs.Rooms.{RoomyMember}
use Rattle.hla_members.proofs.Rooms.{read_shown, set_shown, within_shown}
use Rattle.hla_members.proofs.MemberTables.{picked_up}
use Rattle.hla_members.proofs.members.Members.change.Goals as goal

pub change-requires : goal.change-requires
change-requires c =
    let is = read_shown c.self.inside.members.items c.args.self.now c.self.view_is c.args.federate c.requires.some c.requires.within c.index_mut.result.now c.index_mut.ensures.value in
    rw is c.requires.may

pub returns : goal.returns
returns c =
    let is = read_shown c.self.inside.members.items c.args.self.now c.self.view_is c.args.federate c.requires.some c.requires.within c.index_mut.result.now c.index_mut.ensures.value in
    ap members_of (set_shown c.self.inside.members.items c.args.self.now c.self.view_is c.args.federate c.requires.some c.requires.within c.change.new.self)
    ∙ ap (λ (m : MemberValue). members_of (set c.args.self.now.shown (c.args.federate - 1) m)) (ap (λ (r : RoomyMember). r.shown) c.change.ensures ∙ ap (λ (m : MemberValue). record m { local = changed_local c.args.change m.local }) is)
    ∙ picked_up c.args.self.now.shown c.args.federate c.requires.some (within_shown c.self.inside.members.items c.args.self.now c.self.view_is c.args.federate c.requires.some c.requires.within) _
