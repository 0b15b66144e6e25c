use Rattle.std.proofs.Common.{◌-◌, set, true, ap, ◌∙◌}
use Rattle.hla_base.specs.Tables.{upd}
use Rattle.hla_retraction.specs.SentRows.{sent_of}
use Rattle.hla_execution.specs.MemberValue.{MemberValue, members_of}
use Rattle.hla_members.specs.Rooms.{RoomyMember}
use Rattle.hla_members.proofs.Rooms.{read_shown, set_shown, within_shown}
use Rattle.hla_members.proofs.MemberTables.{written}
use Rattle.hla_members.proofs.members.Members.retract.Goals as goal

pub retract-requires : goal.retract-requires
retract-requires c =
    let is = read_shown c.self.inside.members.items c.args.self.now c.self.view_is c.args.federate c.requires.some c.requires.within c.index_mut.result.now c.index_mut.ensures.value in
    rw is c.requires.retractable

pub returns : goal.returns
returns c =
    let is = read_shown c.self.inside.members.items c.args.self.now c.self.view_is c.args.federate c.requires.some c.requires.within c.index_mut.result.now c.index_mut.ensures.value in
    let k = c.args.serial in
    let shown = ap (λ (m : RoomyMember). m.shown) c.retract.ensures.same ∙ ap (λ (m : MemberValue). record m { sent = c.retract.new.self.shown.sent }) is in
    ap members_of (set_shown c.self.inside.members.items c.args.self.now c.self.view_is c.args.federate c.requires.some c.requires.within c.retract.new.self)
    ∙ ap (λ (m : MemberValue). members_of (set c.args.self.now.shown (c.args.federate - 1) m)) shown
    ∙ written c.args.self.now.shown c.args.federate c.requires.some (within_shown c.self.inside.members.items c.args.self.now c.self.view_is c.args.federate c.requires.some c.requires.within) k _ c.retract.new.self.shown.sent
    (c.retract.ensures.retracted ∙ ap (λ (m : MemberValue). upd (sent_of m.sent) k (record (sent_of m.sent k) { retracted = true })) is)
