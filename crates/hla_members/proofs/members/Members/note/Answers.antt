use Rattle.std.proofs.Common.{◌-◌, set, Option, sym, ap, ◌∙◌}
use Rattle.hla_base.specs.Tables.{upd}
use Rattle.hla_retraction.specs.SentRows.{sent_of}
use Rattle.hla_members.specs.declared.note.Note.{Note}
use Rattle.hla_execution.specs.MemberValue.{MemberValue, members_of}
use Rattle.hla_members.specs.Rooms.{RoomyMember}
use Rattle.hla_members.specs.Noting.{noted_event, with_noted}
use Rattle.hla_members.proofs.Rooms.{on_ok, read_shown, set_shown, within_shown, rooms_same}
use Rattle.hla_members.proofs.MemberTables.{noted}
use Rattle.hla_members.proofs.members.Members.note.Goals as goal

pub returns-in-Some-clause-ok : goal.returns-in-Some-clause-ok
returns-in-Some-clause-ok c =
    let is = read_shown c.self.inside.members.items c.args.self.now c.self.view_is c.args.federate c.requires.some c.requires.within c.index_mut.result.now c.index_mut.ensures.value in
    let shown = ap (λ (m : RoomyMember). m.shown) c.note.ensures.same ∙ ap (λ (m : MemberValue). record m { sent = c.note.new.self.shown.sent }) is in
    on_ok c.note.result (λ sent.
    ap members_of (set_shown c.self.inside.members.items c.args.self.now c.self.view_is c.args.federate c.requires.some c.requires.within c.note.new.self)
    ∙ ap (λ (m : MemberValue). members_of (set c.args.self.now.shown (c.args.federate - 1) m)) shown
    ∙ noted c.args.self.now.shown c.args.federate c.requires.some (within_shown c.self.inside.members.items c.args.self.now c.self.view_is c.args.federate c.requires.some c.requires.within) c.in-Some.note c.note.new.self.shown.sent
    (sent ∙ ap (λ (m : MemberValue). upd (sent_of m.sent) c.in-Some.note.serial (noted_event c.in-Some.note)) is)
    ∙ ap (λ (o : Option Note). record (members_of c.args.self.now.shown) { sent = with_noted (members_of c.args.self.now.shown).sent c.args.federate o }) (sym c.in-Some.is))
    c.note.ensures.ok

pub returns-in-Some-clause-room : goal.returns-in-Some-clause-room
returns-in-Some-clause-room c = rooms_same c.self.inside.members.items c.args.self.now c.self.view_is c.args.federate c.requires.some c.requires.within c.index_mut.result.now c.note.new.self c.index_mut.ensures.value (ap (λ (m : RoomyMember). m.rooms) c.note.ensures.same)
