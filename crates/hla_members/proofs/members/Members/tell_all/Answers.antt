-- All that are joined are told, and no room on a wire changes.
use Rattle.std.proofs.Common.{List, map, ap, ◌∙◌}
use Rattle.hla_members.specs.Rooms.{RoomyMember, RoomyMembers}
use Rattle.hla_execution.specs.MemberValue.{members_of}
use Rattle.hla_members.specs.Telling.{with_all_told}
use Rattle.hla_members.proofs.Rooms.{on_ok}
use Rattle.hla_members.proofs.Tidings.{tables_told, rooms_kept}
use Rattle.hla_members.proofs.members.Members.tell_all.Goals as goal

pub returns-clause-ok : goal.returns-clause-ok
returns-clause-ok c = on_ok c.tell_each.result (λ told.
    ap (λ (l : List RoomyMember). members_of (map (λ (m : RoomyMember). m.shown) l)) told
    ∙ tables_told c.args.notices.now c.self.inside.members.items
    ∙ ap (λ (v : RoomyMembers). with_all_told c.args.notices.now (members_of v.shown)) c.self.view_is)
    c.tell_each.ensures.ok

pub returns-clause-room : goal.returns-clause-room
returns-clause-room c = rooms_kept c.args.notices.now c.tell_each.result c.self.inside.members.items c.tell_each.new.members.items c.tell_each.ensures.ok c.tell_each.ensures.unchanged
    ∙ ap (λ (v : RoomyMembers). v.rooms) c.self.view_is
