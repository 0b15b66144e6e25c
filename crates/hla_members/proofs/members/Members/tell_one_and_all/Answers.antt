-- The component of the one is told, and then all.
use Rattle.std.proofs.Common.{◌-◌, ◌<◌, List, map, length, get_or, set, sym, ap, ◌∙◌, arith}
use Rattle.std.proofs.lemmas.List.{get_or_default}
use Rattle.hla_execution.specs.MemberValue.{MemberValue, members_of}
use Rattle.hla_members.specs.Rooms.{RoomyMember}
use Rattle.hla_members.specs.Telling.{nobody, member_told, with_all_told}
use Rattle.hla_members.proofs.Rooms.{on_ok, read_shown, set_shown, within, within_shown}
use Rattle.hla_members.proofs.MemberTables.{picked_up}
use Rattle.hla_members.proofs.Tidings.{one_told, tables_told}
use Rattle.hla_members.proofs.members.Members.tell_one_and_all.Goals as goal

pub returns-clause-ok : goal.returns-clause-ok
returns-clause-ok c =
    let ms = c.self.inside.members.items in
    let f = c.args.federate in
    let within_ms = within ms c.args.self.now c.self.view_is f c.requires.some c.requires.within in
    let below : f - 1 < length ms = omega (arith, within_ms, c.requires.some) in
    let y : RoomyMember = get_or ms (f - 1) nobody in
    let is = read_shown ms c.args.self.now c.self.view_is f c.requires.some c.requires.within y (sym (get_or_default ms (f - 1) y nobody below)) in
    on_ok c.tell_one_and_each.result (λ told.
    ap (λ (l : List RoomyMember). members_of (map (λ (m : RoomyMember). m.shown) l)) told
    ∙ tables_told c.args.others.now (set ms (f - 1) (member_told c.args.first.now y))
    ∙ ap (with_all_told c.args.others.now) (ap members_of (set_shown ms c.args.self.now c.self.view_is f c.requires.some c.requires.within (member_told c.args.first.now y))
    ∙ ap (λ (m : MemberValue). members_of (set c.args.self.now.shown (f - 1) m)) (one_told c.args.first.now y _ is c.requires.joined)
    ∙ picked_up c.args.self.now.shown f c.requires.some (within_shown ms c.args.self.now c.self.view_is f c.requires.some c.requires.within) _))
    c.tell_one_and_each.ensures.ok
