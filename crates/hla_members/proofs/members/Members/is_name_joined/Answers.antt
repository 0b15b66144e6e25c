use Rattle.std.proofs.Common.{◌&&◌, refl, ap, sym, ◌∙◌}
use Rattle.std.specs.List.{list_any}
use Rattle.std.specs.Str.{bytes_eq}
use Rattle.hla_execution.specs.MemberValue.{MemberValue, no_member}
use Rattle.hla_members.specs.Rooms.{RoomyMember, RoomyMembers}
use Rattle.hla_members.proofs.Finding.{any_member, any_map}
use Rattle.hla_members.proofs.members.Members.is_name_joined.Goals as goal

pub returns : goal.returns
returns c =
    c.any_joined_as.ensures ∙ ap (list_any (λ (m : RoomyMember). m.shown.joined && bytes_eq m.shown.name c.args.name.now)) c.deref.ensures.value
    ∙ sym (any_map (λ (m : RoomyMember). m.shown) (λ (m : MemberValue). m.joined && bytes_eq m.name c.args.name.now) c.self.inside.members.items)
    ∙ ap (λ (v : RoomyMembers). list_any (λ (m : MemberValue). m.joined && bytes_eq m.name c.args.name.now) v.shown) c.self.view_is
    ∙ sym (any_member no_member c.args.self.now.shown (λ (m : MemberValue). m.joined && bytes_eq m.name c.args.name.now) refl)
