use Rattle.std.proofs.Common.{refl, ap, sym, ◌∙◌}
use Rattle.std.specs.List.{list_any}
use Rattle.hla_execution.specs.MemberValue.{MemberValue, no_member}
use Rattle.hla_members.specs.Rooms.{RoomyMember, RoomyMembers}
use Rattle.hla_members.proofs.Finding.{any_member, any_map}
use Rattle.hla_members.proofs.members.Members.is_any_joined.Goals as goal

pub returns : goal.returns
returns c =
    c.any_joined.ensures ∙ ap (list_any (λ (m : RoomyMember). m.shown.joined)) c.deref.ensures.value
    ∙ sym (any_map (λ (m : RoomyMember). m.shown) (λ (m : MemberValue). m.joined) c.self.inside.members.items)
    ∙ ap (λ (v : RoomyMembers). list_any (λ (m : MemberValue). m.joined) v.shown) c.self.view_is
    ∙ sym (any_member no_member c.args.self.now.shown (λ (m : MemberValue). m.joined) refl)
