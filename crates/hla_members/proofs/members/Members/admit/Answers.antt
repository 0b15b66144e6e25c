use Rattle.std.proofs.Common.{List, [], ◌∷◌, ◌++◌, map, ap, ◌∙◌}
use Rattle.std.proofs.lemmas.List.{map-append}
use Rattle.hla_execution.specs.MemberValue.{MemberValue, members_of}
use Rattle.hla_members.specs.Rooms.{RoomyMember, RoomyMembers}
use Rattle.hla_members.proofs.MemberTables.{joined}
use Rattle.hla_members.proofs.members.Members.admit.Goals as goal

pub returns : goal.returns
returns c =
    ap (λ (ms : List RoomyMember). members_of (map (λ (m : RoomyMember). m.shown) ms)) c.push_reserved.ensures.items
    ∙ ap members_of (map-append (λ (m : RoomyMember). m.shown) c.self.inside.members.items (c.args.member ∷ []))
    ∙ ap (λ (v : RoomyMembers). members_of (v.shown ++ c.args.member.shown ∷ [])) c.self.view_is
    ∙ ap (λ (m : MemberValue). members_of (c.args.self.now.shown ++ m ∷ [])) c.requires.new
    ∙ joined c.args.self.now.shown c.args.member.shown.name c.args.member.shown.local c.args.member.shown.sent c.args.member.shown.incoming c.requires.unsent c.requires.quiet
