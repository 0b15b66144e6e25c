use Rattle.std.proofs.Common.{◌-◌, set, ap, ◌∙◌}
use Rattle.hla_execution.specs.MemberValue.{MemberValue, members_of}
use Rattle.hla_members.specs.Members.{resigned_member}
use Rattle.hla_members.proofs.Rooms.{read_shown, set_shown, within_shown}
use Rattle.hla_members.proofs.MemberTables.{left_all}
use Rattle.hla_members.proofs.members.Members.resign.Goals as goal

pub returns : goal.returns
returns c =
    let is = read_shown c.self.inside.members.items c.args.self.now c.self.view_is c.args.federate c.requires.some c.requires.within c.index_mut.result.now c.index_mut.ensures.value in
    ap members_of (set_shown c.self.inside.members.items c.args.self.now c.self.view_is c.args.federate c.requires.some c.requires.within c.resign.new.self)
    ∙ ap (λ (m : MemberValue). members_of (set c.args.self.now.shown (c.args.federate - 1) m)) (c.resign.ensures.same ∙ ap (λ (m : MemberValue). resigned_member m c.resign.new.self.shown.incoming) is)
    ∙ left_all c.args.self.now.shown c.args.federate c.requires.some (within_shown c.self.inside.members.items c.args.self.now c.self.view_is c.args.federate c.requires.some c.requires.within) c.resign.new.self.shown.incoming c.resign.ensures.quiet
