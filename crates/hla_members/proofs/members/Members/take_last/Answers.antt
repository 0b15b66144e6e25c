use Rattle.std.proofs.Common.{◌-◌, set, ap, ◌∙◌}
use Rattle.hla_members.specs.Putting.{member_without_last}
use Rattle.hla_members.proofs.Rooms.{read_shown, set_shown}
use Rattle.hla_members.proofs.members.Members.take_last.Goals as goal

pub returns : goal.returns
returns c =
    let members = c.self.inside.members.items in
    let now = c.args.self.now in
    set_shown members now c.self.view_is c.args.to c.requires.some c.requires.within c.take_last.new.self
    ∙ ap (set now.shown (c.args.to - 1)) (c.take_last.ensures
    ∙ ap (member_without_last c.args.from) (read_shown members now c.self.view_is c.args.to c.requires.some c.requires.within c.index_mut.result.now c.index_mut.ensures.value))
