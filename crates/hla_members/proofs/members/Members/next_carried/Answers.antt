use Rattle.std.proofs.Common.{[], ap, ◌∙◌}
use Rattle.hla_execution.specs.MemberValue.{MemberValue, item}
use Rattle.hla_members.specs.Members.{carried_of}
use Rattle.hla_members.proofs.Rooms.{read_shown}
use Rattle.hla_members.proofs.members.Members.next_carried.Goals as goal

pub returns : goal.returns
returns c = c.next_carried.ensures ∙ ap (λ (m : MemberValue). carried_of c.args.from (item [] m.incoming c.args.from)) (read_shown c.self.inside.members.items c.args.self.now c.self.view_is c.args.to c.requires.some c.requires.within c.index.result.now c.index.ensures)
