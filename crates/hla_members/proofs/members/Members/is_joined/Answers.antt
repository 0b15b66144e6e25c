use Rattle.std.proofs.Common.{◌<◌, ◌+◌, length, ap, ◌∙◌, arith}
use Rattle.hla_execution.specs.MemberValue.{MemberValue}
use Rattle.hla_members.proofs.Rooms.{read_shown, same_length}
use Rattle.hla_members.proofs.members.Members.is_joined.Goals as goal

pub returns : goal.returns
returns c =
    let len = same_length c.self.inside.members.items c.args.self.now c.self.view_is in
    let below : c.args.federate < length c.args.self.now.shown + 1 = omega (arith, len, c.if-federate-len.false, c.len.ensures) in
    c.is_joined.ensures ∙ ap (λ (m : MemberValue). m.joined) (read_shown c.self.inside.members.items c.args.self.now c.self.view_is c.args.federate (omega arith) below c.index.result.now c.index.ensures)
