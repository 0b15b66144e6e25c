use Rattle.std.proofs.Common.{ap, ◌∙◌}
use Rattle.hla_retraction.specs.SentRows.{sent_of}
use Rattle.hla_execution.specs.MemberValue.{MemberValue}
use Rattle.hla_members.proofs.Rooms.{read_shown}
use Rattle.hla_members.proofs.members.Members.sent.Goals as goal

pub returns : goal.returns
returns c = ap sent_of (c.sent.ensures ∙ ap (λ (m : MemberValue). m.sent) (read_shown c.self.inside.members.items c.args.self.now c.self.view_is c.args.federate c.requires.some c.requires.within c.index.result.now c.index.ensures))
