use Rattle.std.proofs.Common.{List, [], length, sym, ap, ◌∙◌}
use Rattle.hla_null_message.specs.declared.message.Message.{Message}
use Rattle.hla_execution.specs.MemberValue.{item}
use Rattle.hla_members.proofs.Outboxes.{item_within}
use Rattle.hla_members.proofs.outbox.Outbox.count.Goals as goal

pub returns : goal.returns
returns c =
    c.self.invariant c.args.peer c.requires.within
    ∙ ap (λ (ms : List Message). length ms) (sym (item_within c.self.inside.messages.items c.args.peer c.requires.some c.requires.within))
    ∙ ap (λ (o : List (List Message)). length (item [] o c.args.peer)) c.self.view_is
