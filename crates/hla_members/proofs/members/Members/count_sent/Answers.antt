use Rattle.std.proofs.Common.{◌+◌, ap, ◌∙◌}
use Rattle.hla_base.specs.Tables.{upd}
use Rattle.hla_execution.specs.MemberValue.{MemberTables}
use Rattle.hla_members.proofs.members.Members.count_sent.Goals as goal

pub count_messages-requires-clause-serials : goal.count_messages-requires-clause-serials
count_messages-requires-clause-serials c =
    let serial = ap (λ (t : MemberTables). t.serial c.args.federate) c.in_ok-note.ensures.ok in
    rw serial c.requires.serials

pub returns-clause-ok : goal.returns-clause-ok
returns-clause-ok c =
    c.count_messages.ensures
    ∙ ap (λ (t : MemberTables). record t { serial = upd t.serial c.args.federate (t.serial c.args.federate + c.args.count) }) c.in_ok-note.ensures.ok
