use Rattle.std.proofs.Common.{◌+◌, [], ap, ◌∙◌}
use Rattle.hla_base.specs.Tables.{upd}
use Rattle.hla_members.specs.declared.direction.Direction.TheVariants.{From}
use Rattle.hla_execution.specs.MemberValue.{item, MemberTables}
use Rattle.hla_members.specs.Members.{wires_posted_below}
use Rattle.hla_members.proofs.members.Members.send_and_tell_all.Goals as goal

pub count_messages-requires-clause-serials : goal.count_messages-requires-clause-serials
count_messages-requires-clause-serials c =
    let told = rw c.in_ok-reserve_all.ensures.same at c.in_ok-tell_all.ensures.ok in
    let serial = ap (λ (t : MemberTables). t.serial c.args.federate) c.post_all.ensures ∙ ap (λ (t : MemberTables). t.serial c.args.federate) told in
    rw serial c.requires.serials

pub returns-clause-ok : goal.returns-clause-ok
returns-clause-ok c =
    let told = rw c.in_ok-reserve_all.ensures.same at c.in_ok-tell_all.ensures.ok in
    c.count_messages.ensures
    ∙ ap (λ (t : MemberTables). record t { serial = upd t.serial c.args.federate (t.serial c.args.federate + c.args.count) }) (c.post_all.ensures
    ∙ ap (λ (t : MemberTables). record t { wire = wires_posted_below (From c.args.federate) (item [] c.args.outbox) t.next_federate t.wire }) told)
