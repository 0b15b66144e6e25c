use Rattle.std.proofs.Common.{◌+◌, List, [], IfSome, sym, ap, subst, ◌∙◌}
use Rattle.hla_base.specs.Tables.{upd}
use Rattle.hla_members.specs.declared.direction.Direction.TheVariants.{From}
use Rattle.hla_members.specs.declared.note.Note.{Note}
use Rattle.hla_execution.specs.MemberValue.{item, MemberValue, MemberTables, members_of}
use Rattle.hla_members.specs.Members.{wires_posted_below}
use Rattle.hla_members.specs.Noting.{IsUnsentFrom}
use Rattle.hla_members.proofs.Posting.{room_same}
use Rattle.hla_members.proofs.members.Members.send_all.Goals as goal

pub note-requires-clause-unsent : goal.note-requires-clause-unsent
note-requires-clause-unsent c = subst (λ (ms : List MemberValue). IfSome c.args.note (λ (n : Note). IsUnsentFrom ((members_of ms).sent c.args.federate) n.serial)) (sym c.in_ok-reserve_all.ensures.same) c.requires.unsent

pub post_all-requires-clause-room : goal.post_all-requires-clause-room
post_all-requires-clause-room c =
    let noted = rw c.in_ok-reserve_all.ensures.same at c.in_ok-note.ensures.ok in
    let next = ap (λ (t : MemberTables). t.next_federate) noted in
    rw next (room_same (From c.args.federate) _ _ _ _ c.in_ok-note.ensures.room c.in_ok-reserve_all.ensures.ok)

pub count_messages-requires-clause-serials : goal.count_messages-requires-clause-serials
count_messages-requires-clause-serials c =
    let noted = rw c.in_ok-reserve_all.ensures.same at c.in_ok-note.ensures.ok in
    let serial = ap (λ (t : MemberTables). t.serial c.args.federate) c.post_all.ensures ∙ ap (λ (t : MemberTables). t.serial c.args.federate) noted in
    rw serial c.requires.serials

pub returns-clause-ok : goal.returns-clause-ok
returns-clause-ok c =
    let noted = rw c.in_ok-reserve_all.ensures.same at c.in_ok-note.ensures.ok in
    c.count_messages.ensures
    ∙ ap (λ (t : MemberTables). record t { serial = upd t.serial c.args.federate (t.serial c.args.federate + c.args.count) }) (c.post_all.ensures
    ∙ ap (λ (t : MemberTables). record t { wire = wires_posted_below (From c.args.federate) (item [] c.args.outbox) t.next_federate t.wire }) noted)
