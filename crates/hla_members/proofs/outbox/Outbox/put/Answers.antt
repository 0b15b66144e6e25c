use Rattle.std.proofs.Common.{List, [], ◌∷◌, ◌++◌, ◌≤◌, length, filter, map, eqb, ap, ◌∙◌, arith}
use Rattle.std.proofs.lemmas.List.{length-map}
use Rattle.std.proofs.lemmas.List.Sums.{length-filter, count_by-le-length}
use Rattle.hla_base.specs.Tables.{upd}
use Rattle.hla_null_message.specs.declared.message.Message.{Message}
use Rattle.hla_members.specs.declared.addressed.Addressed.{Addressed}
use Rattle.hla_execution.specs.MemberValue.{item}
use Rattle.hla_members.specs.Outboxes.{by_peer}
use Rattle.hla_members.proofs.Outboxes.{by_peer_more}
use Rattle.hla_members.proofs.outbox.Outbox.put.Goals as goal

pub returns-clause-ok : goal.returns-clause-ok
returns-clause-ok c =
    let added : Addressed = record { peer = c.args.peer; message = c.args.message } in
    ap (λ (all : List Addressed). item [] (by_peer all)) c.in-Ok.ensures.items
    ∙ by_peer_more c.self.inside.messages.items added c.requires.some c.requires.within
    ∙ ap (λ (o : List (List Message)). upd (item [] o) c.args.peer (item [] o c.args.peer ++ c.args.message ∷ [])) c.self.view_is

pub overflow_add-count : goal.overflow_add-count
overflow_add-count c =
    let all = c.self.inside.messages.items in
    let here = filter (λ (a : Addressed). eqb a.peer c.args.peer) all in
    let counted = c.self.invariant c.args.peer c.requires.within in
    let few : length (map (λ (a : Addressed). a.message) here) ≤ length all = rw (length-map here (λ (a : Addressed). a.message), length-filter (λ (a : Addressed). eqb a.peer c.args.peer) all) (count_by-le-length (λ (a : Addressed). eqb a.peer c.args.peer) all) in
    omega (arith, counted, few, c.in-Ok.ensures.upper_bound, c.in-Ok.ensures.len)
