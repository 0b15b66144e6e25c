use Rattle.std.proofs.Common.{◌≡◌, ◌++◌, ℕ, List, [], ◌∷◌, sym, ap, subst, ◌∙◌, arith}
use Rattle.std.proofs.lemmas.List.{map-id}
use Rattle.std.proofs.lemmas.Iterator.Adapters.{YieldsList-from_vec}
use Rattle.std.proofs.lemmas.Iterator.Consumers.{YieldsList-end}
use Rattle.hla_null_message.specs.declared.message.Message.{Message}
use Rattle.hla_members.specs.declared.addressed.Addressed.{Addressed}
use Rattle.hla_execution.specs.MemberValue.{item, MemberTables, members_of}
use Rattle.hla_members.specs.Members.{HasRoom, IsEnd, wires_posted_below}
use Rattle.hla_members.specs.Outboxes.{by_peer, messages_for}
use Rattle.hla_members.proofs.Outboxes.{for-append, item_within}
use Rattle.hla_members.proofs.Posting.{posted_none, posted_after, posted_same, room_made, room_first, room_rest}
use Rattle.hla_members.proofs.members.Members.post_all.Goals as goal

pub loop-addressed-init : goal.loop-addressed-init
loop-addressed-init c =
    let along = c.args.along in
    let old = members_of c.args.self.now.shown in
    let made = c.into_messages-addressed-items.result.items in
    let same : c.into_iter-addressed-iterator.result.rest.items ≡ made = c.into_iter-addressed-iterator.ensures.into_iter_gives.0 in
    let few = c.next_federate-end.ensures.few in
    let number = c.next_federate-end.ensures.number in
    let room = subst (λ (o : List (List Message)). HasRoom along (item [] o) 1 old.next_federate c.args.self.now.rooms) (sym c.into_messages-addressed-items.ensures) c.requires.room in
    record {
      posted = sym (ap (λ (w : ℕ → ℕ → List Message). record old { wire = w }) (posted_none along old.next_federate old.wire));
      room = subst (λ (all : List Addressed). HasRoom along (λ h. messages_for h all) 1 old.next_federate c.args.self.now.rooms) (sym same)
          (room_made along old.next_federate c.args.self.now.rooms made (omega (arith, few, number)) room);
    }

pub loop-addressed-preserved : goal.loop-addressed-preserved
loop-addressed-preserved c =
    let along = c.args.along in
    let old = members_of c.args.self.now.shown in
    let so_far = c.loop-addressed.yielded in
    let a = c.in-Some.addressed in
    let rest = c.next.new.self.rest.items in
    let room = subst (λ (all : List Addressed). HasRoom along (λ h. messages_for h all) 1 old.next_federate c.loop-addressed.self.rooms) c.in-Some.ensures.steps.0 c.loop-addressed.invariant.room in
    record {
      posted = c.post.ensures.wires
          ∙ ap (λ (t : MemberTables). record t { wire = wires_posted_below along (λ h. messages_for h (a ∷ [])) t.next_federate t.wire }) c.loop-addressed.invariant.posted
          ∙ ap (λ (w : ℕ → ℕ → List Message). record old { wire = w }) (posted_after along (λ h. messages_for h so_far) (λ h. messages_for h (a ∷ [])) old.next_federate old.wire
          ∙ posted_same along (λ h. messages_for h so_far ++ messages_for h (a ∷ [])) (λ h. messages_for h (so_far ++ a ∷ [])) old.next_federate old.wire (λ h _ _. sym (for-append h so_far (a ∷ []))));
      room = room_rest along old.next_federate c.loop-addressed.self.rooms c.post.new.self.rooms a rest room c.post.ensures.room;
    }

pub post-requires : goal.post-requires
post-requires c =
    let along = c.args.along in
    let old = members_of c.args.self.now.shown in
    let next = ap (λ (t : MemberTables). t.next_federate) c.loop-addressed.invariant.posted in
    let room = subst (λ (all : List Addressed). HasRoom along (λ h. messages_for h all) 1 old.next_federate c.loop-addressed.self.rooms) c.in-Some.ensures.steps.0 c.loop-addressed.invariant.room in
    let here = room_first along old.next_federate c.loop-addressed.self.rooms c.in-Some.addressed c.next.new.self.rest.items room in
    record {
      last = c.next_federate-end.ensures.number ∙ sym next;
      few = c.next_federate-end.ensures.few;
      one_end = subst (IsEnd along) (sym next) c.requires.end;
      room = subst (λ n. HasRoom along (λ h. messages_for h (c.in-Some.addressed ∷ [])) 1 n c.loop-addressed.self.rooms) (sym next) here;
    }

pub returns : goal.returns
returns c =
    let along = c.args.along in
    let old = members_of c.args.self.now.shown in
    let made = c.into_messages-addressed-items.result.items in
    let given = YieldsList-end (YieldsList-from_vec {s = c.into_iter-addressed-iterator.result} made (cc) (cc)) c.loop-addressed.yielded c.loop-addressed.addressed-iterator c.loop-addressed.yielded_by c.next.result c.next.new.self c.in-None.is c.next.ensures.steps in
    let all : c.loop-addressed.yielded ≡ made = sym (map-id c.loop-addressed.yielded) ∙ given.0 in
    let few = c.next_federate-end.ensures.few in
    let number = c.next_federate-end.ensures.number in
    c.loop-addressed.invariant.posted
    ∙ ap (λ (w : ℕ → ℕ → List Message). record old { wire = w }) (ap (λ (sent : List Addressed). wires_posted_below along (λ h. messages_for h sent) old.next_federate old.wire) all
    ∙ posted_same along (λ h. messages_for h made) (item [] (by_peer made)) old.next_federate old.wire (λ h some below. sym (item_within made h some (omega (arith, few, number, below))))
    ∙ ap (λ (o : List (List Message)). wires_posted_below along (item [] o) old.next_federate old.wire) c.into_messages-addressed-items.ensures)
