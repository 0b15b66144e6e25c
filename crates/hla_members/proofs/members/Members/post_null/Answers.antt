use Rattle.std.proofs.Common.{◌≡◌, ◌<◌, ◌≤◌, ◌+◌, ℕ, List, true, length, sym, ap, ◌∙◌, refl, arith}
use Rattle.hla_base.specs.Tables.{upd2, is_other}
use Rattle.hla_null_message.specs.declared.message.Message.{Message}
use Rattle.hla_null_message.specs.declared.message.Message.TheVariants as message
use Rattle.hla_null_message.specs.Wires.{put_behind}
use Rattle.hla_execution.specs.MemberValue.{MemberValue, MemberTables, members_of}
use Rattle.hla_members.proofs.Announcing.{nulls_first, nulls_same, nulls_more, nulls_all, room_behind, room_later}
use Rattle.hla_members.proofs.MemberTables.{past}
use Rattle.hla_members.proofs.members.Members.post_null.Goals as goal
use Rattle.hla_members.proofs.members.Members.post_null.Goals.{then-is_other, else-is_other}

pub loop-peer-init : goal.loop-peer-init
loop-peer-init c =
    let old = members_of c.args.self.now.shown in
    record {
      posted = ap (λ (w : ℕ → ℕ → List Message). record old { wire = w }) (sym (nulls_first old c.args.sender c.args.epoch c.args.bound refl));
      room = c.requires.room;
    }

pub put-requires-clause-room : goal.put-requires-clause-room
put-requires-clause-room c =
    let peer = c.loop-peer.peer in
    let number = c.next_federate-end.ensures.number in
    let below : peer < (members_of c.args.self.now.shown).next_federate = omega (arith, c.loop-peer-test.true, number) in
    let other : is_other (members_of c.args.self.now.shown).joined c.args.sender peer ≡ true = ap (λ (t : MemberTables). is_other t.joined c.args.sender peer) (sym c.loop-peer.invariant.posted) ∙ sym c.is_other.ensures ∙ c.if-is_other.true in
    c.loop-peer.invariant.room peer (omega arith) below other

pub loop-peer-preserved : goal.loop-peer-preserved
loop-peer-preserved c =
    let f = c.args.sender in
    let peer = c.loop-peer.peer in
    let old = members_of c.args.self.now.shown in
    let inv = c.loop-peer.invariant in
    let n = message.Null c.args.epoch c.args.bound in
    let is = ap (λ (t : MemberTables). is_other t.joined f peer) (sym inv.posted) ∙ sym c.is_other.ensures in
    elim c.if-is_other.branch [
      | then-is_other w ↦
          rw w.self-is (record {
            posted = w.put.ensures.wires
                ∙ ap (λ (t : MemberTables). record t { wire = upd2 t.wire f peer (put_behind n (t.wire f peer)) }) inv.posted
                ∙ ap (λ (x : ℕ → ℕ → List Message). record old { wire = x }) (nulls_more old f c.args.epoch c.args.bound peer (is ∙ w.if-is_other.true));
            room = room_behind old.joined f peer old.next_federate c.loop-peer.self.rooms w.put.new.self.rooms inv.room w.put.ensures.room;
          })
      | else-is_other w ↦
          rw w.self-is (record {
            posted = inv.posted ∙ ap (λ (x : ℕ → ℕ → List Message). record old { wire = x }) (nulls_same old f c.args.epoch c.args.bound peer (is ∙ w.if-is_other.false));
            room = room_later old.joined f peer old.next_federate c.loop-peer.self.rooms inv.room;
          })
    ]

pub returns : goal.returns
returns c =
    let members = c.args.self.now.shown in
    let old = members_of members in
    let all : length members + 1 ≤ c.loop-peer.peer = omega (arith, c.loop-peer-test.false, c.next_federate-end.ensures.number) in
    c.loop-peer.invariant.posted
    ∙ ap (λ (x : ℕ → ℕ → List Message). record old { wire = x }) (nulls_all old c.args.sender c.args.epoch c.args.bound c.loop-peer.peer (λ h beyond. ap (λ (m : MemberValue). m.joined) (past members h (omega (arith, all, beyond)))))
