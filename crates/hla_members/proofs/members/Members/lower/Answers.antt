use Rattle.std.proofs.Common.{◌≡◌, ◌+◌, ◌-◌, ◌<◌, ◌≤◌, eqb, true, false, length, set, refl, sym, ap, ◌∙◌, arith}
use Rattle.std.proofs.Math.Bool.{and-false}
use Rattle.std.proofs.lemmas.Bool.Decides.{nat_tests}
use Rattle.hla_base.specs.Tables.{is_other}
use Rattle.hla_lbts.specs.Peers.{peers_of}
use Rattle.hla_members.specs.Changes.{peers_lowered}
use Rattle.hla_execution.specs.MemberValue.{MemberValue, MemberTables, members_of}
use Rattle.hla_members.specs.Rooms.{RoomyMember, RoomyMembers}
use Rattle.hla_members.proofs.Lowering.{not_lowered, lowered_same, lowered_own, lowered_peers, lowered_all}
use Rattle.hla_members.proofs.MemberTables.{picked_up, past}
use Rattle.hla_members.proofs.Rooms.{read_shown, set_shown, within_shown}
use Rattle.hla_members.proofs.members.Members.lower.Goals as goal
use Rattle.hla_members.proofs.members.Members.lower.Goals.{then-peer-federate+then-is_joined, else-peer-federate, else-peer-federate-via-then-peer-federate+else-is_joined, else-peer-federate-via-else-peer-federate}

pub loop-peer-preserved : goal.loop-peer-preserved
loop-peer-preserved c =
    let f = c.args.federate in
    let peer = c.loop-peer.peer in
    let old = members_of c.args.self.now.shown in
    let now = c.loop-peer.self in
    let inv = c.loop-peer.invariant in
    let some : 0 < peer = omega (arith, c.loop-peer.auto.peer) in
    let below : peer < length now.shown + 1 = omega (arith, c.loop-peer-test.true, c.next_federate-end.ensures.number, ap (λ (t : MemberTables). t.next_federate) inv.same) in
    elim c.if-peer-federate.branch [
      | then-peer-federate+then-is_joined w ↦
          let rows = w.lower.new.self.shown.local.peers in
          let is = read_shown c.self.inside.members.items now c.self.view_is peer some below w.index_mut.result.now w.index_mut.ensures.value in
          let after = ap (λ (x : RoomyMembers). members_of x.shown) w.self-is
          ∙ ap members_of (set_shown c.self.inside.members.items now c.self.view_is peer some below w.lower.new.self)
          ∙ ap (λ (m : MemberValue). members_of (set now.shown (peer - 1) m)) (ap (λ (r : RoomyMember). r.shown) w.lower.ensures.same ∙ ap (λ (m : MemberValue). record m { local = record m.local { peers = rows } }) is)
          ∙ picked_up now.shown peer some (within_shown c.self.inside.members.items now c.self.view_is peer some below) _ in
          let joined : old.joined peer ≡ true = ap (λ (t : MemberTables). t.joined peer) (sym inv.same) ∙ sym w.is_joined.ensures ∙ w.if-is_joined.true in
          let unequal : eqb f peer ≡ false = grind (arith, nat_tests, w.if-peer-federate.true) in
          let learns : is_other old.joined f peer ≡ true = rw (unequal, joined) refl in
          record {
            same = lowered_same f c.args.epoch c.args.entry old (members_of now.shown) (members_of c.if-peer-federate.self.shown) peer rows after inv.same;
            own = lowered_own f c.args.epoch c.args.entry old (members_of now.shown) (members_of c.if-peer-federate.self.shown) peer rows after inv.own;
            peers = lowered_peers f c.args.epoch c.args.entry old (members_of now.shown) (members_of c.if-peer-federate.self.shown) peer rows after learns
                (w.lower.ensures.peers ∙ ap (λ (m : MemberValue). peers_lowered f c.args.epoch c.args.entry (peers_of m.local.peers)) is) inv.peers;
          }
      | else-peer-federate w ↦
          let apart : is_other old.joined f peer ≡ false = elim w.else-peer-federate.branch [
            | else-peer-federate-via-then-peer-federate+else-is_joined x ↦
                let away : old.joined peer ≡ false = ap (λ (t : MemberTables). t.joined peer) (sym inv.same) ∙ sym x.is_joined.ensures ∙ x.if-is_joined.false in
                rw (away, and-false) refl
            | else-peer-federate-via-else-peer-federate x ↦ let own : eqb f peer ≡ true = grind (arith, nat_tests, x.if-peer-federate.false) in rw own refl
          ] in
          rw w.self-is (record {
            same = inv.same;
            own = inv.own;
            peers = λ g. inv.peers g ∙ not_lowered f c.args.epoch c.args.entry old peer g apart;
          })
    ]

pub returns-clause-lowered : goal.returns-clause-lowered
returns-clause-lowered c = λ g.
    let members = c.args.self.now.shown in
    let all : length members + 1 ≤ c.loop-peer.peer = omega (arith, c.loop-peer-test.false, c.next_federate-end.ensures.number) in (
      c.loop-peer.invariant.own g,
      c.loop-peer.invariant.peers g ∙ lowered_all c.args.federate c.args.epoch c.args.entry (members_of members) c.loop-peer.peer g (λ beyond. ap (λ (m : MemberValue). m.joined) (past members g (omega (arith, all, beyond)))),
    )
