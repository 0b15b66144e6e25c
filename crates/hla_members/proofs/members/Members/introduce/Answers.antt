use Rattle.std.proofs.Common.{◌+◌, ◌≤◌, ◌<◌, length, refl, sym, ap, ◌∙◌, arith}
use Rattle.std.proofs.Math.Path.{fun_ext}
use Rattle.hla_lbts.specs.Peers.{PeersValue}
use Rattle.hla_base.specs.Tables.{forever}
use Rattle.hla_component_rules.specs.LocalValue.{LocalValue}
use Rattle.hla_execution.specs.MemberValue.{MemberValue, members_of}
use Rattle.hla_members.specs.Rooms.{RoomyMember}
use Rattle.hla_members.proofs.Rooms.{read_shown}
use Rattle.hla_members.proofs.MemberTables.{met_none, met_more, met_all}
use Rattle.hla_members.proofs.members.Members.introduce.Goals as goal

pub loop-peer-init : goal.loop-peer-init
loop-peer-init c = record {
  same = refl;
  bounds = λ g. ap (λ (p : PeersValue). p.bound g) c.requires.unmet ∙ sym (met_none (λ l. l.last_announced) c.args.self.now.shown g);
  epochs = λ g. ap (λ (p : PeersValue). p.known_epoch g) c.requires.unmet ∙ sym (met_none (λ l. l.epoch) c.args.self.now.shown g);
}

pub loop-peer-preserved : goal.loop-peer-preserved
loop-peer-preserved c =
    let members = c.args.self.now.shown in
    let peer = c.loop-peer.peer in
    let below : peer < length members + 1 = omega (arith, c.loop-peer-test.true, c.next_federate-end.ensures.number) in
    let read = c.local-local.ensures ∙ ap (λ (m : MemberValue). m.local) (read_shown c.self.inside.members.items c.args.self.now c.self.view_is peer (omega (arith, c.loop-peer.auto.peer)) below c.index.result.now c.index.ensures) in
    record {
      same = c.meet.ensures.same ∙ ap (λ (m : RoomyMember). record m { shown = record m.shown { local = record m.shown.local { peers = c.meet.new.self.shown.local.peers } } }) c.loop-peer.invariant.same;
      bounds = λ g. ap (λ (p : PeersValue). p.bound g) c.meet.ensures.peers ∙ met_more (λ h. ((members_of members).local h).last_announced) _ forever peer c.last_announced.result (c.last_announced.ensures ∙ ap (λ (l : LocalValue). l.last_announced) read) c.loop-peer.invariant.bounds g;
      epochs = λ g. ap (λ (p : PeersValue). p.known_epoch g) c.meet.ensures.peers ∙ met_more (λ h. ((members_of members).local h).epoch) _ 0 peer c.epoch.result (c.epoch.ensures ∙ ap (λ (l : LocalValue). l.epoch) read) c.loop-peer.invariant.epochs g;
    }

pub returns-clause-peers : goal.returns-clause-peers
returns-clause-peers c =
    let all : length c.args.self.now.shown + 1 ≤ c.loop-peer.peer = omega (arith, c.loop-peer-test.false, c.next_federate-end.ensures.number) in
    λ i. record {
      bound = fun_ext (λ g. c.loop-peer.invariant.bounds g ∙ met_all (λ l. l.last_announced) c.args.self.now.shown c.loop-peer.peer g all) i;
      known_epoch = fun_ext (λ g. c.loop-peer.invariant.epochs g ∙ met_all (λ l. l.epoch) c.args.self.now.shown c.loop-peer.peer g all) i;
    }
