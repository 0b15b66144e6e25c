use Rattle.std.proofs.Common.{◌≡◌, cond, ltb, ℕ}
use Rattle.hla_base.specs.Tables.{forever}
use Rattle.hla_lbts.specs.Peers.{peers_of}
use Rattle.hla_execution.specs.MemberValue.{members_of}
use Rattle.hla_members.proofs.members.Members.introduce.Given as goal

-- what the federates so far announced last was taken over, and nothing else has changed
abbrev pub invariant-loop-peer : goal.invariant-loop-peer
invariant-loop-peer l = record {
  same : l.newcomer ≡ record l.initial.newcomer { shown = record l.initial.newcomer.shown { local = record l.initial.newcomer.shown.local { peers = l.newcomer.shown.local.peers } } };
  bounds : (g : ℕ) → (peers_of l.newcomer.shown.local.peers).bound g ≡ cond (ltb g l.peer) ((members_of l.self.shown).local g).last_announced forever;
  epochs : (g : ℕ) → (peers_of l.newcomer.shown.local.peers).known_epoch g ≡ cond (ltb g l.peer) ((members_of l.self.shown).local g).epoch 0;
}
