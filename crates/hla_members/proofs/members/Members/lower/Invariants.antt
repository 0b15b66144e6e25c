use Rattle.std.proofs.Common.{◌≡◌, ℕ, cond, ltb, ◌&&◌}
use Rattle.hla_base.specs.Tables.{is_other}
use Rattle.hla_lbts.specs.Peers.{peers_of}
use Rattle.hla_members.specs.Changes.{peers_lowered}
use Rattle.hla_execution.specs.MemberValue.{members_of}
use Rattle.hla_members.proofs.members.Members.lower.Given as goal

-- the joined federates so far have learned of it, and nothing else has changed
abbrev pub invariant-loop-peer : goal.invariant-loop-peer
invariant-loop-peer l = record {
  same : members_of l.self.shown ≡ record (members_of l.initial.self.shown) { local = (members_of l.self.shown).local };
  own : (g : ℕ) → (members_of l.self.shown).local g ≡ record ((members_of l.initial.self.shown).local g) { peers = ((members_of l.self.shown).local g).peers };
  peers : (g : ℕ) → peers_of ((members_of l.self.shown).local g).peers
      ≡ cond (ltb g l.peer && is_other (members_of l.initial.self.shown).joined l.federate g) (peers_lowered l.federate l.epoch l.entry (peers_of ((members_of l.initial.self.shown).local g).peers)) (peers_of ((members_of l.initial.self.shown).local g).peers);
}
