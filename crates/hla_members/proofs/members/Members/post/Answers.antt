use Rattle.std.proofs.Common.{◌≡◌, ◌≤◌, ◌⊎◌, inl, inr, ℕ, List, sym, ap, ◌∙◌, arith}
use Rattle.hla_null_message.specs.declared.message.Message.{Message}
use Rattle.hla_execution.specs.MemberValue.{members_of}
use Rattle.hla_members.proofs.Posting.{posted_nothing, posted_one, less_room}
use Rattle.hla_members.proofs.members.Members.post.Goals as goal
use Rattle.hla_members.proofs.members.Members.post.Goals.{then-peer-eq0-via-then-peer-eq0, then-peer-eq0-via-else-peer-eq0+then-peer-end}

pub returns-then-peer-eq0-clause-wires : goal.returns-then-peer-eq0-clause-wires
returns-then-peer-eq0-clause-wires c =
    let old = members_of c.args.self.now.shown in
    let past : (c.args.addressed.peer ≡ 0) ⊎ (old.next_federate ≤ c.args.addressed.peer) = elim c.then-peer-eq0.branch [
      | then-peer-eq0-via-then-peer-eq0 w ↦ inl w.if-peer-eq0.true
      | then-peer-eq0-via-else-peer-eq0+then-peer-end w ↦ inr (let over = w.if-peer-end.true in omega (arith, c.requires.last, over))
    ] in
    sym (ap (λ (w : ℕ → ℕ → List Message). record old { wire = w }) (posted_nothing c.args.along c.args.addressed old.next_federate old.wire past))

pub returns : goal.returns
returns c =
    let old = members_of c.args.self.now.shown in
    let below = c.if-peer-end.false in
    let number = c.requires.last in
    record {
      wires = rw (c.source.ensures, c.target.ensures) at c.put.ensures.wires
          ∙ ap (λ (w : ℕ → ℕ → List Message). record old { wire = w }) (posted_one c.args.along c.args.addressed old.next_federate old.wire (omega (arith, c.if-peer-eq0.false)) (omega (arith, below, number)));
      room = less_room c.args.along c.args.self.now.rooms c.put.new.self.rooms c.args.addressed (rw (c.source.ensures, c.target.ensures) at c.put.ensures.less) (rw (c.source.ensures, c.target.ensures) at c.put.ensures.room);
    }
