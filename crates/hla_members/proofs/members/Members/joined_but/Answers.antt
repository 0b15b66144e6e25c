-- One number after another is added or passed over.
use Rattle.std.proofs.Common.{ℕ, eqb, not, Bool, true, sym, ap, ◌∙◌, arith}
use Rattle.std.proofs.Math.Bool.{and-false}
use Rattle.hla_base.specs.FederateSets.{federate_set}
use Rattle.hla_base.specs.Tables.{upd, is_other}
use Rattle.hla_execution.specs.MemberValue.{members_of}
use Rattle.hla_members.proofs.Tidings.{passing_none, passing_more, passing_same, others_joined}
use Rattle.hla_members.proofs.members.Members.joined_but.Goals as goal
use Rattle.hla_members.proofs.members.Members.joined_but.Goals.{then-is_other, else-is_other}

pub loop-peer-init : goal.loop-peer-init
loop-peer-init c = c.new-joined.ensures ∙ passing_none (is_other (members_of c.args.self.now.shown).joined c.args.federate) (and-false (not (eqb c.args.federate 0)))

pub loop-peer-preserved : goal.loop-peer-preserved
loop-peer-preserved c =
    let test : ℕ → Bool = is_other (members_of c.args.self.now.shown).joined c.args.federate in
    elim c.if-is_other.branch [
      | then-is_other w ↦ ap federate_set w.joined-is ∙ w.add.ensures ∙ ap (λ (t : ℕ → Bool). upd t c.loop-peer.peer true) c.loop-peer.invariant
          ∙ passing_more test c.loop-peer.peer (sym c.is_other.ensures ∙ w.if-is_other.true)
      | else-is_other w ↦ ap federate_set w.joined-is ∙ c.loop-peer.invariant ∙ passing_same test c.loop-peer.peer (sym c.is_other.ensures ∙ w.if-is_other.false)
    ]

pub returns : goal.returns
returns c = c.loop-peer.invariant ∙ others_joined c.args.self.now.shown c.args.federate c.loop-peer.peer (omega (arith, c.loop-peer-test.false, c.next_federate-end.ensures.number))
