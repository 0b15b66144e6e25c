use Rattle.std.proofs.Common.{◌≡◌, ◌+◌, ℕ, cond, eqb, true, false, Bool, length, refl, sym, ap, ◌∙◌, arith}
use Rattle.std.proofs.lemmas.Bool.Decides.{nat_tests}
use Rattle.hla_base.specs.Rows.{bar_of}
use Rattle.hla_component_rules.specs.LocalValue.{LocalValue}
use Rattle.hla_component_rules.specs.Promising.{entry_for}
use Rattle.hla_members.specs.Changes.{entry_by}
use Rattle.hla_execution.specs.MemberValue.{members_of}
use Rattle.hla_members.proofs.Entries.{greatest_start, greatest_more, greatest_end}
use Rattle.hla_members.proofs.members.Members.entry.Goals as goal
use Rattle.hla_members.proofs.members.Members.entry.Goals.{then-peer-federate, else-peer-federate}

nobody : (b : Bool) → ◌≡◌ {A = ℕ} (cond b 0 0) 0
nobody true = refl
nobody false = refl

pub loop-peer-init : goal.loop-peer-init
loop-peer-init c = greatest_start c.args.earliest (entry_by (members_of c.args.self.now.shown).local c.args.federate) (nobody (eqb c.args.federate 0))

pub loop-peer-preserved : goal.loop-peer-preserved
loop-peer-preserved c =
    let t = entry_by (members_of c.args.self.now.shown).local c.args.federate in
    let peer = c.loop-peer.peer in
    let held : c.if-peer-federate.held ≡ t peer = elim c.if-peer-federate.branch [
      | then-peer-federate w ↦
          let own : eqb c.args.federate peer ≡ true = grind (arith, nat_tests, w.if-peer-federate.true) in
          w.held-is ∙ w.bar-held.ensures ∙ ap (λ (l : LocalValue). bar_of l.row) c.local-local.ensures ∙ sym (ap (λ (b : Bool). cond b (bar_of ((members_of c.args.self.now.shown).local peer).row) (entry_for ((members_of c.args.self.now.shown).local peer).row ((members_of c.args.self.now.shown).local peer).last_announced)) own)
      | else-peer-federate w ↦
          let other : eqb c.args.federate peer ≡ false = grind (arith, nat_tests, w.if-peer-federate.false) in
          w.held-is ∙ w.entry-held.ensures ∙ ap (λ (l : LocalValue). entry_for l.row l.last_announced) c.local-local.ensures ∙ sym (ap (λ (b : Bool). cond b (bar_of ((members_of c.args.self.now.shown).local peer).row) (entry_for ((members_of c.args.self.now.shown).local peer).row ((members_of c.args.self.now.shown).local peer).last_announced)) other)
    ] in
    greatest_more peer c.args.earliest t c.loop-peer.entry c.if-peer-federate.held c.max-entry.result c.loop-peer.invariant held c.max-entry.ensures

pub returns : goal.returns
returns c =
    greatest_end c.loop-peer.peer (length c.args.self.now.shown + 1) c.args.earliest (entry_by (members_of c.args.self.now.shown).local c.args.federate) c.loop-peer.entry c.loop-peer.invariant
    (let most = c.loop-peer.auto.peer-end (omega (arith, c.next_federate-end.ensures.number)) in omega (arith, most, c.loop-peer-test.false, c.next_federate-end.ensures.number))
