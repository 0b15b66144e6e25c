use Rattle.std.proofs.Common.{◌+◌, length, refl, ap, ◌∙◌, arith}
use Rattle.hla_base.specs.Rows.{bar_of}
use Rattle.hla_component_rules.specs.LocalValue.{LocalValue}
use Rattle.hla_execution.specs.MemberValue.{members_of}
use Rattle.hla_members.proofs.Entries.{greatest_start, greatest_more, greatest_end}
use Rattle.hla_members.proofs.members.Members.greatest_bar.Goals as goal

pub loop-peer-init : goal.loop-peer-init
loop-peer-init c = greatest_start c.args.earliest (λ g. bar_of ((members_of c.args.self.now.shown).local g).row) refl

pub loop-peer-preserved : goal.loop-peer-preserved
loop-peer-preserved c =
    greatest_more c.loop-peer.peer c.args.earliest (λ g. bar_of ((members_of c.args.self.now.shown).local g).row) c.loop-peer.entry c.bar.result c.max-entry.result c.loop-peer.invariant
    (c.bar.ensures ∙ ap (λ (l : LocalValue). bar_of l.row) c.local.ensures) c.max-entry.ensures

pub returns : goal.returns
returns c =
    greatest_end c.loop-peer.peer (length c.args.self.now.shown + 1) c.args.earliest (λ g. bar_of ((members_of c.args.self.now.shown).local g).row) c.loop-peer.entry c.loop-peer.invariant
    (let most = c.loop-peer.auto.peer-end (omega (arith, c.next_federate-end.ensures.number)) in omega (arith, most, c.loop-peer-test.false, c.next_federate-end.ensures.number))
